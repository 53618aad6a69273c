use Rattle.std.proofs.Common.{inr, sym, ◌∙◌}
use Rattle.termwiz_cell.specs.Measure.{measure}
use Rattle.termwiz_share.specs.Source.{source_of}
use Rattle.termwiz_share.proofs.Answering.{failed, kept_repaint, something}
use Rattle.termwiz_share.proofs.Resumed.{on_ok}
use Rattle.termwiz_share.proofs.responses.Responses.prepare_repaint.Goals as goal

pub returns-then-not-is_empty-clause-put : goal.returns-then-not-is_empty-clause-put
returns-then-not-is_empty-clause-put g c = (kept_repaint (measure g.W.Widths.width_of) (source_of c.args.number c.args.surface.now) c.args.self.now.repaint.items c.requires.has.1 (something c.args.self.now.repaint.items _ c.is_empty.result c.args.self.now.repaint.ok.0 c.is_empty.ensures c.if-not-is_empty.true)).0

pub returns-then-not-is_empty-clause-form : goal.returns-then-not-is_empty-clause-form
returns-then-not-is_empty-clause-form g c = (kept_repaint (measure g.W.Widths.width_of) (source_of c.args.number c.args.surface.now) c.args.self.now.repaint.items c.requires.has.1 (something c.args.self.now.repaint.items _ c.is_empty.result c.args.self.now.repaint.ok.0 c.is_empty.ensures c.if-not-is_empty.true)).1

pub returns-then-is_err-clause-put : goal.returns-then-is_err-clause-put
returns-then-is_err-clause-put g c = failed _ c.put_repaint-put.result (sym c.is_err.ensures.value ∙ c.if-is_err.true)

pub returns-else-is_err-clause-has : goal.returns-else-is_err-clause-has
returns-else-is_err-clause-has g c =
    let done = sym c.is_err.ensures.value ∙ c.if-is_err.false in
    (c.requires.has.0, inr (on_ok _ c.put_repaint-put.result done c.put_repaint-put.ensures.put, on_ok _ c.put_repaint-put.result done c.put_repaint-put.ensures.form))
