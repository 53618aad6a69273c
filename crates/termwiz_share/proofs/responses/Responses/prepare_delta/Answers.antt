use Rattle.std.proofs.Common.{inl, sym, ◌∙◌}
use Rattle.termwiz_cell.specs.Measure.{measure}
use Rattle.termwiz_share.specs.Source.{source_of}
use Rattle.termwiz_share.proofs.Answering.{has_delta}
use Rattle.termwiz_share.proofs.responses.Responses.prepare_delta.Goals as goal

pub returns-then-is_err-clause-has : goal.returns-then-is_err-clause-has
returns-then-is_err-clause-has g c = (inl c.clear-then-is_err.ensures.items, c.requires.has.1)

pub returns-else-is_err-clause-has : goal.returns-else-is_err-clause-has
returns-else-is_err-clause-has g c =
    (has_delta (measure g.W.Widths.width_of) (source_of c.args.number c.args.surface.now) c.args.from c.args.most c.put_delta-put.new.out.items c.put_delta-put.result (sym c.is_err.ensures.value ∙ c.if-is_err.false) c.requires.most c.put_delta-put.ensures, c.requires.has.1)
