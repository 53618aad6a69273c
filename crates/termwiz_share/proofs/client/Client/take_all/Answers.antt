use Rattle.std.proofs.Common.{◌∙◌, sym}
use Rattle.std.proofs.lemmas.Result.{err_from_is_err_and}
use Rattle.termwiz_cell.specs.Measure.{measure}
use Rattle.termwiz_share.proofs.Taking.{counted_more, counted_none, reads_all, reads_some}
use Rattle.termwiz_surface.proofs.RowNumbers.{numbers-same, numbers-then}
use Rattle.termwiz_share.proofs.client.Client.take_all.Goals as goal

pub answers-init : goal.answers-init
answers-init g c = record {
  taken = counted_none (measure g.W.Widths.width_of) c.args.self.now;
  numbered = numbers-same c.args.self.now.surface;
}

pub answers-preserved : goal.answers-preserved
answers-preserved g c = record {
  taken = counted_more (measure g.W.Widths.width_of) c.args.self.now c.answers.self c.take_answer.new.self c.answers.count c.in_ok-take_answer.field-0 c.requires.reading c.answers.invariant.taken c.in_ok-take_answer.ensures.takes
      (c.in_ok-take_answer.ensures.shorter (sym c.is_some.ensures ∙ c.if-is_some.true)) c.is_some.result c.is_some.ensures c.if-is_some.true;
  numbered = numbers-then c.args.self.now.surface c.answers.self.surface c.take_answer.new.self.surface c.answers.invariant.numbered c.in_ok-take_answer.ensures.numbered;
}

pub returns-in_err-take_answer-clause-reads : goal.returns-in_err-take_answer-clause-reads
returns-in_err-take_answer-clause-reads g c =
    let p = err_from_is_err_and c.from_residual.result c.from_residual.ensures.1 in
    rw (p.1, p.2) (reads_some (measure g.W.Widths.width_of) c.args.self.now c.answers.self c.take_answer.new.self c.answers.count c.in_err-take_answer.field-0.0 c.requires.reading c.answers.invariant.taken c.in_err-take_answer.ensures.takes)

pub returns-clause-reads : goal.returns-clause-reads
returns-clause-reads g c = reads_all (measure g.W.Widths.width_of) c.args.self.now c.answers.self c.take_answer.new.self c.answers.count c.in_ok-take_answer.field-0 c.requires.reading c.answers.invariant.taken c.in_ok-take_answer.ensures.takes c.is_some.result c.is_some.ensures c.if-is_some.false

pub returns-in_err-take_answer-clause-numbered : goal.returns-in_err-take_answer-clause-numbered
returns-in_err-take_answer-clause-numbered g c = numbers-then c.args.self.now.surface c.answers.self.surface c.take_answer.new.self.surface c.answers.invariant.numbered c.in_err-take_answer.ensures.numbered
