use Rattle.std.proofs.Common.{[], ◌++◌, Result, inr, refl, ◌∙◌}
use Rattle.std.specs.Prelude.{IfErr}
use Rattle.termwiz_cell.specs.Measure.{measure}
use Rattle.termwiz_share.specs.declared.error.ClientError.TheVariants as errors
use Rattle.termwiz_surface.specs.{change_value}
use Rattle.uses.specs.Streams.{FailsToAnswerBoth}
use Rattle.uses.specs.declared.serving.ShareError.TheVariants.{Unserved}
use Rattle.uses.proofs.Returned.{returned}
use Rattle.uses.proofs.TwoSources.{fails_first}
use Rattle.uses.proofs.two_sources.stream_of_both.Goals as goal

pub returns-clause-stream : goal.returns-clause-stream
returns-clause-stream g c = record {
  early = c.in_ok-early.early.items;
  late = c.in_ok-early.late.items;
  other = c.in_ok-other.other.items;
  answers = c.in_ok-early.ensures.answers;
  response = c.in_ok-other.ensures.response;
  number = c.in_ok-other.ensures.preserves.number;
  widths = c.in_ok-other.ensures.widths;
  names = c.in_ok-other.ensures.preserves.surface.names;
  is = c.in_ok-stream.ensures
      ∙ (λ i. c.deref.ensures.value i ++ (c.deref-2.ensures.value i ++ (c.deref.ensures.value i ++ (c.deref.ensures.value i ++ (c.deref-3.ensures.value i ++ [])))));
}

pub returns-in_err-early-clause-fails : goal.returns-in_err-early-clause-fails
returns-in_err-early-clause-fails g c =
    let f = measure g.W.Widths.width_of in
    let first = c.args.first.now in
    let second = c.args.second.now in
    let e = c.in_err-early.field-0.0 in
    returned (λ (r : Result _ _). IfErr r (λ error. FailsToAnswerBoth f first second (change_value c.args.change) error c.answer_twice.new.source second)) e c.from_residual.result c.from_residual.ensures.1
    (fails_first f first second c.answer_twice.new.source (change_value c.args.change) e c.in_err-early.ensures.fails)

-- there is no memory for the other source's answer
pub returns-in_err-other-clause-fails : goal.returns-in_err-other-clause-fails
returns-in_err-other-clause-fails g c =
    returned (λ (r : Result _ _). IfErr r (λ error. FailsToAnswerBoth (measure g.W.Widths.width_of) c.args.first.now c.args.second.now (change_value c.args.change) error c.answer_twice.new.source c.response.new.source)) (Unserved errors.Memory) c.from_residual-in_err-other.result c.from_residual-in_err-other.ensures.1
    (refl, inr c.in_ok-early.ensures.answers.made)

-- or for the stream
pub returns-in_err-stream-clause-fails : goal.returns-in_err-stream-clause-fails
returns-in_err-stream-clause-fails g c =
    returned (λ (r : Result _ _). IfErr r (λ error. FailsToAnswerBoth (measure g.W.Widths.width_of) c.args.first.now c.args.second.now (change_value c.args.change) error c.answer_twice.new.source c.response.new.source)) (Unserved errors.Memory) c.from_residual-in_err-stream.result c.from_residual-in_err-stream.ensures.1
    (refl, inr c.in_ok-early.ensures.answers.made)
