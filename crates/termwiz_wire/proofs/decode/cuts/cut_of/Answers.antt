use Rattle.std.proofs.Common.{◌∙◌}
use Rattle.std.proofs.lemmas.Result.{err_from_is_err_and}
use Rattle.termwiz_wire.proofs.CutLoops.{cut_all, cut_not, cut_stop}
use Rattle.termwiz_wire.proofs.decode.cuts.cut_of.Goals as goal

pub returns-in_err-all_runs-clause-value : goal.returns-in_err-all_runs-clause-value
returns-in_err-all_runs-clause-value c =
    let p = err_from_is_err_and c.from_residual-in_err-all_runs.result c.from_residual-in_err-all_runs.ensures.1 in
    rw (p.1, p.2) (cut_stop _ c.in_err-all_runs.field-0.0 _ _ c.args.text.now _ _ _ _ c.threes_of.ensures.room (c.as_slice.ensures.value ∙ c.in_ok-characters.ensures) c.in_ok-count.ensures.value c.in_err-all_runs.ensures.value)

pub returns-then-branch-clause-value : goal.returns-then-branch-clause-value
returns-then-branch-clause-value c =
    cut_all _ _ c.args.text.now _ _ _ _ _ _ c.threes_of.ensures.room (c.as_slice.ensures.value ∙ c.in_ok-characters.ensures) c.in_ok-count.ensures.value c.in_ok-all_runs.ensures.value c.if-branch.true

pub returns-clause-value : goal.returns-clause-value
returns-clause-value c =
    rw (c.in_ok-all_runs.ensures.room ∙ c.threes_of.ensures.room) (cut_not _ _ c.args.text.now _ _ _ _ _ _ c.threes_of.ensures.room (c.as_slice.ensures.value ∙ c.in_ok-characters.ensures) c.in_ok-count.ensures.value c.in_ok-all_runs.ensures.value c.if-branch.false)
