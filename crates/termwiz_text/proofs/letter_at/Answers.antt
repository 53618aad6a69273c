use Rattle.std.proofs.Common.{◌≡◌, ◌+◌, ◌*◌, arith, subst, ◌∙◌}
use Rattle.std.specs.Str.{IsCharBoundary}
use Rattle.termwiz_text.proofs.LetterRuns.{length-letters, boundary_in_letters, letter_in_run}
use Rattle.termwiz_text.proofs.letter_at.Goals as goal

pub overflow_mul-k : goal.overflow_mul-k
overflow_mul-k c = omega (arith, length-letters c.args.run.now c.utf8.run c.requires.letters)

pub overflow_mul-k-2 : goal.overflow_mul-k-2
overflow_mul-k-2 c = omega (arith, length-letters c.args.run.now c.utf8.run c.requires.letters)

pub overflow_add-k : goal.overflow_add-k
overflow_add-k c = omega (arith, length-letters c.args.run.now c.utf8.run c.requires.letters)

pub range-requires-clause-start_boundary : goal.range-requires-clause-start_boundary
range-requires-clause-start_boundary c = λ _. boundary_in_letters c.args.run.now c.utf8.run c.requires.letters c.args.k (omega arith)

pub range-requires-clause-end_boundary : goal.range-requires-clause-end_boundary
range-requires-clause-end_boundary c =
    let next : 3 * (c.args.k + 1) ≡ 3 * c.args.k + 3 = omega arith in
    subst (IsCharBoundary c.args.run.now) next (boundary_in_letters c.args.run.now c.utf8.run c.requires.letters (c.args.k + 1) (omega arith))

pub returns : goal.returns
returns c = c.range.ensures.value ∙ letter_in_run c.args.run.now c.utf8.run c.requires.letters c.args.k c.requires.inside
