use Rattle.std.proofs.Common.{◌≡◌, ◌∙◌, ◌<◌, ◌≤◌, ◌-◌, ℕ, List, length, drop, true, sym, ap, arith}
use Rattle.std.specs.Str.{chars}
use Rattle.termwiz_text.specs.Letter.{begins_simple}
use Rattle.termwiz_text.proofs.LetterRuns.{boundary_after_letters, chars-drop_letters, run_of_letters, marked_behind, begins_not_simple}
use Rattle.termwiz_text.proofs.split_letter_run.Goals as goal
use Rattle.termwiz_text.proofs.split_letter_run.Goals.{then-count-eq0-via-then-count-eq0, then-count-eq0-via-else-count-eq0+then-begins_simple}

pub overflow_mul-count : goal.overflow_mul-count
overflow_mul-count c =
    let count = c.count_letters-count.ensures in
    let l = (boundary_after_letters c.args.text.now c.utf8.text c.count_letters-count.result (omega (arith, count.within)) count.letters).0 in
    omega (arith, l)

pub split_at-requires : goal.split_at-requires
split_at-requires c =
    let count = c.count_letters-count.ensures in
    boundary_after_letters c.args.text.now c.utf8.text c.count_letters-count.result (omega (arith, count.within)) count.letters

pub returns-then-count-eq0 : goal.returns-then-count-eq0
returns-then-count-eq0 c =
    let text : List ℕ = c.args.text.now in
    let n : ℕ = c.count_letters-count.result in
    let count = c.count_letters-count.ensures in
    let inside : n ≤ length (chars text) = omega (arith, count.within) in
    let back : chars c.split_at.result.1.now ≡ drop n (chars text) = ap chars c.split_at.ensures.back ∙ chars-drop_letters text c.utf8.text n inside count.letters in
    let unmarked : 0 < n → begins_simple (drop n (chars text)) ≡ true =
    λ some. elim c.then-count-eq0.branch [
      | then-count-eq0-via-then-count-eq0 w ↦ let none : n ≡ 0 = w.if-count-eq0.true in absurd (omega arith)
      | then-count-eq0-via-else-count-eq0+then-begins_simple w ↦ ap begins_simple (sym back) ∙ sym w.begins_simple.ensures ∙ w.if-begins_simple.true
    ] in
    run_of_letters text c.split_at.result.0.now c.split_at.result.1.now c.args.limit n c.utf8.text c.split_at.ensures.front c.split_at.ensures.back count.within count.letters unmarked
    (λ l. begins_not_simple (drop n (chars text)) (count.stops l))

pub split_at-requires-2 : goal.split_at-requires-2
split_at-requires-2 c =
    let count = c.count_letters-count.ensures in
    let back = marked_behind c.args.text.now c.split_at.result.1.now c.count_letters-count.result c.utf8.text c.if-count-eq0.false (omega (arith, count.within)) count.letters c.split_at.ensures.back (sym c.begins_simple.ensures ∙ c.if-begins_simple.false) in
    boundary_after_letters c.args.text.now c.utf8.text (c.count_letters-count.result - 1) (omega (arith, count.within)) back.letters

pub returns : goal.returns
returns c =
    let count = c.count_letters-count.ensures in
    let back = marked_behind c.args.text.now c.split_at.result.1.now c.count_letters-count.result c.utf8.text c.if-count-eq0.false (omega (arith, count.within)) count.letters c.split_at.ensures.back (sym c.begins_simple.ensures ∙ c.if-begins_simple.false) in
    run_of_letters c.args.text.now c.split_at-2.result.0.now c.split_at-2.result.1.now c.args.limit (c.count_letters-count.result - 1) c.utf8.text c.split_at-2.ensures.front c.split_at-2.ensures.back
    (omega (arith, count.within)) back.letters (λ _. back.unmarked) (λ _. back.none_lone)
