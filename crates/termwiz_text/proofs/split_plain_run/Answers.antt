use Rattle.std.proofs.Common.{◌≡◌, ◌∙◌, ◌<◌, ◌-◌, ℕ, List, drop, true, sym, ap, arith}
use Rattle.std.specs.Str.{chars}
use Rattle.termwiz_text.specs.Letter.{begins_simple}
use Rattle.termwiz_text.proofs.Plain.{boundary_after_run, boundary_before_last, none_alone, plain_before_last, run_of, step_back}
use Rattle.termwiz_text.proofs.split_plain_run.Goals as goal
use Rattle.termwiz_text.proofs.split_plain_run.Goals.{then-count-eq0-via-then-count-eq0, then-count-eq0-via-else-count-eq0+then-begins_simple}

pub split_at-requires : goal.split_at-requires
split_at-requires c =
    let count = rw c.as_bytes.ensures.value at c.count_plain-count.ensures in
    boundary_after_run c.args.text.now c.count_plain-count.result c.utf8.text (omega (arith, count.within)) count.plain

pub returns-then-count-eq0 : goal.returns-then-count-eq0
returns-then-count-eq0 c =
    let text : List ℕ = c.args.text.now in
    let n : ℕ = c.count_plain-count.result in
    let count = rw c.as_bytes.ensures.value at c.count_plain-count.ensures in
    let unmarked : 0 < n → begins_simple (chars (drop n text)) ≡ true =
    λ some. elim c.then-count-eq0.branch [
      | then-count-eq0-via-then-count-eq0 w ↦ let none : n ≡ 0 = w.if-count-eq0.true in absurd (omega arith)
      | then-count-eq0-via-else-count-eq0+then-begins_simple w ↦ ap (λ t. begins_simple (chars t)) (sym c.split_at.ensures.back) ∙ sym w.begins_simple.ensures ∙ w.if-begins_simple.true
    ] in
    run_of text c.split_at.result.0.now c.split_at.result.1.now c.args.limit n c.utf8.text c.split_at.ensures.front c.split_at.ensures.back count.within count.plain unmarked
    (λ l. none_alone text n (λ inside. count.stops (omega arith)))

pub split_at-requires-2 : goal.split_at-requires-2
split_at-requires-2 c =
    let count = rw c.as_bytes.ensures.value at c.count_plain-count.ensures in
    boundary_before_last c.args.text.now c.count_plain-count.result c.utf8.text (omega (arith, count.within)) count.plain

pub returns : goal.returns
returns c =
    let text : List ℕ = c.args.text.now in
    let n : ℕ = c.count_plain-count.result in
    let count = rw c.as_bytes.ensures.value at c.count_plain-count.ensures in
    let back = step_back text n c.utf8.text c.if-count-eq0.false (omega (arith, count.within)) count.plain (ap (λ t. begins_simple (chars t)) (sym c.split_at.ensures.back) ∙ sym c.begins_simple.ensures ∙ c.if-begins_simple.false) in
    run_of text c.split_at-2.result.0.now c.split_at-2.result.1.now c.args.limit (n - 1) c.utf8.text c.split_at-2.ensures.front c.split_at-2.ensures.back
    (omega (arith, count.within)) (plain_before_last n text count.plain) (λ _. back.unmarked) (λ _. back.none_alone)
