use Rattle.std.proofs.Common.{ℕ, ◌≤◌, List, [], ◌∷◌, get_or, arith}
use Rattle.std.proofs.lemmas.List.Elements.{All-more}
use Rattle.termwiz_cell.specs.Measure.{measure}
use Rattle.termwiz_screen.proofs.Runs.{one_byte}
use Rattle.termwiz_screen.proofs.print.narrow_len.Goals as goal

pub loop-k-preserved : goal.loop-k-preserved
loop-k-preserved g c =
    let run : List ℕ = c.args.run.now in
    let f : List ℕ → ℕ = measure g.W.Widths.width_of c.args.widths.now in
    let here : f (get_or run c.loop-k.k 0 ∷ []) ≤ 1 = rw (← one_byte run c.loop-k.k c.loop-k-test.true, ← c.range.ensures.value, ← c.width.ensures) c.if-width-gt1.false in
    All-more (λ b. f (b ∷ []) ≤ 1) run c.loop-k.k 0 (omega arith) c.loop-k.invariant here
