use Rattle.std.proofs.Common.{◌≡◌, ◌≤◌, ◌<◌, ◌^◌, ◌+◌, ℕ, suc, List, ◌∷◌, length, length-append, sym, ap, ◌∙◌, arith, rules}
use Rattle.termwiz_cell.specs.Measure.{measure}
use Rattle.termwiz_wire.specs.Pieces.{runs}
use Rattle.termwiz_wire.specs.RunsLeft.{runs_left}
use Rattle.termwiz_wire.specs.declared.pieces.Run.{Run}
use Rattle.termwiz_wire.proofs.Runs.{length-runs}
use Rattle.termwiz_wire.proofs.pieces.counted_runs.Goals as goal

pub overflow_add-count : goal.overflow_add-count
overflow_add-count g c =
    let f : List ℕ → ℕ = measure g.W.Widths.width_of c.args.widths.now in
    let text : List ℕ = c.args.text.now in
    let left : List Run = runs_left g.W.Widths.width_of c.loop-run.run-iterator in
    let after : List Run = runs_left g.W.Widths.width_of c.next.new.self in
    let all : length c.loop-run.yielded + length left ≡ length (runs f text) = sym (length-append c.loop-run.yielded left) ∙ ap length c.loop-run.invariant.0 in
    let steps : left ≡ c.in-Some.run' ∷ after = c.in-Some.ensures.steps in
    let more : length left ≡ suc (length after) = ap length steps in
    let few : length (runs f text) ≤ length text = length-runs f text c.utf8.text in
    let fits : length text < 2 ^ 64 = search rules in
    omega arith
