use Rattle.std.proofs.Common.{◌≡◌, ◌≤◌, ◌+◌, length}
use denote.Text.{Utf8}
use denote.Shadow.{shadow}
use Rattle.termwiz_cell.specs.Measure.{measure}
use Rattle.termwiz_wire.specs.Pieces.{before, runs}
use Rattle.termwiz_wire.proofs.pieces.whole_run.Given as goal

abbrev pub invariant-loop-next : goal.invariant-loop-next
invariant-loop-next g l =
    shadow (Utf8 l.left)
    × (before l.fn.first (runs (measure g.W.Widths.width_of l.widths) l.fn.rest) ≡ before l.run (runs (measure g.W.Widths.width_of l.widths) l.left))
    × (l.run.count + length l.left ≤ l.fn.first.count + length l.fn.rest)
    × (length l.left ≤ length l.fn.rest)

abbrev pub decreases-loop-next : goal.decreases-loop-next
decreases-loop-next g l = length l.left
