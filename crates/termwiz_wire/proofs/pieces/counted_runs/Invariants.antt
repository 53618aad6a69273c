use Rattle.std.proofs.Common.{◌≡◌, ◌++◌, length}
use Rattle.termwiz_cell.specs.Measure.{measure}
use Rattle.termwiz_wire.specs.Pieces.{needs_pieces, runs}
use Rattle.termwiz_wire.specs.RunsLeft.{runs_left}
use Rattle.termwiz_wire.proofs.pieces.counted_runs.Given as goal

abbrev pub invariant-loop-run : goal.invariant-loop-run
invariant-loop-run g l =
    (l.yielded ++ runs_left g.W.Widths.width_of l.run-iterator ≡ runs (measure g.W.Widths.width_of l.widths) l.text)
    × (l.count ≡ length l.yielded)
    × (l.needed ≡ needs_pieces l.yielded)
