use Rattle.std.proofs.Common.{◌≡◌}
use Rattle.termwiz_cell.specs.Measure.{measure}
use Rattle.termwiz_wire.specs.Cuts.{are_at}
use Rattle.termwiz_wire.specs.Pieces.{runs}
use Rattle.termwiz_wire.specs.RunsLeft.{runs_left}
use Rattle.termwiz_wire.proofs.decode.cuts.are_runs.Given as goal

abbrev pub invariant-loop-run : goal.invariant-loop-run
invariant-loop-run g l = record {
  rest : are_at l.fn.reader.room (runs_left g.W.Widths.width_of l.run-iterator) l.reader.bytes.now ≡ are_at l.fn.reader.room (runs (measure g.W.Widths.width_of l.widths) l.text) l.fn.reader.bytes.now;
  room : l.reader.room ≡ l.fn.reader.room;
}
