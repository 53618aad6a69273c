use Rattle.std.proofs.Common.{◌≡◌, ◌++◌}
use Rattle.std.specs.List.{flat_map}
use Rattle.termwiz_cell.specs.Measure.{measure}
use Rattle.termwiz_wire.specs.Encoding.{run}
use Rattle.termwiz_wire.specs.Pieces.{runs}
use Rattle.termwiz_wire.specs.RunsLeft.{runs_left}
use Rattle.termwiz_wire.proofs.encode.texts.put_runs.Given as goal

abbrev pub invariant-loop-run : goal.invariant-loop-run
invariant-loop-run g l = record {
  all : l.yielded ++ runs_left g.W.Widths.width_of l.run-iterator ≡ runs (measure g.W.Widths.width_of l.widths) l.text;
  written : l.out.items ≡ l.fn.out.items ++ flat_map run l.yielded;
}
