use Rattle.std.proofs.Common.{take}
use Rattle.termwiz_cell.specs.Measure.{measure}
use Rattle.termwiz_screen.specs.Runs.{AreNarrow}
use Rattle.termwiz_screen.proofs.print.narrow_len.Given as goal

abbrev pub invariant-loop-k : goal.invariant-loop-k
invariant-loop-k g l = AreNarrow (measure g.W.Widths.width_of l.widths) (take l.k l.run)
