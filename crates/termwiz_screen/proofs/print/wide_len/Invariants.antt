use Rattle.std.proofs.Common.{take}
use Rattle.std.specs.Str.{chars}
use Rattle.termwiz_cell.specs.Measure.{measure}
use Rattle.termwiz_screen.specs.Runs.{AreWide}
use Rattle.termwiz_screen.proofs.print.wide_len.Given as goal

abbrev pub invariant-loop-k : goal.invariant-loop-k
invariant-loop-k g l = AreWide (measure g.W.Widths.width_of l.widths) (take l.k (chars l.run))
