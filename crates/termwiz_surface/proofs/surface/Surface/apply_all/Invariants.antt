use Rattle.std.proofs.Common.{◌≡◌, ◌≤◌, drop}
use Rattle.termwiz_cell.specs.Measure.{measure}
use Rattle.termwiz_surface.specs.ChangeLists.{change_list}
use Rattle.termwiz_surface.proofs.ScrolledOff.{AppliesPart}
use Rattle.termwiz_surface.proofs.surface.Surface.apply_all.Given as goal

abbrev pub invariant-loop-i : goal.invariant-loop-i
invariant-loop-i g l = record {
  part : AppliesPart g.L.LineSink.KEEPS (measure g.W.Widths.width_of l.fn.self.widths) l.fn.self (change_list l.list) (drop l.i (change_list l.list)) (g.L.LineSink.lines_of l.fn.lines) l.self (g.L.LineSink.lines_of l.lines);
  none : l.i ≡ 0 → l.self ≡ l.fn.self;
  spare : g.L.LineSink.spare_of l.lines ≤ g.L.LineSink.spare_of l.fn.lines;
}
