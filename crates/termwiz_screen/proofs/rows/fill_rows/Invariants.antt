use Rattle.termwiz_screen.specs.ScreenValue.{cells_of}
use Rattle.termwiz_screen.specs.Rows.{AreFilled}
use Rattle.termwiz_screen.specs.Sides.{KeepSides}
use Rattle.termwiz_screen.proofs.rows.fill_rows.Given as goal

abbrev pub invariant-loop-j : goal.invariant-loop-j
invariant-loop-j l = record {
  filled : AreFilled l.width l.x l.y l.j l.cell (cells_of l.fn.rows.items) (cells_of l.rows.items);
  sides : KeepSides l.fn.rows.items l.rows.items;
}
