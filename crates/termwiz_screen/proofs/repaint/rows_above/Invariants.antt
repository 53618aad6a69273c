use Rattle.std.proofs.Common.{◌≡◌, ◌≤◌, map, length}
use Rattle.termwiz_line.specs.Row.{row_of}
use Rattle.termwiz_screen.specs.ScreenValue.{cells_of}
use Rattle.termwiz_screen.specs.Repaint.{first_blank}
use Rattle.termwiz_screen.proofs.repaint.rows_above.Given as goal

-- the rows below are blank
abbrev pub invariant-loop-above : goal.invariant-loop-above
invariant-loop-above l = record {
  within : l.above ≤ length (cells_of l.rows.items);
  below : first_blank l.width l.attrs (map (row_of l.width) (cells_of l.rows.items)) l.above ≡ first_blank l.width l.attrs (map (row_of l.width) (cells_of l.rows.items)) (length (cells_of l.rows.items));
}

abbrev pub decreases-loop-above : goal.decreases-loop-above
decreases-loop-above l = l.above
