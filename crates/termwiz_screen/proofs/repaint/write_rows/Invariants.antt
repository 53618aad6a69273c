use Rattle.std.proofs.Common.{List, map}
use Rattle.termwiz_cell.specs.ChangeValue.{ChangeValue}
use Rattle.termwiz_line.specs.Row.{row_of}
use Rattle.termwiz_screen.specs.ScreenValue.{cells_of}
use Rattle.termwiz_screen.specs.Drawing.{IsBeforeRow, IsWrittenUpto}
use Rattle.termwiz_screen.proofs.repaint.write_rows.Given as goal

abbrev pub invariant-loop-i : goal.invariant-loop-i
invariant-loop-i l = record {
  before : IsBeforeRow l.i l.writer;
  upto : (first : List ChangeValue) → IsWrittenUpto first l.width (map (row_of l.width) (cells_of l.rows.items)) l.from l.fn.writer → IsWrittenUpto first l.width (map (row_of l.width) (cells_of l.rows.items)) l.i l.writer;
}
