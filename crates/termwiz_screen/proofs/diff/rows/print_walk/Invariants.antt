use Rattle.std.proofs.Common.{◌≡◌, ◌+◌, ◌-◌, ◌≤◌, ℕ, List, fold, map, min}
use Rattle.termwiz_cell.specs.CellValue.{CellValue}
use Rattle.termwiz_storage.specs.CellsLeft.{cells_left}
use Rattle.termwiz_storage.specs.Stored.{visible}
use Rattle.termwiz_line.specs.Row.{row_of}
use Rattle.termwiz_screen.specs.Diff.{in_row, print_out, row_need}
use Rattle.termwiz_screen.proofs.RowChanges.Walked.{IsAt}
use Rattle.termwiz_screen.proofs.diff.rows.print_walk.Given as goal

-- what the columns so far need is printed, and the walk stands at the next
abbrev pub invariant-loop-cell : goal.invariant-loop-cell
invariant-loop-cell l = record {
  can : (goal.iterator-loop-cell).can_next l.cell-iterator;
  finite : (goal.iterator-loop-cell).is_finite l.cell-iterator;
  at : (cs : List CellValue) → cells_left l.initial.cell-iterator ≡ visible cs → IsAt cs l.next (cells_left l.cell-iterator);
  reached : l.next ≤ l.region.other_x + l.region.width + 1;
  printed : (w : ℕ) (cs : List CellValue) → cells_left l.initial.cell-iterator ≡ visible cs → l.region.other_x + l.region.width ≤ w → l.writer ≡ fold print_out l.fn.writer (map (in_row l.row) (row_need l.own l.region.x (row_of w cs) l.region.other_x (min l.region.width (l.next - l.region.other_x))));
}
