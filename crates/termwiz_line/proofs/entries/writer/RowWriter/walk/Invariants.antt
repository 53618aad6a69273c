use Rattle.std.proofs.Common.{◌≡◌, ◌++◌, List, map}
use Rattle.termwiz_storage.specs.CellRef.{indexed_cell}
use Rattle.termwiz_storage.specs.CellsLeft.{cells_left}
use Rattle.termwiz_storage.specs.VisibleCell.{VisibleCell}
use Rattle.termwiz_line.specs.Entries.{Penned}
use Rattle.termwiz_line.specs.Writing.{IsWritten}
use Rattle.termwiz_line.proofs.entries.writer.RowWriter.walk.Given as goal

-- the cells so far are written
abbrev pub invariant-loop-cell : goal.invariant-loop-cell
invariant-loop-cell l = record {
  can : (goal.iterator-loop-cell).can_next l.cell-iterator;
  finite : (goal.iterator-loop-cell).is_finite l.cell-iterator;
  written : (from : Penned) (before : List VisibleCell) → IsWritten from before l.fn.self → IsWritten from (before ++ map indexed_cell l.yielded) l.self;
  same : map indexed_cell l.yielded ++ cells_left l.cell-iterator ≡ cells_left l.initial.cell-iterator;
}
