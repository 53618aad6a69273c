use Rattle.std.proofs.Common.{◌++◌, List, length}
use Rattle.termwiz_storage.specs.VisibleCell.{VisibleCell}
use Rattle.termwiz_line.specs.Entries.{Penned}
use Rattle.termwiz_line.specs.Writing.{IsWritten, IsUnderWay}
use Rattle.termwiz_line.proofs.entries.writer.RowWriter.stored_cells.Given as goal

-- the cells that aren't left are written
abbrev pub invariant-loop-cell : goal.invariant-loop-cell
invariant-loop-cell l = (from : Penned) (before : List VisibleCell) → IsWritten from before l.fn.self → IsUnderWay from (before ++ l.initial.left) l.left l.self

abbrev pub decreases-loop-cell : goal.decreases-loop-cell
decreases-loop-cell l = length l.left
