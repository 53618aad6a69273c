use Rattle.std.proofs.Common.{take}
use Rattle.termwiz_storage.specs.CellRef.{indexed_cell}
use Rattle.termwiz_storage.specs.CellsLeft.{cells_left, IsOfCell}
use Rattle.termwiz_line.proofs.Wrapping.{IsWrapping}
use Rattle.termwiz_line.proofs.line.line.wraps.lines_from.Given as goal

abbrev pub invariant-loop-cell : goal.invariant-loop-cell
invariant-loop-cell l = record {
  can : (goal.iterator-loop-cell).can_next l.cell-iterator;
  finite : (goal.iterator-loop-cell).is_finite l.cell-iterator;
  of_cell : IsOfCell l.last;
  wrapping : IsWrapping l.width l.seqno (indexed_cell l.fn.first) (take l.fn.count (cells_left l.fn.rest)) (take l.left (cells_left l.cell-iterator)) l.lines.items l.line.items (indexed_cell l.last) l.used;
}
