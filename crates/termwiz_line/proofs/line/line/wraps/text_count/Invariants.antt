use Rattle.termwiz_storage.specs.CellsLeft.{cells_left}
use Rattle.termwiz_line.specs.Wraps.{IsSpace}
use Rattle.termwiz_line.proofs.Trims.{IsTrimUnderWay}
use Rattle.termwiz_line.proofs.line.line.wraps.text_count.Given as goal

abbrev pub invariant-loop-cell : goal.invariant-loop-cell
invariant-loop-cell l = record {
  can : (goal.iterator-loop-cell).can_next l.cell-iterator;
  finite : (goal.iterator-loop-cell).is_finite l.cell-iterator;
  trim : IsTrimUnderWay IsSpace (cells_left l.fn.cells) l.seen l.kept (cells_left l.cell-iterator);
}
