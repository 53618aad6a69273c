use Rattle.std.proofs.Common.{◌≡◌}
use Rattle.termwiz_storage.specs.CellsLeft.{cells_left}
use Rattle.termwiz_storage.proofs.line.storage.shows_same.Given as goal

-- what is left is the same exactly where all is
abbrev pub invariant-loop-cell : goal.invariant-loop-cell
invariant-loop-cell l = record {
  can : (goal.iterator-loop-cell).can_next l.cell-iterator;
  finite : (goal.iterator-loop-cell).is_finite l.cell-iterator;
  all : cells_left l.cell-iterator ≡ cells_left l.others → cells_left l.initial.cell-iterator ≡ cells_left l.initial.others;
  left : cells_left l.initial.cell-iterator ≡ cells_left l.initial.others → cells_left l.cell-iterator ≡ cells_left l.others;
}
