use Rattle.std.proofs.Common.{◌≡◌}
use Rattle.termwiz_cell.specs.CellValue.{blank_of}
use Rattle.termwiz_storage.specs.CellsLeft.{cells_left}
use Rattle.termwiz_storage.specs.Stored.{visible}
use Rattle.termwiz_screen.specs.Padding.{all_are}
use Rattle.termwiz_screen.proofs.shown.is_blank_row.Given as goal

-- the cells before were such blanks
abbrev pub invariant-loop-shown : goal.invariant-loop-shown
invariant-loop-shown l = all_are (blank_of l.attrs) (cells_left l.shown-iterator) ≡ all_are (blank_of l.attrs) (visible l.row.cells)
