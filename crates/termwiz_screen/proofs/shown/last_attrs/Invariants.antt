use Rattle.std.proofs.Common.{◌≡◌}
use Rattle.termwiz_storage.specs.CellsLeft.{cells_left}
use Rattle.termwiz_storage.specs.Stored.{visible}
use Rattle.termwiz_line.specs.Entries.{pen_behind}
use Rattle.termwiz_screen.proofs.shown.last_attrs.Given as goal

-- the last of the cells that are left is the last of all
abbrev pub invariant-loop-cell : goal.invariant-loop-cell
invariant-loop-cell l = pen_behind l.attrs (cells_left l.cell-iterator) ≡ pen_behind l.padding.attrs (visible l.row.cells)
