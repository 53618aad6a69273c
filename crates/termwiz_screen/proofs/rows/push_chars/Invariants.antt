use Rattle.std.proofs.Common.{◌≡◌, ◌++◌, string_bytes}
use Rattle.termwiz_storage.specs.CellsLeft.{cells_left}
use Rattle.termwiz_storage.specs.Stored.{visible}
use Rattle.termwiz_line.specs.Texts.{texts_of}
use Rattle.termwiz_screen.proofs.rows.push_chars.Given as goal

-- what is left to write leads to the whole row
abbrev pub invariant-loop-cell : goal.invariant-loop-cell
invariant-loop-cell l = string_bytes l.text ++ texts_of (cells_left l.cell-iterator) ≡ string_bytes l.fn.text ++ texts_of (visible l.line.cells)
