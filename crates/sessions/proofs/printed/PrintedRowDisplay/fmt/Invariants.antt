use Rattle.std.proofs.Common.{◌≡◌, ℕ, List, ◌++◌}
use Rattle.std.specs.Fmt.{HasWritten, IsPlainFormatter}
use Rattle.termwiz_storage.specs.CellsLeft.{cells_left}
use Rattle.termwiz_line.specs.Texts.{texts_of}
use Rattle.sessions.specs.Printed.{row_text}
use Rattle.sessions.proofs.printed.PrintedRowDisplay.fmt.Given as goal

-- what is written, with the texts of the cells that are left, is the whole row
abbrev pub invariant-loop-cell : goal.invariant-loop-cell
invariant-loop-cell g l =
    IsPlainFormatter l.initial.f
    → (done : List ℕ) × HasWritten g.W.Write.write_str_gives l.initial.f done l.f × (done ++ texts_of (cells_left l.cell-iterator) ≡ row_text l.fn.self.0.now.cells)
