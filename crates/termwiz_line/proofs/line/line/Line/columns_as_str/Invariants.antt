use Rattle.std.proofs.Common.{◌≡◌, ◌++◌, string_bytes}
use Rattle.termwiz_storage.specs.CellsLeft.{cells_left}
use Rattle.termwiz_storage.specs.Stored.{visible}
use Rattle.termwiz_line.specs.Texts.{texts_between}
use Rattle.termwiz_line.proofs.line.line.Line.columns_as_str.Given as goal

-- what is left to write leads to the whole text
abbrev pub invariant-loop-cell : goal.invariant-loop-cell
invariant-loop-cell l = string_bytes l.text ++ texts_between l.range.start l.range.end (cells_left l.cell-iterator) ≡ texts_between l.range.start l.range.end (visible l.self.cells)
