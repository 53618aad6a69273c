-- A visible cell of a list.
use Rattle.std.specs.Prelude.{ℕ}
use Rattle.termwiz_cell.specs.CellValue.{CellValue}

-- the column at which it begins, and the cell
pub record VisibleCell : Type 0 where
  pub column : ℕ
  pub cell : CellValue

-- the cell that begins at this column
abbrev pub at_column : ℕ → CellValue → VisibleCell
at_column x c = record { column = x; cell = c }
