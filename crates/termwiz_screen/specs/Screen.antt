-- A screen: its size, a row of that width for each line, a cursor, whether it is shown, and the
-- pen, the attributes of coming text.
use Rattle.std.specs.Prelude.{ℕ, List, [], slice_index_or}
use Rattle.termwiz_cell.specs.Attributes.{Attributes}
use Rattle.termwiz_cell.specs.CellValue.{CellValue}
use Rattle.termwiz_cell.specs.declared.change.CursorVisibility.{CursorVisibility}

pub record Screen : Type 0 where
  pub width : ℕ
  pub height : ℕ
  pub rows : List (List CellValue)
  pub x : ℕ
  pub y : ℕ
  pub visibility : CursorVisibility
  pub pen : Attributes

abbrev pub row_at : List (List CellValue) → ℕ → List CellValue
row_at rows i = slice_index_or rows i []
