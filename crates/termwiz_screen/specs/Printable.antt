-- What text can print: stored cells, rows and screens whose visible cells are single graphemes,
-- with the width that is measured for them.
-- And the screens that it can be printed on.
use Rattle.std.specs.Prelude.{◌≡◌, ℕ, ◌<◌, ◌≤◌, false, List, length, set, replicate}
use Rattle.termwiz_cell.specs.Attributes.{Attributes}
use Rattle.termwiz_cell.specs.CellValue.{CellValue, blank}
use Rattle.termwiz_storage.specs.Stored.{stored, hides}
use Rattle.termwiz_line.specs.Row.{IsRow, is_hidden}
use Rattle.termwiz_screen.specs.Screen.{Screen, row_at}
use Rattle.termwiz_screen.specs.Measured.{IsMeasured}

-- stored cells whose visible ones are measured
pub record ArePrintable (measure : List ℕ → ℕ) (cells : List CellValue) : Type 0 where
  pub measured :
      (k : ℕ) → k < length cells → hides cells k ≡ false → IsMeasured measure (stored cells k)

-- a row whose visible cells are measured
pub record IsPrintableRow (measure : List ℕ → ℕ) (w : ℕ) (r : List CellValue) : Type 0 where
  pub row : IsRow w r
  pub measured : (k : ℕ) → k < w → is_hidden r k ≡ false → IsMeasured measure (stored r k)

-- a screen of such rows, with the cursor inside or one past the end of its row
pub record IsPrintable (measure : List ℕ → ℕ) (t : Screen) : Type 0 where
  pub some_column : 0 < t.width
  pub full : length t.rows ≡ t.height
  pub rows_so : (j : ℕ) → j < t.height → IsPrintableRow measure t.width (row_at t.rows j)
  pub column : t.x ≤ t.width
  pub row : t.y < t.height

-- a screen whose cursor is at the start of a blank row
pub record IsAtBlankRow (s : Screen) : Type 0 where
  pub column : s.x ≡ 0
  pub row : s.y < length s.rows
  pub blank_so : row_at s.rows s.y ≡ replicate s.width blank

-- a screen of w columns and h rows, each row of w cells
pub record HasSize (w h : ℕ) (s : Screen) : Type 0 where
  pub width : s.width ≡ w
  pub height : s.height ≡ h
  pub full : length s.rows ≡ h
  pub row_length : (j : ℕ) → j < h → length (row_at s.rows j) ≡ w

-- t is s with the row r in place of the cursor's, another pen, and the cursor anywhere in that row
pub record LeavesRow (s : Screen) (r : List CellValue) (pen : Attributes) (t : Screen) :
    Type 0 where
  pub x : ℕ
  pub screen_is : t ≡ record s { rows = set s.rows s.y r; x = x; pen = pen }
