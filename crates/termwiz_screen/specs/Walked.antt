-- Rows that a diff reads: the forms that own and other rows have, and how far they are printed.
use Rattle.std.specs.Prelude.{◌≡◌, ℕ, ◌+◌, ◌-◌, ◌<◌, ◌≤◌, false, min, List, fold, length, map}
use Rattle.termwiz_cell.specs.CellValue.{CellValue, blank}
use Rattle.termwiz_storage.specs.Stored.{stored, hides}
use Rattle.termwiz_line.specs.Row.{HasHalves, is_hidden, row_of}
use Rattle.termwiz_screen.specs.Screen.{row_at}
use Rattle.termwiz_screen.specs.Diff.{PrintedOut, in_row, print_out, row_need}

-- from column k on a row of width w shows default blanks
pub record EndsBlank (w : ℕ) (r : List CellValue) (k : ℕ) : Type 0 where
  pub blanks : (j : ℕ) → k ≤ j → j < w → stored r j ≡ blank
  pub starts : (j : ℕ) → k ≤ j → j < w → is_hidden r j ≡ false

-- in each row of stored cells a half follows a wide cell
pub record AreHalved (w : ℕ) (rows : List (List CellValue)) : Type 0 where
  pub each : (j : ℕ) → j < length rows → HasHalves w (row_at rows j)

-- what the columns of cs before k need, of n from q on beside the own ones from x on, is printed in
-- a row since d, and a cell starts at k
pub record IsPrintedTo (own : List CellValue) (x : ℕ) (cs : List CellValue) (q n row : ℕ)
    (d e : PrintedOut) (k : ℕ) : Type 0 where
  pub within : q ≤ k
  pub visible : hides cs k ≡ false
  pub printed :
      (w : ℕ) → q + n ≤ w →
      e ≡ fold print_out d (map (in_row row) (row_need own x (row_of w cs) q (min n (k - q))))
