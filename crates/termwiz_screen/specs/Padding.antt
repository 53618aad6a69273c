-- Stored cells that default blanks fill up to a row.
use Rattle.std.specs.Prelude.{◌≡◌, ℕ, zero, suc, ◌+◌, ◌<◌, ◌≤◌, Bool, true, ◌&&◌, List, [], ◌∷◌, ◌++◌, length}
use Rattle.termwiz_cell.specs.CellValue.{CellValue, blank, is_wide, cell_eq}
use Rattle.termwiz_storage.specs.Stored.{stored}
use Rattle.termwiz_storage.specs.VisibleCell.{VisibleCell, at_column}
use Rattle.termwiz_screen.specs.Screen.{row_at}

-- at most w stored cells, and fewer do not end in a wide one
pub record IsPaddable (w : ℕ) (cs : List CellValue) : Type 0 where
  pub within : length cs ≤ w
  pub closed : (k : ℕ) → suc k < w → is_wide (stored cs k) ≡ true → suc k < length cs

pub record ArePaddable (w : ℕ) (rows : List (List CellValue)) : Type 0 where
  pub each : (j : ℕ) → j < length rows → IsPaddable w (row_at rows j)

-- default blanks in n columns from column x on
abbrev pub blanks_from : ℕ → ℕ → List VisibleCell
blanks_from x zero = []
blanks_from x (suc n) = blanks_from x n ++ at_column (x + n) blank ∷ []

-- each visible cell is this one
abbrev pub all_are : CellValue → List VisibleCell → Bool
all_are c [] = true
all_are c (p ∷ ps) = cell_eq p.cell c && all_are c ps
