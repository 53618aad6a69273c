-- Cells whose widths are measured, and the form in which a row stores such cells.
use Rattle.std.specs.Prelude.{◌≡◌, ℕ, suc, ◌<◌, ◌≤◌, true, nat_lt, List, [], ◌∷◌, length}
use Rattle.unicode_segmentation.specs.Grapheme.{graphemes}
use Rattle.termwiz_cell.specs.CellValue.{CellValue, half, is_wide, clean}
use Rattle.termwiz_storage.specs.Stored.{stored}

-- the cell's text is one clean grapheme, and its width is measured
pub record IsMeasured (measure : List ℕ → ℕ) (c : CellValue) : Type 0 where
  pub alone : graphemes true c.text ≡ c.text ∷ []
  pub is_clean : clean c.text ≡ c.text
  pub wide_is : c.wide ≡ nat_lt 1 (measure c.text)

-- the form of the cells that are stored in a row of width w
pub record IsStored (measure : List ℕ → ℕ) (w : ℕ) (cs : List CellValue) : Type 0 where
  pub some : 0 < length cs
  pub within : length cs ≤ w
  pub halves :
      (k : ℕ) → suc k < w → is_wide (stored cs k) ≡ true → stored cs (suc k) ≡ half (stored cs k)
  -- a short row does not end in a wide cell
  pub closed : (k : ℕ) → suc k < w → is_wide (stored cs k) ≡ true → suc k < length cs
  pub measured : (k : ℕ) → IsMeasured measure (stored cs k)
