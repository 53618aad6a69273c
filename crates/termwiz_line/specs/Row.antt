-- The row of a list of stored cells, and painting and clearing it. A row of width w is the settled
-- list of w cells: the first w stored cells, filled with default blanks, where the cell after a
-- wide one is its half. A list reads as default blanks past its end, so a wide cell that is cut at
-- the right edge needs no case of its own.
use Rattle.std.specs.Prelude.{◌≡◌, ℕ, zero, suc, ◌<◌, Bool, true, false, if◌then◌else◌, ◌&&◌, ◌==◌, nat_le, List, [], ◌∷◌, ◌++◌, map, length}
use Rattle.std.specs.List.{range_with_len}
use Rattle.termwiz_cell.specs.CellValue.{CellValue, half, is_wide}
use Rattle.termwiz_storage.specs.Stored.{stored, hides}
use Rattle.termwiz_storage.specs.VisibleCell.{VisibleCell, at_column}

abbrev pub settled_at : List CellValue → ℕ → CellValue
settled_at cs zero = stored cs zero
settled_at cs (suc k) = if hides cs (suc k) then half (stored cs k) else stored cs (suc k)

-- the row of width w of stored cells: cut or filled, each hidden cell the half of its hider
unfoldable pub row_of : ℕ → List CellValue → List CellValue
row_of w cs = map (settled_at cs) (range_with_len 0 w)

-- each stored cell before column w that follows a wide one is its half
pub record HasHalves (w : ℕ) (cs : List CellValue) : Type 0 where
  pub halves :
      (k : ℕ) → suc k < w → is_wide (stored cs k) ≡ true → stored cs (suc k) ≡ half (stored cs k)

-- a list of cells in settled form
pub record IsRow (w : ℕ) (r : List CellValue) : Type 0 where
  pub width : length r ≡ w
  pub settled :
      (k : ℕ) → suc k < w → is_wide (stored r k) ≡ true → stored r (suc k) ≡ half (stored r k)

-- a row's column is hidden where the cell before it is wide
abbrev pub is_hidden : List CellValue → ℕ → Bool
is_hidden r zero = false
is_hidden r (suc k) = is_wide (stored r k)

-- the visible cells of a row before column k, each with its column
abbrev pub visible_upto : List CellValue → ℕ → List VisibleCell
visible_upto r zero = []
visible_upto r (suc k) =
    visible_upto r k ++ (if is_hidden r k then [] else at_column k (stored r k) ∷ [])

-- what stands at column k after painting x at column c: x, its second half, what is left of a wide
-- cell that x's first column breaks, or the old cell, which is a blank where x breaks a wide one
-- from the right
abbrev pub painted : List CellValue → ℕ → CellValue → ℕ → CellValue
painted r c x k =
    if k == c then x
    else if is_wide x && k == suc c then half x
    else if suc k == c && is_wide (stored r k) then half (stored r k)
    else stored r k

-- the row with x painted at column c
unfoldable pub paint : List CellValue → ℕ → CellValue → List CellValue
paint r c x = map (painted r c x) (range_with_len 0 (length r))

-- what stands at column k after clearing from column c on with b
abbrev pub cleared : List CellValue → ℕ → CellValue → ℕ → CellValue
cleared r c b k =
    if nat_le c k then b
    else if suc k == c && is_wide (stored r k) then half (stored r k)
    else stored r k

-- the row with every column from c on shown as b
unfoldable pub clear : List CellValue → ℕ → CellValue → List CellValue
clear r c b = if nat_le (length r) c then r else map (cleared r c b) (range_with_len 0 (length r))
