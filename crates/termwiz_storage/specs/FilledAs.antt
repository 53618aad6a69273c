-- Setting a cell in a row of columns, by what stands at each place afterwards.
use Rattle.std.specs.Prelude.{◌≡◌, ℕ, suc, ◌+◌, ◌-◌, ◌<◌, ◌≤◌, true, false, max, List, length}
use Rattle.termwiz_cell.specs.CellValue.{CellValue, half, is_wide, columns}
use Rattle.termwiz_storage.specs.Stored.{stored}

-- for a < b: c was set in each column from a to b - 1, in order, and the list is as long as that
-- takes
pub record IsFilledAs (a b : ℕ) (c : CellValue) (old new : List CellValue) : Type 0 where
  pub len : length new ≡ max (length old) (b - 1 + columns c)
  -- a wide cell before them becomes a blank with its attributes
  pub torn :
      (x : ℕ) → suc x ≡ a → is_wide (stored old x) ≡ true → stored new x ≡ half (stored old x)
  pub kept : (x : ℕ) → suc x ≡ a → is_wide (stored old x) ≡ false → stored new x ≡ stored old x
  pub below : (x : ℕ) → suc x < a → stored new x ≡ stored old x
  -- each is a narrow c; a wide c leaves its half in each but the last
  pub narrow : is_wide c ≡ false → (x : ℕ) → a ≤ x → x < b → stored new x ≡ c
  pub wide : is_wide c ≡ true → (x : ℕ) → a ≤ x → suc x < b → stored new x ≡ half c
  pub last : (x : ℕ) → suc x ≡ b → stored new x ≡ c
  pub behind : is_wide c ≡ true → stored new b ≡ half c
  pub above : (x : ℕ) → b - 1 + columns c ≤ x → stored new x ≡ stored old x
