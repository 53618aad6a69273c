-- Which stored cells are default blanks, and whether one may own memory.
use Rattle.std.specs.Prelude.{◌≡◌, ◌≢◌, ℕ, suc, ◌<◌, ◌≤◌, Bool, false, List, length}
use Rattle.std.specs.List.{All}
use Rattle.termwiz_cell.specs.CellValue.{CellValue, blank, owns_memory}
use Rattle.termwiz_storage.specs.Stored.{stored}

-- all from this column on
pub record IsUsedTo (used : ℕ) (cs : List CellValue) : Type 0 where
  pub rest : (x : ℕ) → used ≤ x → stored cs x ≡ blank

-- no cell owns memory
abbrev pub OwnNothing : List CellValue → Type 0
OwnNothing cs = All (λ c. owns_memory c ≡ false) cs

-- what a storage knows of its cells: all from this column on are default blanks, and whether one
-- may own memory
pub record IsMarked (used : ℕ) (owns : Bool) (cs : List CellValue) : Type 0 where
  pub blanks : IsUsedTo used cs
  pub unowned : owns ≡ false → OwnNothing cs

-- those from column a to b - 1, and the others are as before
pub record IsBlanked (a b : ℕ) (old new : List CellValue) : Type 0 where
  pub len : length new ≡ length old
  pub inside : (x : ℕ) → a ≤ x → x < b → stored new x ≡ blank
  pub before : (x : ℕ) → x < a → stored new x ≡ stored old x
  pub behind : (x : ℕ) → b ≤ x → stored new x ≡ stored old x

-- all from this column on, and not the one before
pub record IsFilledTo (end : ℕ) (cs : List CellValue) : Type 0 where
  pub within : end ≤ length cs
  pub rest : (x : ℕ) → end ≤ x → stored cs x ≡ blank
  pub last : (x : ℕ) → suc x ≡ end → stored cs x ≢ blank
