-- Painting and clearing by what is shown, with no word on what is stored: which cell stands at
-- which column, and which columns it covers.
use Rattle.std.specs.Prelude.{◌≡◌, ℕ, suc, ◌<◌, ◌≤◌, true, false, ◌⊎◌, ◌↔◌, List}
use Rattle.termwiz_cell.specs.CellValue.{CellValue, half, is_wide}
use Rattle.termwiz_storage.specs.Stored.{stored}
use Rattle.termwiz_line.specs.Row.{is_hidden}

pub record Shows (w : ℕ) (r : List CellValue) (k : ℕ) (y : CellValue) : Type 0 where
  pub inside : k < w
  pub visible : is_hidden r k ≡ false
  pub same : stored r k ≡ y

-- a cell at column k covers k and, where it is wide, the next one below w
pub record Covers (w k : ℕ) (y : CellValue) (j : ℕ) : Type 0 where
  pub inside : j < w
  pub reaches : (j ≡ k) ⊎ ((j ≡ suc k) × (is_wide y ≡ true))

-- an old cell that covers none of the columns that P names stays
pub record Stays (w : ℕ) (r : List CellValue) (P : ℕ → Type 0) (k : ℕ) (y : CellValue) :
    Type 0 where
  pub shown : Shows w r k y
  pub apart : (j : ℕ) → Covers w k y j → P j → ⊥

-- what is left, in a column that P does not name, of an old wide cell that covered one that it
-- names
pub record Remains (w : ℕ) (r : List CellValue) (P : ℕ → Type 0) (k : ℕ) (y : CellValue) :
    Type 0 where
  pub place : ℕ
  pub old : CellValue
  pub shown : Shows w r place old
  pub wide : is_wide old ≡ true
  pub here : Covers w place old k
  pub free : P k → ⊥
  pub lost : (j : ℕ) × Covers w place old j × P j
  pub blank : y ≡ half old

-- t is r with x painted at column c
abbrev pub IsPainted : ℕ → List CellValue → ℕ → CellValue → List CellValue → Type 0
IsPainted w r c x t =
    (k : ℕ) (y : CellValue) →
    Shows w t k y ↔
    (((k ≡ c) × (y ≡ x)) ⊎ (Stays w r (Covers w c x) k y ⊎ Remains w r (Covers w c x) k y))

-- t is r with every column from c on shown as b
abbrev pub IsCleared : ℕ → List CellValue → ℕ → CellValue → List CellValue → Type 0
IsCleared w r c b t =
    (k : ℕ) (y : CellValue) →
    Shows w t k y ↔
    (((c ≤ k) × (k < w) × (y ≡ b)) ⊎ (Stays w r (λ j. c ≤ j) k y ⊎ Remains w r (λ j. c ≤ j) k y))
