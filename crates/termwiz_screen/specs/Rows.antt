-- What work on stored rows leaves.
use Rattle.std.specs.Prelude.{◌≡◌, ℕ, ◌-◌, ◌<◌, ◌≤◌, ◌+◌, ◌⊎◌, List, length, take, slice_index_or}
use Rattle.termwiz_cell.specs.CellValue.{CellValue}
use Rattle.termwiz_storage.specs.Stored.{set_cell, fill, IsPruned}
use Rattle.termwiz_screen.specs.Screen.{row_at}

-- stored cells with x set at column c of a row of width w
abbrev pub painted_in : ℕ → ℕ → CellValue → List CellValue → List CellValue
painted_in w c x cs = take w (set_cell c x cs)

-- columns of a row of width w are filled, and perhaps the row is pruned
pub record IsPartly (w : ℕ) (c : CellValue) (old new : List CellValue) : Type 0 where
  pub from : ℕ
  pub count : ℕ
  pub inside : from + count ≤ w
  pub left : (new ≡ fill count from c old) ⊎ IsPruned (fill count from c old) new

-- the rows from y to z - 1 are filled: row y from column x on, and each row below it from the start
pub record AreFilled (w x y z : ℕ) (c : CellValue) (old new : List (List CellValue)) : Type 0 where
  pub same_count : length new ≡ length old
  pub above : (j : ℕ) → j < y → row_at new j ≡ row_at old j
  pub here : IsPruned (fill (w - x) x c (row_at old y)) (row_at new y)
  pub below : (j : ℕ) → y < j → j < z → IsPruned (fill w 0 c (row_at old j)) (row_at new j)
  pub left : (j : ℕ) → z ≤ j → row_at new j ≡ row_at old j

-- each row is filled somewhere, or as it was
pub record ArePartly (w : ℕ) (c : CellValue) (old new : List (List CellValue)) : Type 0 where
  pub same_count : length new ≡ length old
  pub each : (j : ℕ) → j < length old → IsPartly w c (row_at old j) (row_at new j)

-- each element is as it was, or this one
pub record ArePartlyReset {X : Type 0} (d : X) (old new : List X) : Type 0 where
  pub same_count : length new ≡ length old
  pub each :
      (j : ℕ) (e : X) → j < length old →
      (slice_index_or new j e ≡ slice_index_or old j e) ⊎ (slice_index_or new j e ≡ d)
