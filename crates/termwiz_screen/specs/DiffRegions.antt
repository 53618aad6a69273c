-- Regions: where no wide cell crosses an edge, and what an own region then shows.
use Rattle.std.specs.Prelude.{◌≡◌, ℕ, suc, ◌+◌, ◌<◌, ◌≤◌, true, ◌⊎◌, ◌↔◌, List, length}
use Rattle.termwiz_cell.specs.CellValue.{CellValue, is_wide}
use Rattle.termwiz_storage.specs.Stored.{stored}
use Rattle.termwiz_line.specs.Row.{IsRow, is_hidden}
use Rattle.termwiz_line.specs.Shows.{Shows}
use Rattle.termwiz_screen.specs.Screen.{row_at}
use Rattle.termwiz_screen.specs.Diff.{Region}

-- n columns from p on
pub record IsIn (p n k : ℕ) : Type 0 where
  pub from : p ≤ k
  pub before : k < p + n

-- each wide cell that the row of width v shows has both columns inside, or both outside; one that
-- is cut at the last column may stand there where Cut holds
pub record NoneCrosses (v : ℕ) (r : List CellValue) (p n : ℕ) (Cut : Type 0) : Type 0 where
  pub none :
      (k : ℕ) (y : CellValue) → Shows v r k y → is_wide y ≡ true →
      (IsIn p n k ↔ IsIn p n (suc k)) ⊎ ((suc k ≡ v) × Cut)

-- both regions end at the last columns
pub record BothEnd (v w p q n : ℕ) : Type 0 where
  pub own : p + n ≡ v
  pub other : q + n ≡ w

-- n columns of a row of width v, from p on, and as many of one of width w, from q on: no wide cell
-- of either row crosses an edge
pub record CrossesNone (v w : ℕ) (a : List CellValue) (p : ℕ) (b : List CellValue) (q n : ℕ) :
    Type 0 where
  pub own : NoneCrosses v a p n (BothEnd v w p q n)
  pub other : NoneCrosses w b q n (BothEnd v w p q n)

-- t shows b's n columns from q on in the place of a's from p on, and what a shows elsewhere
pub record HasRegion (v : ℕ) (t a : List CellValue) (p : ℕ) (b : List CellValue) (q n : ℕ) :
    Type 0 where
  pub inside :
      (i : ℕ) → i < n →
      (stored t (p + i) ≡ stored b (q + i)) × (is_hidden t (p + i) ≡ is_hidden b (q + i))
  pub outside :
      (j : ℕ) → j < v → (j < p) ⊎ (p + n ≤ j) →
      (stored t j ≡ stored a j) × (is_hidden t j ≡ is_hidden a j)

-- h rows of width w
pub record AreRows (w h : ℕ) (rows : List (List CellValue)) : Type 0 where
  pub full : length rows ≡ h
  pub each : (j : ℕ) → j < h → IsRow w (row_at rows j)

-- each column and row of the region is one of both screens, an own v by h and another w by g
pub record IsInside (r : Region) (v h w g : ℕ) : Type 0 where
  pub own_columns : (k : ℕ) → k < r.width → r.x + k < v
  pub own_rows : (k : ℕ) → k < r.height → r.y + k < h
  pub other_columns : (k : ℕ) → k < r.width → r.other_x + k < w
  pub other_rows : (k : ℕ) → k < r.height → r.other_y + k < g

-- in no row of the region
pub record CrossNone (v w : ℕ) (a b : List (List CellValue)) (r : Region) : Type 0 where
  pub each :
      (i : ℕ) → i < r.height →
      CrossesNone v w (row_at a (r.y + i)) r.x (row_at b (r.other_y + i)) r.other_x r.width

-- the rows t show b's region in the place of a's, and what a shows elsewhere
pub record HaveRegion (v : ℕ) (t a b : List (List CellValue)) (r : Region) : Type 0 where
  pub inside :
      (i : ℕ) → i < r.height →
      HasRegion v (row_at t (r.y + i)) (row_at a (r.y + i)) r.x (row_at b (r.other_y + i)) r.other_x
      r.width
  pub outside : (j : ℕ) → (j < r.y) ⊎ (r.y + r.height ≤ j) → row_at t j ≡ row_at a j
