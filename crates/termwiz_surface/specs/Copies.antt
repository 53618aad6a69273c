-- What drawing another surface, and copying a region, make of a surface.
use Rattle.std.specs.Prelude.{◌≡◌, ℕ, ◌+◌, ◌-◌, ◌⊎◌, List, length, Result, Err}
use Rattle.termwiz_cell.specs.CellValue.{CellValue}
use Rattle.termwiz_cell.specs.ChangeValue.{ChangeValue}
use Rattle.termwiz_surface.specs.Adding.{Adds}
use Rattle.termwiz_screen.specs.Diff.{Region, cut, diff, need, restoring}
use Rattle.termwiz_screen.specs.DiffLists.{IsDiff}
use Rattle.termwiz_screen.specs.Log.{next_number}
use Rattle.termwiz_screen.specs.Screen.{Screen}
use Rattle.termwiz_surface.specs.Surface.{SurfaceValue, screen_of}
use Rattle.termwiz_surface.specs.declared.surface.SurfaceError.{SurfaceError}
use Rattle.termwiz_surface.specs.declared.surface.SurfaceError.TheVariants.{Memory}

-- w columns and h rows from column x and row y on, and as many of another's from a column and a row
-- of its own on
abbrev pub region_at : ℕ → ℕ → ℕ → ℕ → ℕ → ℕ → Region
region_at x y w h other_x other_y =
    record { x = x; y = y; width = w; height = h; other_x = other_x; other_y = other_y }

-- the region of a of w columns and h rows that is copied to column x and row y
abbrev pub copied_region : Screen → ℕ → ℕ → ℕ → ℕ → ℕ → ℕ → Region
copied_region a from_x from_y w h x y =
    cut (region_at x y w h from_x from_y) a.width a.height a.width a.height

module _ {W : Type 0} where
  -- the region cut to what fits on both surfaces
  abbrev pub cut_to : SurfaceValue W → SurfaceValue W → Region → Region
  cut_to s t r = cut r s.width s.height t.width t.height

  -- the whole of a surface, which comes to column x and row y of another one
  abbrev pub whole_at : SurfaceValue W → ℕ → ℕ → Region
  whole_at s x y = region_at x y s.width s.height 0 0

  -- the diff that prints what the region of rows b shows and the surface doesn't is made as a list
  -- of changes, once it is finished
  pub record AddsDiff (measure : List ℕ → ℕ) (Same : Type 0) (b : List (List CellValue))
      (r : Region) (finish : List ChangeValue → List ChangeValue) (old : SurfaceValue W)
      (result : Result ℕ SurfaceError) (new : SurfaceValue W) : Type 0 where
    pub changes : List ChangeValue
    -- these changes and no others: those that the diff of that region is
    pub entries : changes ≡ diff (screen_of old).rows b r
    pub is_diff : IsDiff measure (screen_of old) Same (need (screen_of old).rows b r) changes
    pub done :
        Adds measure old (finish changes) (next_number old.log - 1 + length (finish changes)) result
        new

  -- no memory for the list: nothing has changed
  pub record AddsNothing (old : SurfaceValue W) (result : Result ℕ SurfaceError)
      (new : SurfaceValue W) : Type 0 where
    pub refused : result ≡ Err Memory
    pub same : new ≡ old

  -- a region of another surface is drawn: what it shows and the own one doesn't is printed by the
  -- diff of that region, and where anything is, the cursor and the pen are restored after it
  abbrev pub IsDrawn :
      (W → List ℕ → ℕ) → SurfaceValue W → SurfaceValue W → Region → Result ℕ SurfaceError →
      SurfaceValue W → Type 0
  IsDrawn measure_of old other r result new =
      AddsDiff (measure_of old.widths) (measure_of old.widths ≡ measure_of other.widths)
      (screen_of other).rows (cut_to old other r) (restoring old.x old.y old.pen) old result new
      ⊎ AddsNothing old result new

  -- a region of a surface is copied within it, by the diff of the two regions and nothing after it
  abbrev pub IsCopied :
      (W → List ℕ → ℕ) → SurfaceValue W → ℕ → ℕ → ℕ → ℕ → ℕ → ℕ → Result ℕ SurfaceError →
      SurfaceValue W → Type 0
  IsCopied measure_of old from_x from_y w h x y result new =
      AddsDiff (measure_of old.widths) (measure_of old.widths ≡ measure_of old.widths)
      (screen_of old).rows (copied_region (screen_of old) from_x from_y w h x y) (λ l. l) old
      result new
      ⊎ AddsNothing old result new
