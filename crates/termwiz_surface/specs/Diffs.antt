-- What a diff of a surface prints, and what diffs, draws and copies give.
use Rattle.std.specs.Prelude.{◌≡◌, ◌⊎◌, ℕ, ◌-◌, ◌<◌, ◌≤◌, min, List, map}
use Rattle.termwiz_cell.specs.CellValue.{CellValue}
use Rattle.termwiz_cell.specs.ChangeValue.{ChangeValue}
use Rattle.termwiz_line.specs.Row.{row_of}
use Rattle.termwiz_screen.specs.Diff.{Region, band, diff, need}
use Rattle.termwiz_screen.specs.DiffLists.{IsDiff}
use Rattle.termwiz_screen.specs.DiffRegions.{CrossNone, HaveRegion}
use Rattle.termwiz_screen.specs.Screen.{Screen, row_at}
use Rattle.termwiz_screen.specs.Step.{replay}
use Rattle.termwiz_surface.specs.Copies.{cut_to}
use Rattle.termwiz_surface.specs.Surface.{SurfaceValue, screen_of}

module _ {W : Type 0} (measure_of : W → List ℕ → ℕ) where
  -- both surfaces measure texts alike
  abbrev pub MeasureAlike : SurfaceValue W → SurfaceValue W → Type 0
  MeasureAlike s t = measure_of s.widths ≡ measure_of t.widths

  -- the screen after these changes
  abbrev pub screen_after : SurfaceValue W → List ChangeValue → Screen
  screen_after s changes = replay (measure_of s.widths) (screen_of s) changes

-- the rows t show the region of b in the place of a's, unless a wide grapheme crosses an edge
abbrev pub GivesRegion : List (List CellValue) → Screen → Screen → Region → Type 0
GivesRegion t a b r =
    CrossNone a.width b.width a.rows b.rows r → HaveRegion a.width t a.rows b.rows r

module _ {W : Type 0} where
  -- the changes are moves, pens and texts; where both measure texts alike they print what the
  -- region of t shows and that of s doesn't
  abbrev pub PrintsRegion :
      (W → List ℕ → ℕ) → SurfaceValue W → SurfaceValue W → Region → List ChangeValue → Type 0
  PrintsRegion measure_of s t r changes =
      IsDiff (measure_of s.widths) (screen_of s) (MeasureAlike measure_of s t)
      (need (screen_of s).rows (screen_of t).rows (cut_to s t r)) changes

  -- the list that a diff is
  abbrev pub region_diff : SurfaceValue W → SurfaceValue W → Region → List ChangeValue
  region_diff s t r = diff (screen_of s).rows (screen_of t).rows (cut_to s t r)

-- the rows of width w that lines show, each line by its cells
abbrev pub rows_of : {L : Type 0} → ℕ → List L → (L → List CellValue) → List (List CellValue)
rows_of w lines cells_in = map (λ line. row_of w (cells_in line)) lines

-- the whole rows of a from the top with which n lines are compared
abbrev pub top_rows : Screen → ℕ → Region
top_rows a n = band a.width 0 0 (min a.height n)

-- row i of a, or none where a has no such row
abbrev pub one_row : Screen → ℕ → Region
one_row a i = band a.width i 0 (min 1 (a.height - i))

-- the changes print what rows show and this region of a doesn't
abbrev pub PrintsRows :
    (List ℕ → ℕ) → Screen → List (List CellValue) → Region → List ChangeValue → Type 0
PrintsRows measure a rows r changes =
    IsDiff measure a (measure ≡ measure) (need a.rows rows r) changes

-- the first n rows from the top are those of b, and the others are as in a
abbrev pub HaveTopRows :
    List (List CellValue) → List (List CellValue) → List (List CellValue) → ℕ → Type 0
HaveTopRows t a b n =
    ((i : ℕ) → i < n → row_at t i ≡ row_at b i) × ((j : ℕ) → n ≤ j → row_at t j ≡ row_at a j)

-- row i, where there is one of h, is this one, and the others are as in a
abbrev pub HaveRow : List (List CellValue) → List (List CellValue) → ℕ → ℕ → List CellValue → Type 0
HaveRow t a h i row =
    (i < h → row_at t i ≡ row) × ((j : ℕ) → (j < i) ⊎ (i < j) → row_at t j ≡ row_at a j)

module _ {W : Type 0} where
  -- where both measure texts alike and no wide grapheme crosses an edge, the screen shows the
  -- region of the other surface drawn there, and elsewhere what the old one showed
  abbrev pub HasDrawn :
      (W → List ℕ → ℕ) → SurfaceValue W → SurfaceValue W → Region → Screen → Type 0
  HasDrawn measure_of old other r shown =
      MeasureAlike measure_of old other →
      GivesRegion shown.rows (screen_of old) (screen_of other) (cut_to old other r)

  -- where no wide grapheme crosses an edge of either region, the screen shows the region copied
  -- there, and elsewhere what the old one showed
  abbrev pub HasCopied : SurfaceValue W → Region → Screen → Type 0
  HasCopied old r shown = GivesRegion shown.rows (screen_of old) (screen_of old) r
