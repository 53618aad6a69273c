-- What the changes of a diff do.
use Rattle.std.specs.Prelude.{◌≡◌, ℕ, ◌+◌, ◌-◌, ◌<◌, ◌≤◌, true, not, nat_le, ◌⊎◌, List, [], ◌∷◌, map, filter}
use Rattle.termwiz_cell.specs.CellValue.{CellValue, space}
use Rattle.termwiz_cell.specs.ChangeValue.{ChangeValue}
use Rattle.termwiz_storage.specs.VisibleCell.{at_column}
use Rattle.termwiz_line.specs.Row.{row_of, visible_upto}
use Rattle.termwiz_screen.specs.Screen.{Screen, row_at}
use Rattle.termwiz_screen.specs.Step.{replay}
use Rattle.termwiz_screen.specs.Measured.{IsMeasured}
use Rattle.termwiz_screen.specs.Printable.{ArePrintable, IsPrintableRow}
use Rattle.termwiz_screen.specs.Prints.{Print, print_all}
use Rattle.termwiz_screen.specs.Diff.{Region, shows, row_need, need, prints_out, diff, cut, whole, band, all_diff_entries, restoring}
use Rattle.termwiz_screen.specs.DiffRegions.{AreRows, IsInside, CrossNone, HaveRegion}
use Rattle.termwiz_screen.specs.DiffLists.{IsDiff}

-- each print is inside, and its cell is measured
abbrev pub CanPrint : (List ℕ → ℕ) → ℕ → ℕ → List Print → Type 0
CanPrint measure w h [] = Unit {0}
CanPrint measure w h (p ∷ ps) =
    (p.row < h) × (p.column < w) × IsMeasured measure p.cell × CanPrint measure w h ps

-- the changes that are written for some cells are a diff's, whatever the screen shows and wherever
-- its cursor is; they print just these cells where both width functions are the same
abbrev pub PrintsAreDiff : Type 0
PrintsAreDiff =
    (f g : List ℕ → ℕ) (s : Screen) (ps : List Print) → CanPrint g s.width s.height ps →
    IsDiff f s (f ≡ g) ps (prints_out ps)

-- what is needed, in words: the visible cells of b from column q to q + n that a does not show,
-- each moved to its place in a
abbrev pub NeedIs : Type 0
NeedIs = (a : List CellValue) (p : ℕ) (b : List CellValue) (q n : ℕ) →
    row_need a p b q n ≡
    filter (λ c. not (shows a c.column c.cell))
    (map (λ c. at_column (p + (c.column - q)) c.cell)
    (filter (λ c. nat_le q c.column) (visible_upto b (q + n))))

-- a region that is cut to what fits lies inside
abbrev pub CutIsInside : Type 0
CutIsInside = (r : Region) (v h w g : ℕ) → IsInside (cut r v h w g) v h w g

-- what is needed of a region, painted, shows it where no wide cell crosses its edges; all else
-- stays
abbrev pub NeedGivesRegion : Type 0
NeedGivesRegion =
    (v h w g : ℕ) (a b : List (List CellValue)) (r : Region) → AreRows v h a → AreRows w g b →
    IsInside r v h w g → CrossNone v w a b r → HaveRegion v (print_all a (need a b r)) a b r

-- what is needed of a whole screen, painted, gives its rows; nothing is needed where the rows are
-- equal
abbrev pub NeedGivesRows : Type 0
NeedGivesRows =
    (w h : ℕ) (a b : List (List CellValue)) → AreRows w h a → AreRows w h b →
    (print_all a (need a b (whole w h)) ≡ b) × (a ≡ b → need a b (whole w h) ≡ [])

-- the changes that are written for a region, whatever crosses its edges
abbrev pub RegionIsDiff : Type 0
RegionIsDiff =
    (f g : List ℕ → ℕ) (a b : Screen) (r : Region) → IsInside r a.width a.height b.width b.height →
    ((j : ℕ) → j < b.height → IsPrintableRow g b.width (row_at b.rows j)) →
    IsDiff f a (f ≡ g) (need a.rows b.rows r) (diff a.rows b.rows r)

-- any diff of two screens of one size gives the other's rows, and is empty where the rows are equal
abbrev pub DiffGivesRows : Type 0
DiffGivesRows =
    (f : List ℕ → ℕ) (a b : Screen) (l : List ChangeValue) → AreRows a.width a.height a.rows →
    AreRows a.width a.height b.rows →
    IsDiff f a (f ≡ f) (need a.rows b.rows (whole a.width a.height)) l →
    ((replay f a l).rows ≡ b.rows) × (a.rows ≡ b.rows → l ≡ [])

-- any diff of a region whose edges no wide cell crosses gives the region, and all else stays
abbrev pub DiffGivesRegion : Type 0
DiffGivesRegion =
    (f : List ℕ → ℕ) (a b : Screen) (r : Region) (l : List ChangeValue) →
    AreRows a.width a.height a.rows → AreRows b.width b.height b.rows →
    IsInside r a.width a.height b.width b.height →
    CrossNone a.width b.width a.rows b.rows r → IsDiff f a (f ≡ f) (need a.rows b.rows r) l →
    HaveRegion a.width (replay f a l).rows a.rows b.rows r

-- rows that are as wide as the screen: any diff makes each of them the other's, and the others stay
abbrev pub DiffGivesBand : Type 0
DiffGivesBand =
    (f : List ℕ → ℕ) (a : Screen) (g : ℕ) (b : List (List CellValue)) (y z n : ℕ)
    (l : List ChangeValue) →
    AreRows a.width a.height a.rows → AreRows a.width g b →
    IsInside (band a.width y z n) a.width a.height a.width g →
    IsDiff f a (f ≡ f) (need a.rows b (band a.width y z n)) l →
    ((i : ℕ) → i < n → row_at (replay f a l).rows (y + i) ≡ row_at b (z + i)) ×
    ((j : ℕ) → (j < y) ⊎ (y + n ≤ j) → row_at (replay f a l).rows j ≡ row_at a.rows j)

-- lines of measured single graphemes have rows that can be printed, cut or filled
abbrev pub LinesArePrintable : Type 0
LinesArePrintable =
    (f : List ℕ → ℕ) → f space ≡ 1 → (w : ℕ) (cells : List CellValue) → ArePrintable f cells →
    IsPrintableRow f w (row_of w cells)

-- what drawing restores: all but the rows is as before
abbrev pub DrawingRestores : Type 0
DrawingRestores =
    (f : List ℕ → ℕ) (s : Screen) (l : List ChangeValue) → all_diff_entries l ≡ true →
    s.x ≤ s.width → s.y < s.height →
    replay f s (restoring s.x s.y s.pen l) ≡ record s { rows = (replay f s l).rows }
