-- What painting and clearing do to what a row shows, and what the row of stored cells shows.
use Rattle.std.specs.Prelude.{◌≡◌, ℕ, ◌+◌, ◌<◌, ◌≤◌, List, [], ◌∷◌, length, take}
use Rattle.termwiz_cell.specs.Attributes.{Attributes}
use Rattle.termwiz_cell.specs.CellValue.{CellValue, blank_of, columns}
use Rattle.termwiz_storage.specs.Stored.{visible, padded, set_cell, IsPruned}
use Rattle.termwiz_storage.specs.Halves.{resized}
use Rattle.termwiz_storage.specs.VisibleCell.{VisibleCell}
use Rattle.termwiz_line.specs.Row.{HasHalves, IsRow, row_of, visible_upto, paint, clear}
use Rattle.termwiz_line.specs.Shows.{IsPainted, IsCleared}

-- a painted row is a row, which shows what painting says
abbrev pub PaintPaints : Type 0
PaintPaints =
    (w : ℕ) (r : List CellValue) (c : ℕ) (x : CellValue) → IsRow w r → c < w →
    IsRow w (paint r c x) × IsPainted w r c x (paint r c x)

-- a row that is cleared to a blank is a row, which shows what clearing says
abbrev pub ClearClears : Type 0
ClearClears =
    (w : ℕ) (r : List CellValue) (c : ℕ) (a : Attributes) → IsRow w r → c < w →
    IsRow w (clear r c (blank_of a)) × IsCleared w r c (blank_of a) (clear r c (blank_of a))

-- nothing is cleared from the width on
abbrev pub ClearPast : Type 0
ClearPast =
    (w : ℕ) (r : List CellValue) (c : ℕ) (b : CellValue) → IsRow w r → w ≤ c → clear r c b ≡ r

-- a row is fixed by what it shows
abbrev pub VisibleFixesRow : Type 0
VisibleFixesRow =
    (w : ℕ) (a b : List CellValue) → IsRow w a → IsRow w b → visible_upto a w ≡ visible_upto b w →
    a ≡ b

-- the first w stored cells, filled with default blanks
abbrev pub first_cells : ℕ → List CellValue → List CellValue
first_cells w cs = take w (padded w cs)

-- the row of stored cells is a row, which shows what the walk of the cells meets
abbrev pub CellsHaveRow : Type 0
CellsHaveRow =
    (w : ℕ) (cs : List CellValue) →
    IsRow w (row_of w cs) × (visible_upto (row_of w cs) w ≡ visible (first_cells w cs))

-- stored cells that show the same have the same row
abbrev pub VisibleFixesRowOf : Type 0
VisibleFixesRowOf =
    (w : ℕ) (cs ds : List CellValue) → visible (first_cells w cs) ≡ visible (first_cells w ds) →
    row_of w cs ≡ row_of w ds

-- each index is at least where the cell before it ends, the first at least i
abbrev pub AreGrowing : ℕ → List VisibleCell → Type 0
AreGrowing i [] = Unit {0}
AreGrowing i (p ∷ ps) = (i ≤ p.column) × AreGrowing (p.column + columns p.cell) ps

-- the walk of stored cells meets no more cells than there are, at growing indices
abbrev pub WalkGrows : Type 0
WalkGrows = (cs : List CellValue) → (length (visible cs) ≤ length cs) × AreGrowing 0 (visible cs)

-- cells in settled form that are cut or grown are the row of that width
abbrev pub ResizedIsRow : Type 0
ResizedIsRow = (w : ℕ) (cs : List CellValue) → IsRow (length cs) cs → resized w cs ≡ row_of w cs

-- setting a cell below the width paints it in the row, where the stored halves are halves
abbrev pub SetCellPaints : Type 0
SetCellPaints =
    (w c : ℕ) (x : CellValue) (cs : List CellValue) → HasHalves w cs → c < w →
    row_of w (set_cell c x cs) ≡ paint (row_of w cs) c x

-- pruning changes no row
abbrev pub PruningKeepsRow : Type 0
PruningKeepsRow =
    (w : ℕ) (old new : List CellValue) → IsPruned old new → row_of w new ≡ row_of w old
