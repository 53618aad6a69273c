-- The rows that changes scroll off the top of a screen, and the lines that then hold them.
use Rattle.std.specs.Prelude.{◌≡◌, ℕ, zero, suc, ◌==◌, ◌⊎◌, min, Bool, IsTrue, true, false, not, ◌&&◌, List, [], ◌∷◌, ◌++◌, map, drop, replicate, set, slice_index_or, Result, Ok, Err, if◌then◌else◌}
use Rattle.unicode_segmentation.specs.Grapheme.{graphemes}
use Rattle.termwiz_cell.specs.CellValue.{CellValue, blank}
use Rattle.termwiz_cell.specs.ChangeValue as change
use Rattle.termwiz_cell.specs.ChangeValue.{ChangeValue}
use Rattle.termwiz_line.specs.LineFlags.{LineFlags, no_flags}
use Rattle.termwiz_line.specs.LineValue.{LineValue}
use Rattle.termwiz_line.specs.Row.{row_of}
use Rattle.termwiz_screen.specs.Kept.{Kept}
use Rattle.termwiz_screen.specs.Print.{has_below, wraps, piece_of, print_one, one_kept}
use Rattle.termwiz_screen.specs.Screen.{Screen, row_at}
use Rattle.termwiz_screen.specs.Step.{step, step_kept}
use Rattle.termwiz_screen.specs.declared.print.Piece.{Piece}
use Rattle.termwiz_screen.specs.declared.print.Piece.TheVariants.{CarriageReturn, LineFeed, CarriageReturnLineFeed, Cell}
use Rattle.termwiz_surface.specs.Surface.{SurfaceValue, Becomes, kept_of, screen_of}
use Rattle.termwiz_surface.specs.declared.surface.SurfaceError.{SurfaceError}
use Rattle.termwiz_surface.specs.declared.surface.SurfaceError.TheVariants.{ScrollRegion, Numbers, Memory}

-- a line feed moves the cursor down, and a cell that wraps does
abbrev pub moves_down : Screen → Piece → Bool
moves_down s CarriageReturn = false
moves_down s LineFeed = true
moves_down s CarriageReturnLineFeed = true
moves_down s (Cell c) = wraps s

-- a move down from the last row scrolls row 0 off
abbrev pub top_leaves : Screen → Piece → Bool
top_leaves s piece = not (has_below s) && moves_down s piece

-- a row as it is shown: its cells, and its line's flags, which say how large
pub record ShownRow : Type 0 where
  pub cells : List CellValue
  pub flags : LineFlags

abbrev pub row_shown : Screen → Kept → ℕ → ShownRow
row_shown s k j = record { cells = row_at s.rows j; flags = slice_index_or k.flags j no_flags }

-- the first n rows, from the top
abbrev pub first_rows : Screen → Kept → ℕ → List ShownRow
first_rows s k zero = []
first_rows s k (suc n) = first_rows s k n ++ row_shown s k n ∷ []

abbrev pub left_piece : Screen → Kept → Piece → List ShownRow
left_piece s k piece = if top_leaves s piece then first_rows s k 1 else []

-- the rows that a scroll up of a region scrolls off
abbrev pub left_region : Screen → Kept → ℕ → ℕ → ℕ → List ShownRow
left_region s k first size count = if first == 0 then first_rows s k (min count size) else []

module _ (measure : List ℕ → ℕ) where
  -- the rows that a grapheme scrolls off, from the top, and those that graphemes do in turn
  abbrev pub left_one : Screen → Kept → List ℕ → List ShownRow
  left_one s k g = left_piece s k (piece_of measure s.pen g)

  abbrev pub left_by : Screen → Kept → List (List ℕ) → List ShownRow
  left_by s k [] = []
  left_by s k (g ∷ gs) =
      left_one s k g ++ left_by (print_one measure s g) (one_kept measure s g k) gs

  -- A text scrolls rows off, and a scroll up of a region from row 0 on. Nothing else does.
  abbrev pub left_step : Screen → Kept → ChangeValue → List ShownRow
  left_step s k (change.Text text) = left_by s k (graphemes true text)
  left_step s k (change.ScrollRegionUp first size count) = left_region s k first size count
  left_step s k _ = []

  -- the rows that changes scroll off, the first one first
  abbrev pub rows_scrolled_off : Screen → Kept → List ChangeValue → List ShownRow
  rows_scrolled_off s k [] = []
  rows_scrolled_off s k (c ∷ cs) =
      left_step s k c ++ rows_scrolled_off (step measure s c) (step_kept measure s k c) cs

-- how a line is shown in this width
abbrev pub line_shown : ℕ → LineValue → ShownRow
line_shown width line = record { cells = row_of width line.cells; flags = line.flags }

-- after the old lines there are lines that show the first of these rows of this width, and the
-- others are left
pub record LeavesRows (width : ℕ) (rows left : List ShownRow) (old new : List LineValue) :
    Type 0 where
  pub lines : List LineValue
  pub behind : new ≡ old ++ lines
  pub rows_are : rows ≡ map (line_shown width) lines ++ left

-- after the old lines there are lines that show these rows, and no others
abbrev pub ScrollsOff : ℕ → List ShownRow → List LineValue → List LineValue → Type 0
ScrollsOff width rows old new = LeavesRows width rows [] old new

-- after the old lines there are lines that show the first of these rows: all, some or none
abbrev pub BeginsRows : ℕ → List ShownRow → List LineValue → List LineValue → Type 0
BeginsRows width rows old new = (left : List ShownRow) × LeavesRows width rows left old new

-- What a call that adds changes makes of a list of lines: it adds the rows that the changes
-- scrolled off. Where memory was refused it adds the first of them, and where the changes were
-- refused it adds none.
abbrev pub AddsScrolledOff :
    ℕ → List ShownRow → Result ℕ SurfaceError → List LineValue → List LineValue → Type 0
AddsScrolledOff width rows (Ok n) old new = ScrollsOff width rows old new
AddsScrolledOff width rows (Err ScrollRegion) old new = new ≡ old
AddsScrolledOff width rows (Err Numbers) old new = new ≡ old
AddsScrolledOff width rows (Err Memory) old new = BeginsRows width rows old new

-- ---- parts of the way

module _ (measure : List ℕ → ℕ) where
  -- the first of these graphemes scrolls row 0 off
  abbrev pub first_leaves : Screen → List (List ℕ) → Bool
  first_leaves s [] = false
  first_leaves s (g ∷ gs) = top_leaves s (piece_of measure s.pen g)

  -- What happens to row 0 before these graphemes are printed: it goes to the lines, if lines are
  -- kept and the first one scrolls it off, and leaves default blanks. Else nothing changes.
  abbrev pub KeepsTop :
      {W : Type 0} → Bool → List (List ℕ) → SurfaceValue W → List LineValue → SurfaceValue W →
      List LineValue → Type 0
  KeepsTop keeps gs old old_lines new new_lines =
      let s = screen_of old in
      let k = kept_of old in
      ((new ≡ old) ×
      (IsTrue keeps → (first_leaves s gs ≡ false) × (new_lines ≡ old_lines))) ⊎
      ((first_leaves s gs ≡ true) ×
      Becomes old (record s { rows = set s.rows 0 (replicate s.width blank) })
      (record k { lengths = set k.lengths 0 s.width; flags = set k.flags 0 no_flags })
      (λ j. j == 0) new ×
      ScrollsOff old.width (first_rows s k 1) old_lines new_lines)

  -- the rows that the graphemes after the first one scroll off
  abbrev pub left_behind_first : Screen → Kept → List (List ℕ) → List ShownRow
  left_behind_first s k [] = []
  left_behind_first s k (g ∷ gs) =
      left_by measure (print_one measure s g) (one_kept measure s g k) gs

-- the first elements are others
abbrev pub topped : {X : Type 0} → X → ℕ → List X → List X
topped d n xs = replicate n d ++ drop n xs
