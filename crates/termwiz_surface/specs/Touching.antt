-- Which rows of a screen changes touch: those that they write or move.
use Rattle.std.specs.Prelude.{ℕ, ◌+◌, ◌==◌, nat_le, nat_lt, Bool, true, false, not, ◌&&◌, ◌||◌, List, [], ◌∷◌}
use Rattle.unicode_segmentation.specs.Grapheme.{graphemes}
use Rattle.termwiz_cell.specs.ChangeValue as change
use Rattle.termwiz_cell.specs.ChangeValue.{ChangeValue}
use Rattle.termwiz_screen.specs.Print.{has_below, wraps, wrapped, piece_of, print_one}
use Rattle.termwiz_screen.specs.Screen.{Screen}
use Rattle.termwiz_screen.specs.Step.{step}
use Rattle.termwiz_screen.specs.declared.print.Piece.{Piece}
use Rattle.termwiz_screen.specs.declared.print.Piece.TheVariants.{CarriageReturn, LineFeed, CarriageReturnLineFeed, Cell}

-- Rows are given by a test of their indexes from the top: here none, and each.
abbrev pub no_row : ℕ → Bool
no_row j = false

abbrev pub every_row : ℕ → Bool
every_row j = true

abbrev pub cursor_row : Screen → ℕ → Bool
cursor_row s j = j == s.y

-- a move down from the last row scrolls, and so moves every row
abbrev pub down_touches : Screen → ℕ → Bool
down_touches s j = not (has_below s)

-- the move down of a wrap, where one is pending
abbrev pub wrap_touches : Screen → ℕ → Bool
wrap_touches s j = wraps s && not (has_below s)

-- a clear to the end of the line writes the cursor's row, unless a wrap is pending there
abbrev pub eol_touches : Screen → ℕ → Bool
eol_touches s j = nat_lt s.x s.width && cursor_row s j

-- a scroll moves the rows of its region, unless it is by 0 rows
abbrev pub scroll_touches : ℕ → ℕ → ℕ → ℕ → Bool
scroll_touches first size count j = nat_lt 0 count && (nat_le first j && nat_lt j (first + size))

-- a cell is written in the cursor's row, after the wrap
abbrev pub piece_touches : Screen → Piece → ℕ → Bool
piece_touches s CarriageReturn j = false
piece_touches s LineFeed j = down_touches s j
piece_touches s CarriageReturnLineFeed j = down_touches s j
piece_touches s (Cell c) j = wrap_touches s j || cursor_row (wrapped s) j

module _ (measure : List ℕ → ℕ) where
  -- the rows that a grapheme touches, and those that graphemes do in turn
  abbrev pub one_touches : Screen → List ℕ → ℕ → Bool
  one_touches s g j = piece_touches s (piece_of measure s.pen g) j

  abbrev pub touched_by : Screen → List (List ℕ) → ℕ → Bool
  touched_by s [] j = false
  touched_by s (g ∷ gs) j = one_touches s g j || touched_by (print_one measure s g) gs j

  -- the rows that a change touches
  abbrev pub touches : Screen → ChangeValue → ℕ → Bool
  touches s (change.Text text) j = touched_by s (graphemes true text) j
  touches s (change.ClearScreen color) j = true
  touches s (change.ClearToEndOfLine color) j = eol_touches s j
  touches s (change.ClearToEndOfScreen color) j = nat_le s.y j
  touches s (change.ScrollRegionUp first size count) j = scroll_touches first size count j
  touches s (change.ScrollRegionDown first size count) j = scroll_touches first size count j
  touches s (change.LineAttribute attribute) j = cursor_row s j
  touches s _ j = false

  -- the rows that changes touch in turn
  abbrev pub touched : Screen → List ChangeValue → ℕ → Bool
  touched s [] j = false
  touched s (c ∷ cs) j = touches s c j || touched (step measure s c) cs j
