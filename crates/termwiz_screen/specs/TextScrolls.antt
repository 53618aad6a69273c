-- How many rows a text scrolls away at the top of a screen.
use Rattle.std.specs.Prelude.{ℕ, ◌+◌, true, List, [], ◌∷◌, if◌then◌else◌}
use Rattle.unicode_segmentation.specs.Grapheme.{graphemes}
use Rattle.termwiz_screen.specs.Print.{has_below, wraps, piece_of, print_one}
use Rattle.termwiz_screen.specs.Screen.{Screen}
use Rattle.termwiz_screen.specs.declared.print.Piece.{Piece}
use Rattle.termwiz_screen.specs.declared.print.Piece.TheVariants.{CarriageReturn, LineFeed, CarriageReturnLineFeed, Cell}

-- a move down from the last row scrolls one
abbrev pub down_scrolls : Screen → ℕ
down_scrolls s = if has_below s then 0 else 1

-- a line feed moves down, and a cell that wraps does too
abbrev pub piece_scrolls : Screen → Piece → ℕ
piece_scrolls s CarriageReturn = 0
piece_scrolls s LineFeed = down_scrolls s
piece_scrolls s CarriageReturnLineFeed = down_scrolls s
piece_scrolls s (Cell c) = if wraps s then down_scrolls s else 0

module _ (measure : List ℕ → ℕ) where
  -- how many rows graphemes scroll away, and a text
  abbrev pub graphemes_scroll : Screen → List (List ℕ) → ℕ
  graphemes_scroll s [] = 0
  graphemes_scroll s (g ∷ gs) =
      piece_scrolls s (piece_of measure s.pen g) + graphemes_scroll (print_one measure s g) gs

  abbrev pub rows_scrolled : Screen → List ℕ → ℕ
  rows_scrolled s text = graphemes_scroll s (graphemes true text)
