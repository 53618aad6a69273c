-- Printing a text, grapheme by grapheme: what it makes of a screen, and of what is kept beside it.
use Rattle.std.specs.Prelude.{ℕ, ◌+◌, ◌-◌, min, max, Bool, true, ◌==◌, nat_lt, List, [], ◌∷◌, ◌++◌, fold, replicate, drop, slice_index_or, set, if◌then◌else◌}
use Rattle.std.specs.Str.{bytes_eq}
use Rattle.unicode_segmentation.specs.Grapheme.{graphemes}
use Rattle.termwiz_cell.specs.Attributes.{Attributes}
use Rattle.termwiz_cell.specs.CellValue.{CellValue, blank, columns, measured}
use Rattle.termwiz_cell.specs.Graphemes.{single}
use Rattle.termwiz_screen.specs.Screen.{Screen, row_at}
use Rattle.termwiz_line.specs.LineFlags.{no_flags}
use Rattle.termwiz_line.specs.Row.{paint}
use Rattle.termwiz_screen.specs.Kept.{Kept}
use Rattle.termwiz_screen.specs.declared.print.Piece.{Piece}
use Rattle.termwiz_screen.specs.declared.print.Piece.TheVariants.{CarriageReturn, LineFeed, CarriageReturnLineFeed, Cell}

-- row 0 is removed, and a default row is added
abbrev pub scrolled : ℕ → List (List CellValue) → List (List CellValue)
scrolled w rows = drop 1 rows ++ replicate w blank ∷ []

abbrev pub has_below : Screen → Bool
has_below s = nat_lt (s.y + 1) s.height

abbrev pub down : Screen → Screen
down s =
    record s {
      rows = if has_below s then s.rows else scrolled s.width s.rows;
      y = if has_below s then s.y + 1 else s.y;
    }

abbrev pub returned : Screen → Screen
returned s = record s { x = 0 }

abbrev pub put_at_cursor : Screen → CellValue → Screen
put_at_cursor s c =
    record s {
      rows = set s.rows s.y (paint (row_at s.rows s.y) s.x c);
      x = min (s.x + columns c) s.width;
    }

abbrev pub wraps : Screen → Bool
wraps s = s.x == s.width

abbrev pub wrapped : Screen → Screen
wrapped s = if wraps s then returned (down s) else s

-- how many columns are left in the row in which the next character is printed
abbrev pub columns_left : Screen → ℕ
columns_left s = if wraps s then s.width else s.width - s.x

-- the cell of a grapheme in this pen
abbrev pub printed_cell : (List ℕ → ℕ) → Attributes → List ℕ → CellValue
printed_cell measure pen g = measured measure (single g) pen

-- what a grapheme prints: a line break, or its cell
abbrev pub piece_of : (List ℕ → ℕ) → Attributes → List ℕ → Piece
piece_of measure pen g =
    if bytes_eq g (13 ∷ []) then CarriageReturn
    else (if bytes_eq g (10 ∷ []) then LineFeed
    else (if bytes_eq g (13 ∷ 10 ∷ []) then CarriageReturnLineFeed
    else Cell (printed_cell measure pen g)))

abbrev pub print_piece : Screen → Piece → Screen
print_piece s CarriageReturn = returned s
print_piece s LineFeed = down s
print_piece s CarriageReturnLineFeed = returned (down s)
print_piece s (Cell c) = put_at_cursor (wrapped s) c

-- a grapheme is printed
abbrev pub print_one : (List ℕ → ℕ) → Screen → List ℕ → Screen
print_one measure s g = print_piece s (piece_of measure s.pen g)

abbrev pub print : (List ℕ → ℕ) → Screen → List ℕ → Screen
print measure s text = fold (print_one measure) s (graphemes true text)

-- what is kept beside it
abbrev pub down_kept : Screen → Kept → Kept
down_kept s k =
    record k {
      lengths = if has_below s then k.lengths else drop 1 k.lengths ++ s.width ∷ [];
      flags = if has_below s then k.flags else drop 1 k.flags ++ no_flags ∷ [];
    }

abbrev pub put_kept : Screen → CellValue → Kept → Kept
put_kept s c k =
    record k {
      lengths = set k.lengths s.y
          (max (slice_index_or k.lengths s.y 0) (min (s.x + columns c) s.width));
    }

abbrev pub wrapped_kept : Screen → Kept → Kept
wrapped_kept s k = if wraps s then down_kept s k else k

abbrev pub piece_kept : Screen → Piece → Kept → Kept
piece_kept s CarriageReturn k = k
piece_kept s LineFeed k = down_kept s k
piece_kept s CarriageReturnLineFeed k = down_kept s k
piece_kept s (Cell c) k = put_kept (wrapped s) c (wrapped_kept s k)

abbrev pub one_kept : (List ℕ → ℕ) → Screen → List ℕ → Kept → Kept
one_kept measure s g k = piece_kept s (piece_of measure s.pen g) k

-- what is kept after graphemes
abbrev pub kept_after : (List ℕ → ℕ) → Screen → Kept → List (List ℕ) → Kept
kept_after measure s k [] = k
kept_after measure s k (g ∷ gs) =
    kept_after measure (print_one measure s g) (one_kept measure s g k) gs

abbrev pub print_kept : (List ℕ → ℕ) → Screen → List ℕ → Kept → Kept
print_kept measure s text k = kept_after measure s k (graphemes true text)
