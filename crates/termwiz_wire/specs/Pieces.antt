-- The pieces that a text is printed in, as it is cut and measured. Each prints a cell or breaks the
-- line.
use Rattle.std.specs.Prelude.{ℕ, ◌+◌, Bool, not, ◌&&◌, ◌||◌, ◌==◌, nat_lt, true, List, [], ◌∷◌, map, length, if◌then◌else◌}
use Rattle.std.specs.List.{list_any}
use Rattle.std.specs.Str.{chars}
use Rattle.unicode_segmentation.specs.Grapheme.{graphemes}
use Rattle.termwiz_cell.specs.Attributes.{default_attributes}
use Rattle.termwiz_cell.specs.CellValue.{columns}
use Rattle.termwiz_screen.specs.Print.{piece_of}
use Rattle.termwiz_screen.specs.declared.print.Piece.{Piece}
use Rattle.termwiz_screen.specs.declared.print.Piece.TheVariants.{CarriageReturn, LineFeed, CarriageReturnLineFeed, Cell}
use Rattle.termwiz_wire.specs.declared.pieces.Run.{Run}

-- the columns of what is printed: a line break has none
abbrev pub piece_columns : Piece → ℕ
piece_columns CarriageReturn = 0
piece_columns LineFeed = 0
piece_columns CarriageReturnLineFeed = 0
piece_columns (Cell c) = columns c

-- a grapheme is a piece, which is a run of one
abbrev pub piece : (List ℕ → ℕ) → List ℕ → Run
piece measure g =
    record {
      count = 1;
      characters = length (chars g);
      columns = piece_columns (piece_of measure default_attributes g);
    }

-- the pieces of a text
abbrev pub pieces_of : (List ℕ → ℕ) → List ℕ → List Run
pieces_of measure text = map (piece measure) (graphemes true text)

-- whether two runs are of equal pieces
abbrev pub alike : Run → Run → Bool
alike r s = r.characters == s.characters && r.columns == s.columns

-- a run before others: it makes one with the first where they are alike
abbrev pub before : Run → List Run → List Run
before r [] = r ∷ []
before r (s ∷ rs) = if alike r s then record s { count = r.count + s.count } ∷ rs else r ∷ s ∷ rs

-- runs as long as they go
abbrev pub grouped : List Run → List Run
grouped [] = []
grouped (r ∷ rs) = before r (grouped rs)

-- the runs of a text's pieces
unfoldable pub runs : (List ℕ → ℕ) → List ℕ → List Run
runs measure text = grouped (pieces_of measure text)

-- a piece of two columns, or of several characters that are no CR LF
abbrev pub stands_out : Run → Bool
stands_out r = nat_lt 1 r.columns || (nat_lt 1 r.characters && not (r.columns == 0))

-- whether a text of these runs is sent with them: else each of its characters is a piece of one
-- column, but for line breaks
abbrev pub needs_pieces : List Run → Bool
needs_pieces rs = list_any stands_out rs
