-- What a replay paints: a cell at a column of a row for each grapheme that is no line break, in
-- order.
use Rattle.std.specs.Prelude.{ℕ, true, List, [], ◌∷◌, ◌++◌, fold, set}
use Rattle.unicode_segmentation.specs.Grapheme.{graphemes}
use Rattle.termwiz_cell.specs.CellValue.{CellValue}
use Rattle.termwiz_cell.specs.ChangeValue as change
use Rattle.termwiz_cell.specs.ChangeValue.{ChangeValue}
use Rattle.termwiz_line.specs.Row.{paint}
use Rattle.termwiz_screen.specs.Screen.{Screen, row_at}
use Rattle.termwiz_screen.specs.Print.{wrapped, piece_of, print_one}
use Rattle.termwiz_screen.specs.Step.{step}
use Rattle.termwiz_screen.specs.declared.print.Piece.{Piece}
use Rattle.termwiz_screen.specs.declared.print.Piece.TheVariants.{Cell}

-- a cell that is painted at a column of a row
pub record Print : Type 0 where
  pub row : ℕ
  pub column : ℕ
  pub cell : CellValue

-- the rows after it, and after some in order
abbrev pub print_on : List (List CellValue) → Print → List (List CellValue)
print_on rows p = set rows p.row (paint (row_at rows p.row) p.column p.cell)

abbrev pub print_all : List (List CellValue) → List Print → List (List CellValue)
print_all rows ps = fold print_on rows ps

-- what a grapheme paints: nothing where it is a line break
abbrev pub piece_prints : Screen → Piece → List Print
piece_prints s (Cell c) = record { row = (wrapped s).y; column = (wrapped s).x; cell = c } ∷ []
piece_prints s _ = []

-- what graphemes paint
abbrev pub text_prints : (List ℕ → ℕ) → Screen → List (List ℕ) → List Print
text_prints measure s [] = []
text_prints measure s (g ∷ gs) =
    piece_prints s (piece_of measure s.pen g) ++ text_prints measure (print_one measure s g) gs

-- what a change paints: only texts do
abbrev pub step_prints : (List ℕ → ℕ) → Screen → ChangeValue → List Print
step_prints measure s (change.Text text) = text_prints measure s (graphemes true text)
step_prints measure s _ = []

-- what the changes paint when they are replayed
abbrev pub printed : (List ℕ → ℕ) → Screen → List ChangeValue → List Print
printed measure s [] = []
printed measure s (c ∷ cs) = step_prints measure s c ++ printed measure (step measure s c) cs
