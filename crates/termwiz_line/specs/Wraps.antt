-- Wrapping: the visible cells of a line, up to the last that isn't a space, are cut into lines.
use Rattle.std.specs.Prelude.{◌≡◌, ◌≢◌, ℕ, ◌+◌, ◌≤◌, ◌⊎◌, List, [], ◌∷◌, map, length, true, false}
use Rattle.std.specs.List.{All}
use Rattle.termwiz_cell.specs.CellValue.{CellValue, columns, space}
use Rattle.termwiz_storage.specs.Edits.{with_halves}
use Rattle.termwiz_storage.specs.Stored.{visible}
use Rattle.termwiz_storage.specs.Wrapped.{with_wrapped}
use Rattle.termwiz_storage.specs.VisibleCell.{VisibleCell}
use Rattle.termwiz_line.specs.LineFlags.{no_flags}
use Rattle.termwiz_line.specs.LineValue.{LineValue}
use Rattle.termwiz_line.specs.Pieces.{IsCut, joined}
use Rattle.termwiz_line.specs.Trim.{IsTrimmed}

abbrev pub IsSpace : VisibleCell → Type 0
IsSpace c = c.cell.text ≡ space

-- how many columns the cells take
abbrev pub columns_taken : List VisibleCell → ℕ
columns_taken [] = 0
columns_taken (c ∷ cs) = columns c.cell + columns_taken cs

-- the cells fit the width, or there is one alone
abbrev pub FitsOrAlone : ℕ → List VisibleCell → Type 0
FitsOrAlone width p = (columns_taken p ≤ width) ⊎ (length p ≡ 1)

-- the last cell is marked as wrapped: the text goes on after it
abbrev pub mark_last : List VisibleCell → List VisibleCell
mark_last [] = []
mark_last (c ∷ []) = record c { cell = with_wrapped true c.cell } ∷ []
mark_last (c ∷ d ∷ ds) = c ∷ mark_last (d ∷ ds)

-- each piece but the last one ends in a cell that is marked as wrapped
abbrev pub marked_pieces : List (List VisibleCell) → List (List VisibleCell)
marked_pieces [] = []
marked_pieces (p ∷ []) = p ∷ []
marked_pieces (p ∷ q ∷ qs) = mark_last p ∷ marked_pieces (q ∷ qs)

abbrev pub new_line : ℕ → List CellValue → LineValue
new_line seqno cells = record { cells = cells; seqno = seqno; flags = no_flags; is_vector = true }

-- a new line of visible cells, the half of each wide one after it
abbrev pub line_of : ℕ → List VisibleCell → LineValue
line_of seqno p = new_line seqno (with_halves p)

-- the lines of the longest pieces that fit the width
pub record AreLinesOf (width seqno : ℕ) (cells : List VisibleCell) (lines : List LineValue) :
    Type 0 where
  pub pieces : List (List VisibleCell)
  pub cut : IsCut (FitsOrAlone width) cells pieces
  pub lines_are : lines ≡ map (line_of seqno) (marked_pieces pieces)

-- a line is wrapped: the visible cells up to the last that isn't a space, or the line comes back
-- alone where there is none
pub record IsWrapped (width seqno : ℕ) (line : LineValue) (lines : List LineValue) : Type 0 where
  pub kept : List VisibleCell
  pub trimmed : IsTrimmed IsSpace (visible line.cells) kept
  pub cut : kept ≢ [] → AreLinesOf width seqno kept lines
  pub alone : kept ≡ [] → lines ≡ line ∷ []

-- the visible cells of a line without the mark, without their columns
abbrev pub unmarked : List VisibleCell → List CellValue
unmarked cells = map (λ p. with_wrapped false p.cell) cells

-- where a line is cut, no line is longer than the width, and the lines show one after another what
-- it shows up to the last cell that isn't a space, apart from the marks
pub record FitsWidth (width : ℕ) (line : LineValue) (lines : List LineValue) : Type 0 where
  pub kept : List VisibleCell
  pub trimmed : IsTrimmed IsSpace (visible line.cells) kept
  pub short : kept ≢ [] → All (λ l. length l.cells ≤ width) lines
  pub same : kept ≢ [] → joined (map (λ l. unmarked (visible l.cells)) lines) ≡ unmarked kept
