-- The cells of a text, and the texts of cells.
use Rattle.std.specs.Prelude.{◌≡◌, ℕ, ◌+◌, List, [], ◌∷◌, ◌++◌, ◌==◌, length, map, true, if◌then◌else◌}
use Rattle.termwiz_storage.specs.VisibleCell.{VisibleCell, at_column}
use Rattle.std.specs.List.{flat_map}
use Rattle.unicode_segmentation.specs.Grapheme.{graphemes}
use Rattle.termwiz_cell.specs.Attributes.{Attributes}
use Rattle.termwiz_cell.specs.CellValue.{CellValue, columns, measured}
pub use Rattle.termwiz_storage.specs.CellTexts.{texts_of}
use Rattle.termwiz_storage.specs.Edits.{begins_within, with_halves}
use Rattle.termwiz_storage.specs.Stored.{set_cell}
use Rattle.termwiz_storage.specs.Wrapped.{set_last_wrapped}
use Rattle.termwiz_line.specs.Filled.{taken}
use Rattle.termwiz_line.specs.LineValue.{LineValue}

-- cells at their columns, each directly after the one before it, the first at column x
abbrev pub at_columns : ℕ → List CellValue → List VisibleCell
at_columns x [] = []
at_columns x (c ∷ cs) = at_column x c ∷ at_columns (x + columns c) cs

-- the cells of a text's graphemes, with these attributes
abbrev pub cells_of_text : (List ℕ → ℕ) → Attributes → List ℕ → List CellValue
cells_of_text measure a text = map (λ g. measured measure g a) (graphemes true text)

-- a text as it is stored: a wide cell is followed by its half
abbrev pub stored_text : (List ℕ → ℕ) → Attributes → List ℕ → List CellValue
stored_text measure a text = with_halves (at_columns 0 (cells_of_text measure a text))

-- the cells of a text that goes on in the next line, the last one marked; an empty text has no cell
-- to mark
abbrev pub wrapped_text : (List ℕ → ℕ) → Attributes → List ℕ → List CellValue
wrapped_text measure a text =
    if length (stored_text measure a text) == 0 then []
    else set_last_wrapped true (stored_text measure a text)

-- the text of a visible cell that begins in the columns from a to b - 1
abbrev pub text_within : ℕ → ℕ → VisibleCell → List ℕ
text_within a b p = if begins_within a b p then p.cell.text else []

-- the texts of those of the visible cells that begin in these columns
abbrev pub texts_between : ℕ → ℕ → List VisibleCell → List ℕ
texts_between a b cells = flat_map (text_within a b) cells

-- each cell is set at its column, in order
abbrev pub overlaid : List VisibleCell → List CellValue → List CellValue
overlaid [] cs = cs
overlaid (p ∷ ps) cs = overlaid ps (set_cell p.column p.cell cs)

-- the cells are set at their columns, in order; the line takes the number with the first
pub record Overlays (old : LineValue) (cells : List VisibleCell) (seqno : ℕ) (new : LineValue) :
    Type 0 where
  pub cells_are : new.cells ≡ overlaid cells old.cells
  pub number : new.seqno ≡ taken (length cells) old.seqno seqno
  pub flags : new.flags ≡ old.flags
  pub vector : old.is_vector ≡ true → new.is_vector ≡ true

-- some first ones of the cells are set
pub record IsPartlyOverlaid (old : LineValue) (cells : List VisibleCell) (seqno : ℕ)
    (new : LineValue) : Type 0 where
  pub set : List VisibleCell
  pub left : List VisibleCell
  pub whole : set ++ left ≡ cells
  pub overlays : Overlays old set seqno new
