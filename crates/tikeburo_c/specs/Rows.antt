-- What is read of a row at once: its visible cells, their attributes by runs, and their texts.
use Rattle.std.specs.Prelude.{◌≡◌, ℕ, zero, suc, ◌+◌, ◌-◌, ◌≤◌, Bool, true, not, Ok, Err, Option, Some, None, is_some, List, [], ◌∷◌, ◌++◌, length, take, drop, slice_get, if◌then◌else◌}
use Rattle.termwiz_cell.specs.Attributes.{Attributes, attributes_eq}
use Rattle.termwiz_cell.specs.CellValue.{CellValue, blank, columns}
use Rattle.termwiz_line.specs.Row.{visible_upto}
use Rattle.termwiz_storage.specs.VisibleCell.{at_column}
use Rattle.termwiz_surface.specs.{VisibleCell, texts_of, visible}
use Rattle.termwiz_surface.specs.Surface.{SurfaceValue, screen_of}
use Rattle.tikeburo_c.specs.Fields.{attribute_fields}
use Rattle.tikeburo_c.specs.Outcomes.{Outcome}
use Rattle.tikeburo_c.specs.Results.{OrNoMemory, Refused}
use Rattle.tikeburo_c.specs.declared.failure.Failure.TheVariants.{Range, Short}
use Rattle.tikeburo_c.specs.declared.fields.AttributeFields.{AttributeFields}
use Rattle.tikeburo_c.specs.declared.row_parts.RowCellFields.{RowCellFields}
use Rattle.tikeburo_c.specs.declared.row_parts.RowCounts.{RowCounts}
use Rattle.tikeburo_c.specs.declared.widths.ChosenWidths.{ChosenWidths}

-- these attributes begin a run: the cell before has others, or there is none
abbrev pub begins : Option Attributes → Attributes → Bool
begins None a = true
begins (Some before) a = not (attributes_eq before a)

-- the attributes that a cell adds to those of the runs before it
abbrev pub begun : Option Attributes → Attributes → List AttributeFields
begun before a = if begins before a then attribute_fields a ∷ [] else []

-- the attributes of each run of cells that have the same ones
abbrev pub runs_of : Option Attributes → List VisibleCell → List AttributeFields
runs_of before [] = []
runs_of before (p ∷ ps) = begun before p.cell.attrs ++ runs_of (Some p.cell.attrs) ps

-- a cell whose text begins at this byte, and whose attributes are those of this run
abbrev pub row_cell : ℕ → ℕ → CellValue → RowCellFields
row_cell begin run c = record {
  begin = begin;
  len = length c.text;
  run = run;
  columns = columns c;
  has_link = is_some c.attrs.hyperlink;
}

-- cells whose texts begin at this byte, after `runs` runs of attributes: each has the last run
abbrev pub cell_fields_from : ℕ → ℕ → Option Attributes → List VisibleCell → List RowCellFields
cell_fields_from begin runs before [] = []
cell_fields_from begin runs before (p ∷ ps) =
    let up_to = runs + length (begun before p.cell.attrs) in
    row_cell begin (up_to - 1) p.cell
    ∷ cell_fields_from (begin + length p.cell.text) up_to (Some p.cell.attrs) ps

-- what is read of a row
pub record RowValue : Type 0 where
  pub cells : List RowCellFields
  pub attributes : List AttributeFields
  pub text : List ℕ

abbrev pub row_value : List VisibleCell → RowValue
row_value cells = record {
  cells = cell_fields_from 0 0 None cells;
  attributes = runs_of None cells;
  text = texts_of cells;
}

-- default blanks in n columns from column x on
abbrev pub blanks_at : ℕ → ℕ → List VisibleCell
blanks_at x zero = []
blanks_at x (suc n) = at_column x blank ∷ blanks_at (suc x) n

-- a caller's arrays, with the counts beside them
pub record RowPlace : Type 0 where
  pub cells : List RowCellFields
  pub attributes : List AttributeFields
  pub text : List ℕ
  pub counts : RowCounts

abbrev pub row_place : List RowCellFields → List AttributeFields → List ℕ → RowCounts → RowPlace
row_place cells attributes text counts =
    record { cells = cells; attributes = attributes; text = text; counts = counts }

-- how many of each there are
abbrev pub counts_of : RowValue → RowCounts
counts_of v = record {
  cells = length v.cells;
  attributes = length v.attributes;
  text = length v.text;
}

-- each array is long enough
pub record HasRoomFor (v : RowValue) (place : RowPlace) : Type 0 where
  pub cells : length v.cells ≤ length place.cells
  pub attributes : length v.attributes ≤ length place.attributes
  pub text : length v.text ≤ length place.text

-- an array with these at its front
abbrev pub at_front : {A : Type 0} → List A → List A → List A
at_front xs room = xs ++ drop (length xs) room

-- an array with these in the place of as many from an index on
abbrev pub overwritten : {A : Type 0} → ℕ → List A → List A → List A
overwritten at xs room = take at room ++ (xs ++ drop (at + length xs) room)

-- all is at the arrays' fronts, with their counts, or one of them is too short and there are only
-- the counts
abbrev pub GivesParts : RowValue → RowPlace → Outcome → RowPlace → Type 0
GivesParts v old (Ok _) new = HasRoomFor v old × (new ≡ record {
  cells = at_front v.cells old.cells;
  attributes = at_front v.attributes old.attributes;
  text = at_front v.text old.text;
  counts = counts_of v;
})
GivesParts v old (Err Short) new =
    (HasRoomFor v old → ⊥) × (new ≡ record old { counts = counts_of v })
GivesParts v old (Err _) new = ⊥

-- of a row that there is, the visible cells within its stored length
abbrev pub GivesCells : ℕ → SurfaceValue ChosenWidths → RowPlace → Outcome → RowPlace → Type 0
GivesCells row s = of_row (slice_get s.lines row)
  where
    of_row : Option (List CellValue) → RowPlace → Outcome → RowPlace → Type 0
    of_row (Some cells) = OrNoMemory (GivesParts (row_value (visible cells)))
    of_row None = Refused Range

-- of a row that there is, the visible cells of the screen's row, which take each column
abbrev pub GivesShown : ℕ → SurfaceValue ChosenWidths → RowPlace → Outcome → RowPlace → Type 0
GivesShown row s = of_row (slice_get (screen_of s).rows row)
  where
    of_row : Option (List CellValue) → RowPlace → Outcome → RowPlace → Type 0
    of_row (Some cells) = OrNoMemory (GivesParts (row_value (visible_upto cells s.width)))
    of_row None = Refused Range
