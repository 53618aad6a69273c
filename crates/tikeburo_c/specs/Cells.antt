-- What is read of rows and their cells.
use Rattle.std.specs.Prelude.{◌≡◌, ℕ, Bool, Option, Some, None, List, [], OnOk, OnErr, nat_lt, slice_get, if◌then◌else◌}
use Rattle.termwiz_cell.specs.CellValue.{CellValue}
use Rattle.termwiz_cell.specs.Link.{Link}
use Rattle.termwiz_cell.specs.{line_number}
use Rattle.termwiz_surface.specs.{LineFlags, line_attribute, stored, texts_of, visible}
use Rattle.termwiz_surface.specs.Surface.{SurfaceValue, screen_of}
use Rattle.tikeburo_c.specs.Fields.{cell_fields}
use Rattle.tikeburo_c.specs.Outcomes.{Outcome}
use Rattle.tikeburo_c.specs.Results.{Buffer, GivesInto, OrNoMemory, Refused, Returns}
use Rattle.tikeburo_c.specs.declared.failure.Failure.TheVariants.{Range}
use Rattle.tikeburo_c.specs.declared.fields.CellFields.{CellFields}
use Rattle.tikeburo_c.specs.declared.widths.ChosenWidths.{ChosenWidths}

-- the cells of a row, if there is one: of the screen's row, or those within its stored length
abbrev pub row_in : Bool → ℕ → SurfaceValue ChosenWidths → Option (List CellValue)
row_in filled row s = slice_get (if filled then (screen_of s).rows else s.lines) row

-- of a row that there is, the texts of the visible cells
abbrev pub GivesRow : Bool → ℕ → SurfaceValue ChosenWidths → Buffer → Outcome → Buffer → Type 0
GivesRow filled row s = of_row (row_in filled row s)
  where
    of_row : Option (List CellValue) → Buffer → Outcome → Buffer → Type 0
    of_row (Some cells) = OrNoMemory (GivesInto (texts_of (visible cells)))
    of_row None = Refused Range

-- how large a row that there is is shown
abbrev pub ReadsLine : ℕ → SurfaceValue ChosenWidths → ℕ → Outcome → ℕ → Type 0
ReadsLine row s = of_row (slice_get s.flags row)
  where
    of_row : Option LineFlags → ℕ → Outcome → ℕ → Type 0
    of_row (Some flags) = Returns (line_number (line_attribute flags))
    of_row None = Refused Range

-- the cell at a column of a row, if there is one: a default blank stands after the stored ones
abbrev pub cell_in : ℕ → ℕ → SurfaceValue ChosenWidths → Option CellValue
cell_in column row s = of_row (slice_get s.lines row)
  where
    of_row : Option (List CellValue) → Option CellValue
    of_row (Some cells) = if nat_lt column s.width then Some (stored cells column) else None
    of_row None = None

-- the caller's struct for a cell, and the buffer for its text
abbrev pub CellPlace : Type 0
CellPlace = CellFields × Buffer

abbrev pub GivesCell : Option CellValue → CellPlace → Outcome → CellPlace → Type 0
GivesCell (Some cell) old outcome new =
    GivesInto cell.text old.1 outcome new.1 × OnOk outcome (new.0 ≡ cell_fields cell) ×
    OnErr outcome (new.0 ≡ old.0)
GivesCell None old outcome new = Refused Range old outcome new

-- the target of a link, or nothing
abbrev pub uri_of : Option Link → List ℕ
uri_of (Some link) = link.uri
uri_of None = []

abbrev pub GivesLink : Option CellValue → Buffer → Outcome → Buffer → Type 0
GivesLink (Some cell) = GivesInto (uri_of cell.attrs.hyperlink)
GivesLink None = Refused Range
