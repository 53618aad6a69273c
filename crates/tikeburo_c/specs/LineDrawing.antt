-- Lines drawn on rows of surfaces.
use Rattle.std.specs.Prelude.{◌≡◌, ◌⊎◌, ℕ, ◌<◌, ◌≤◌, true, Err, OnOk, Option, Some, None, List, [], ◌∷◌, slice_get}
use Rattle.termwiz_cell.specs.CellValue.{CellValue}
use Rattle.termwiz_cell.specs.ChangeValue.{ChangeValue}
use Rattle.termwiz_line.specs.LineValue.{LineValue}
use Rattle.termwiz_line.specs.Row.{row_of}
use Rattle.termwiz_screen.specs.Diff.{diff, restoring}
use Rattle.termwiz_screen.specs.Printable.{ArePrintable}
use Rattle.termwiz_share.specs.Source.{SourceValue}
use Rattle.termwiz_surface.specs.Diffs.{HaveRow, one_row, screen_after}
use Rattle.termwiz_surface.specs.Measuring.{AreMeasured}
use Rattle.termwiz_surface.specs.Surface.{SurfaceValue, screen_of}
use Rattle.tikeburo_c.specs.Changes.{AddsChanges}
use Rattle.tikeburo_c.specs.Kept.{lines_of}
use Rattle.tikeburo_c.specs.Outcomes.{Outcome}
use Rattle.tikeburo_c.specs.Results.{OfKind, OnSurface, OrNoMemory, Refused}
use Rattle.tikeburo_c.specs.Widths.{columns_by}
use Rattle.tikeburo_c.specs.declared.failure.Failure.TheVariants.{NoHandle, OtherWidths, Range, Region}
use Rattle.tikeburo_c.specs.declared.kept.Kept.{Kept}
use Rattle.tikeburo_c.specs.declared.widths.ChosenWidths.{ChosenWidths}

-- what a row lacks of a line, cut or padded to the surface's width; nothing where there is no such
-- row
abbrev pub line_diff : SurfaceValue ChosenWidths → ℕ → List CellValue → List ChangeValue
line_diff s row cells =
    diff (screen_of s).rows (row_of s.width cells ∷ []) (one_row (screen_of s) row)

-- the changes that draw it: after what they print they restore cursor and pen
abbrev pub line_drawing : SurfaceValue ChosenWidths → ℕ → List CellValue → List ChangeValue
line_drawing s row cells = restoring s.x s.y s.pen (line_diff s row cells)

-- the row is the line's, where there is such a row, and the others are those of the surface
abbrev pub HasLine :
    SurfaceValue ChosenWidths → ℕ → List CellValue → List (List CellValue) → Type 0
HasLine s row cells rows = HaveRow rows (screen_of s).rows s.height row (row_of s.width cells)

-- a line is drawn on a row
pub record DrawsLineAs (row : ℕ) (cells : List CellValue) (old : SourceValue ChosenWidths)
    (outcome : Outcome) (new : SourceValue ChosenWidths) : Type 0 where
  pub drawn : AddsChanges true (line_drawing old.surface row cells) old outcome new
  -- all but the rows is as before
  pub restores :
      OnOk outcome
      (screen_of new.surface ≡
      record (screen_of old.surface) { rows = (screen_of new.surface).rows })
  -- the row shows the line
  pub shows : OnOk outcome (HasLine old.surface row cells (screen_of new.surface).rows)
  pub no_scroll : outcome ≡ Err Region → ⊥

-- where each visible cell of the line is one grapheme, as wide as the surface measures it, and
-- unless memory was refused first
abbrev pub DrawsLine :
    ℕ → List CellValue → SourceValue ChosenWidths → Outcome → SourceValue ChosenWidths → Type 0
DrawsLine row cells old outcome new =
    (AreMeasured (columns_by old.surface.widths) cells ×
    OrNoMemory (DrawsLineAs row cells) old outcome new)
    ⊎ ((AreMeasured (columns_by old.surface.widths) cells → ⊥) ×
    Refused OtherWidths old outcome new)

-- of a line that there is
abbrev pub DrawsOne :
    ℕ → ℕ → List LineValue → SourceValue ChosenWidths → Outcome → SourceValue ChosenWidths → Type 0
DrawsOne row index lines = of_line (slice_get lines index)
  where
    of_line :
        Option LineValue → SourceValue ChosenWidths → Outcome → SourceValue ChosenWidths → Type 0
    of_line (Some line) = DrawsLine row line.cells
    of_line None = Refused Range

-- on the surface that a handle has, of the lines that another one has
abbrev pub DrawsFrom : Option Kept → ℕ → ℕ → Option Kept → Outcome → Option Kept → Type 0
DrawsFrom (Some kept) row index =
    OfKind (λ lines. OnSurface (DrawsOne row index lines)) (lines_of kept)
DrawsFrom None row index = Refused NoHandle

-- what is known of the changes that draw it
pub record IsDrawing (s : SurfaceValue ChosenWidths) (row : ℕ) (cells : List CellValue)
    (changes : List ChangeValue) : Type 0 where
  pub is : changes ≡ line_drawing s row cells
  pub shows :
      ArePrintable (columns_by s.widths) cells →
      HasLine s row cells (screen_after columns_by s (line_diff s row cells)).rows
  -- the cursor can be set as it was
  pub column : s.x ≤ s.width
  pub row_is : s.y < s.height
