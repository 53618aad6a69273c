-- Lists of changes whose scrolled-off rows are kept: what the surface shows, and what the lines do.
use Rattle.std.specs.Prelude.{◌≡◌, ℕ, Bool, true, false, Result, Ok, Err, Option, Some, None, List}
use Rattle.termwiz_cell.specs.ChangeValue.{ChangeValue}
use Rattle.termwiz_line.specs.LineValue.{LineValue}
use Rattle.termwiz_surface.specs.ScrolledOff.{BeginsRows, ScrollsOff, ShownRow, rows_scrolled_off}
use Rattle.termwiz_surface.specs.Surface.{SurfaceValue, kept_of, screen_of}
use Rattle.tikeburo_c.specs.Kept.{lines_of}
use Rattle.tikeburo_c.specs.Lists.{listed_in}
use Rattle.tikeburo_c.specs.Outcomes.{Outcome}
use Rattle.tikeburo_c.specs.Results.{OfKind, OnLines, Refused}
use Rattle.tikeburo_c.specs.Widths.{columns_by}
use Rattle.tikeburo_c.specs.declared.failure.Failure.{Failure}
use Rattle.tikeburo_c.specs.declared.failure.Failure.TheVariants.{Memory, NoHandle}
use Rattle.tikeburo_c.specs.declared.kept.Kept.{Kept}
use Rattle.tikeburo_c.specs.declared.kept.Kept.TheVariants.{Surface, Viewer, Client, Lines}
use Rattle.tikeburo_c.specs.declared.lists.ChangeFields.{ChangeFields}
use Rattle.tikeburo_c.specs.declared.widths.ChosenWidths.{ChosenWidths}

-- the rows that changes scroll off a surface, the first one first
abbrev pub rows_off : SurfaceValue ChosenWidths → List ChangeValue → List ShownRow
rows_off s changes = rows_scrolled_off (columns_by s.widths) (screen_of s) (kept_of s) changes

-- Lines that show these rows come after the old ones. Where memory was refused, the first of them
-- may come, and after any other error none does.
abbrev pub AddsRows :
    ℕ → List ShownRow → List LineValue → Outcome → List LineValue → Type 0
AddsRows width rows old (Ok _) new = ScrollsOff width rows old new
AddsRows width rows old (Err Memory) new = BeginsRows width rows old new
AddsRows width rows old (Err _) new = new ≡ old

-- the lines are as they were
abbrev pub Unchanged : List LineValue → Outcome → List LineValue → Type 0
Unchanged old outcome new = new ≡ old

-- the rows are those that listed changes scroll off a surface, if the list has no fault
abbrev pub AddsListedRows :
    List ChangeFields → List ℕ → SurfaceValue ChosenWidths → List LineValue → Outcome →
    List LineValue → Type 0
AddsListedRows fs texts s = of (listed_in fs texts) s
  where
    of :
        Result (List ChangeValue) Failure → SurfaceValue ChosenWidths → List LineValue → Outcome →
        List LineValue → Type 0
    of (Ok changes) s = AddsRows s.width (rows_off s changes)
    of (Err failure) s = Unchanged

-- off the surface that a handle has, if it has one
abbrev pub AddsRowsOf :
    List ChangeFields → List ℕ → Option Kept → List LineValue → Outcome → List LineValue → Type 0
AddsRowsOf fs texts (Some (Surface s)) = AddsListedRows fs texts s.surface
AddsRowsOf fs texts (Some (Viewer f)) = Unchanged
AddsRowsOf fs texts (Some (Client c)) = Unchanged
AddsRowsOf fs texts (Some (Lines l)) = Unchanged
AddsRowsOf fs texts None = Unchanged

-- the call did this, if the handle has lines
abbrev pub WithLines :
    Option Kept → (Option Kept → Outcome → Option Kept → Type 0) → Option Kept → Outcome →
    Option Kept → Type 0
WithLines (Some kept) P = OfKind (λ lines. P) (lines_of kept)
WithLines None P = Refused NoHandle

-- where lines are kept, the call did this if the handle has lines, and elsewhere in any case
abbrev pub WithLinesIf :
    Bool → Option Kept → (Option Kept → Outcome → Option Kept → Type 0) → Option Kept → Outcome →
    Option Kept → Type 0
WithLinesIf true kept P = WithLines kept P
WithLinesIf false kept P = P

-- where lines are kept, the call did this to the lines that the handle has, and elsewhere nothing
abbrev pub OnLinesIf :
    Bool → (List LineValue → Outcome → List LineValue → Type 0) → Option Kept → Outcome →
    Option Kept → Type 0
OnLinesIf true P old outcome new = OnLines P old outcome new
OnLinesIf false P old outcome new = new ≡ old
