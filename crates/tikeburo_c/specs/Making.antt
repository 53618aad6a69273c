-- How surfaces and clients are made, and how surfaces take another size.
use Rattle.std.specs.Borrow.{Bor}
use Rattle.std.specs.Prelude.{◌≡◌, ℕ, ◌^◌, Bool, true, ◌&&◌, nat_lt, List, Result, Option, Some, None, [], if◌then◌else◌, MatchBool}
use Rattle.termwiz_share.specs.Client.{ClientValue}
use Rattle.termwiz_share.specs.Serving.{PreservesServing}
use Rattle.termwiz_share.specs.Source.{SourceValue}
use Rattle.termwiz_surface.specs.Resizing.{Resizes}
use Rattle.termwiz_surface.specs.Surface.{blank_surface}
use Rattle.termwiz_surface.specs.declared.surface.SurfaceError.{SurfaceError}
use Rattle.termwiz_wire.specs.declared.fault.Limits.{Limits}
use Rattle.tikeburo_c.specs.Outcomes.{Outcome, changing_failure, outcome_of}
use Rattle.tikeburo_c.specs.Results.{OnSurface, OrNoMemory, Refused, Returns}
use Rattle.tikeburo_c.specs.Widths.{AreBy, columns_by, widths_at}
use Rattle.tikeburo_c.specs.declared.failure.Failure.TheVariants.{Range}
use Rattle.tikeburo_c.specs.declared.kept.Kept.{Kept}
use Rattle.tikeburo_c.specs.declared.kept.Kept.TheVariants.{Surface, Client}
use Rattle.tikeburo_c.specs.declared.tables.WidthRange.{WidthRange}
use Rattle.tikeburo_c.specs.declared.widths.ChosenWidths.{ChosenWidths}

-- a surface may have this size
abbrev pub is_size : ℕ → ℕ → Bool
is_size width height =
    (nat_lt 0 width && nat_lt 0 height) && (nat_lt width (2 ^ 32) && nat_lt height (2 ^ 32))

-- a blank surface of this number as a source
abbrev pub blank_source : ChosenWidths → ℕ → ℕ → ℕ → SourceValue ChosenWidths
blank_source widths width height source =
    record { surface = blank_surface widths width height true; number = source }

-- a blank surface is made, in the place of what the handle had
abbrev pub MakesSurface :
    ℕ → ℕ → ℕ → Option ChosenWidths → Option Kept → Outcome → Option Kept → Type 0
MakesSurface width height source (Some widths) =
    OrNoMemory (Returns (Some (Surface (blank_source widths width height source))))
MakesSurface width height source None = Refused Range

-- the widths, where there are some, and the size and the source's number are some
abbrev pub widths_where : ℕ → ℕ → ℕ → Option ChosenWidths → Option ChosenWidths
widths_where width height source widths =
    if nat_lt 0 source && is_size width height then widths else None

-- the choice of widths of this number, where there is one
abbrev pub widths_for : ℕ → ℕ → ℕ → ℕ → Option ChosenWidths
widths_for width height source number = widths_where width height source (widths_at number)

-- a surface is made that measures by a table of widths, if the ranges are one
abbrev pub MakesSurfaceBy :
    ℕ → ℕ → ℕ → Bor (List WidthRange) → Option Kept → Outcome → Option Kept → Type 0
MakesSurfaceBy width height source ranges old outcome new =
    (widths : Option ChosenWidths) × AreBy ranges widths ×
    MakesSurface width height source (widths_where width height source widths) old outcome new

-- the surface takes another size
abbrev pub TakesSize :
    ℕ → ℕ → SourceValue ChosenWidths → Outcome → SourceValue ChosenWidths → Type 0
TakesSize width height old outcome new =
    (resized : Result (Unit {0}) SurfaceError) × (outcome ≡ outcome_of changing_failure resized) ×
    Resizes old.surface width height resized new.surface × PreservesServing columns_by old new

abbrev pub ResizesIn : ℕ → ℕ → Option Kept → Outcome → Option Kept → Type 0
ResizesIn width height old outcome new =
    MatchBool (is_size width height) (OnSurface (TakesSize width height) old outcome new)
    (Refused Range old outcome new)

-- a client that shows nothing yet
abbrev pub client_within : ChosenWidths → Limits → ClientValue ChosenWidths
client_within widths limits =
    record {
      surface = blank_surface widths 1 1 true;
      source = 0;
      number = 0;
      kept = [];
      limits = limits;
      stopped = None;
    }

-- limits of this many cells and bytes, and of as many rows as are usual
abbrev pub usual_rows : ℕ → ℕ → Limits
usual_rows cells bytes = record { cells = cells; rows = 65536; bytes = bytes }

-- the widths, where there are some, and the limit of an answer's bytes isn't 0
abbrev pub limited : ℕ → Option ChosenWidths → Option ChosenWidths
limited bytes widths = if nat_lt 0 bytes then widths else None

abbrev pub widths_within : ℕ → ℕ → Option ChosenWidths
widths_within bytes number = limited bytes (widths_at number)

-- a client of these widths and limits is made, in the place of what the handle had
abbrev pub MakesClient : Option ChosenWidths → Limits → Option Kept → Outcome → Option Kept → Type 0
MakesClient (Some widths) limits =
    OrNoMemory (Returns (Some (Client (client_within widths limits))))
MakesClient None limits = Refused Range

-- a client is made that measures by a table of widths, if the ranges are one
abbrev pub MakesClientBy :
    Bor (List WidthRange) → Limits → Option Kept → Outcome → Option Kept → Type 0
MakesClientBy ranges limits old outcome new =
    (widths : Option ChosenWidths) × AreBy ranges widths ×
    MakesClient (limited limits.bytes widths) limits old outcome new
