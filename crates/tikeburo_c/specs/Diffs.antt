-- What a surface lacks of another one, as a list of C's.
use Rattle.std.specs.Prelude.{◌≡◌, List, [], Option, Some, None}
use Rattle.termwiz_cell.specs.ChangeValue.{ChangeValue}
use Rattle.termwiz_screen.specs.Diff.{Region, whole}
use Rattle.termwiz_surface.specs.{GivesRegion, MeasureAlike, PrintsRegion, cut_to, region_diff, screen_after}
use Rattle.termwiz_surface.specs.Surface.{SurfaceValue, screen_of}
use Rattle.tikeburo_c.specs.Getting.{GivesAll, ListPlace}
use Rattle.tikeburo_c.specs.Kept.{shown_of}
use Rattle.tikeburo_c.specs.Outcomes.{Outcome}
use Rattle.tikeburo_c.specs.Results.{ReadsInto, Refused, OfKind, OrNoMemory}
use Rattle.tikeburo_c.specs.SameWidths.{WhereSame}
use Rattle.tikeburo_c.specs.Widths.{columns_by}
use Rattle.tikeburo_c.specs.declared.failure.Failure.TheVariants.{NoHandle}
use Rattle.tikeburo_c.specs.declared.kept.Kept.{Kept}
use Rattle.tikeburo_c.specs.declared.widths.ChosenWidths.{ChosenWidths}

-- these changes are the library's diff of two surfaces in a region
pub record IsRegionDiff (r : Region) (s t : SurfaceValue ChosenWidths)
    (changes : List ChangeValue) : Type 0 where
  pub is : changes ≡ region_diff s t r
  pub prints : PrintsRegion columns_by s t r changes
  -- they give the region, where no wide grapheme crosses an edge
  pub region :
      MeasureAlike columns_by s t →
      GivesRegion (screen_after columns_by s changes).rows (screen_of s) (screen_of t)
      (cut_to s t r)

-- they are the diff of all that two surfaces show
pub record IsScreensDiff (s t : SurfaceValue ChosenWidths) (changes : List ChangeValue) :
    Type 0 where
  pub is : changes ≡ region_diff s t (whole s.width s.height)
  pub prints : PrintsRegion columns_by s t (whole s.width s.height) changes
  -- of one size: they give the rows, and there are none where these are equal
  pub rows :
      s.width ≡ t.width → s.height ≡ t.height → MeasureAlike columns_by s t →
      (screen_after columns_by s changes).rows ≡ (screen_of t).rows
  pub equal :
      (screen_of s).rows ≡ (screen_of t).rows → s.width ≡ t.width → s.height ≡ t.height →
      changes ≡ []

-- the diff in a region, or where none is named, that of all
abbrev pub IsWrittenDiff :
    Option Region → SurfaceValue ChosenWidths → SurfaceValue ChosenWidths → List ChangeValue →
    Type 0
IsWrittenDiff (Some r) = IsRegionDiff r
IsWrittenDiff None = IsScreensDiff

-- it is given as a list, which leads to no number
pub record GivesDiff (region : Option Region) (s t : SurfaceValue ChosenWidths) (old : ListPlace)
    (outcome : Outcome) (new : ListPlace) : Type 0 where
  pub changes : List ChangeValue
  pub is_diff : IsWrittenDiff region s t changes
  pub gives : GivesAll changes 0 old outcome new

-- where both measure by the same widths, unless memory was refused first
abbrev pub GivesSameDiff :
    Option Region → SurfaceValue ChosenWidths → SurfaceValue ChosenWidths → ListPlace → Outcome →
    ListPlace → Type 0
GivesSameDiff region s t = WhereSame s.widths t.widths (OrNoMemory (GivesDiff region s t))

-- the call read this of the surfaces that two handles have, or that their viewers or clients show
abbrev pub ReadsBoth :
    {B : Type 0} →
    (SurfaceValue ChosenWidths → SurfaceValue ChosenWidths → B → Outcome → B → Type 0) →
    Option Kept → Option Kept → B → Outcome → B → Type 0
ReadsBoth P own (Some other) = OfKind (λ t. ReadsInto (λ s. P s t) own) (shown_of other)
ReadsBoth P own None = Refused NoHandle
