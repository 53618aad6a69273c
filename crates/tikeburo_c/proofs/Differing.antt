-- What the library says of its diffs, in one fact.
use Rattle.std.proofs.Common.{◌≡◌, List, [], Result, Ok, Err, map}
use Rattle.std.specs.Prelude.{IfOk}
use Rattle.std.specs.declared.alloc.AllocError.{AllocError}
use Rattle.std.specs.declared.alloc.Global.{Global}
use Rattle.std.specs.declared.vec.Vec.{Vec}
use Rattle.termwiz_cell.specs.ChangeValue.{ChangeValue, change_value}
use Rattle.termwiz_cell.specs.declared.change.Change.{Change}
use Rattle.termwiz_screen.specs.Diff.{Region, whole}
use Rattle.termwiz_surface.specs.{GivesRegion, MeasureAlike, PrintsRegion, cut_to, region_diff, screen_after}
use Rattle.termwiz_surface.specs.Surface.{SurfaceValue, screen_of}
use Rattle.tikeburo_c.specs.Diffs.{IsRegionDiff, IsScreensDiff}
use Rattle.tikeburo_c.specs.Widths.{columns_by}
use Rattle.tikeburo_c.specs.declared.widths.ChosenWidths.{ChosenWidths}

abbrev Made : Type 0
Made = Result (Vec Change Global) AllocError

abbrev listed : Vec Change Global → List ChangeValue
listed l = map change_value l.items

pub region_diff_is : (r : Region) (s t : SurfaceValue ChosenWidths) (made : Made) → IfOk made (λ l. listed l ≡ region_diff s t r) → IfOk made (λ l. PrintsRegion columns_by s t r (listed l)) → IfOk made (λ l. MeasureAlike columns_by s t → GivesRegion (screen_after columns_by s (listed l)).rows (screen_of s) (screen_of t) (cut_to s t r)) → IfOk made (λ l. IsRegionDiff r s t (listed l))
region_diff_is r s t (Ok l) is prints region = record { is = is; prints = prints; region = region }
region_diff_is r s t (Err e) is prints region = tt

-- a fact of two surfaces of one size, of what was made if anything was
abbrev OfOneSize : SurfaceValue ChosenWidths → SurfaceValue ChosenWidths → Type 0 → Type 0
OfOneSize s t P = s.width ≡ t.width → s.height ≡ t.height → P

pub screens_diff_is : (s t : SurfaceValue ChosenWidths) (made : Made) → IfOk made (λ l. listed l ≡ region_diff s t (whole s.width s.height)) → IfOk made (λ l. PrintsRegion columns_by s t (whole s.width s.height) (listed l)) → OfOneSize s t (MeasureAlike columns_by s t → IfOk made (λ l. (screen_after columns_by s (listed l)).rows ≡ (screen_of t).rows)) → ((screen_of s).rows ≡ (screen_of t).rows → OfOneSize s t (IfOk made (λ l. listed l ≡ []))) → IfOk made (λ l. IsScreensDiff s t (listed l))
screens_diff_is s t (Ok l) is prints rows equal = record { is = is; prints = prints; rows = rows; equal = equal }
screens_diff_is s t (Err e) is prints rows equal = tt
