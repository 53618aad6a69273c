-- What each call preserves that changes a surface, also where it fails.
use Rattle.std.specs.Prelude.{ℕ, List}
use Rattle.termwiz_surface.specs.Following.{KeepsViewers}
use Rattle.termwiz_surface.specs.History.{KeepsNames}
use Rattle.termwiz_surface.specs.RowNumbers.{NumbersRows}
use Rattle.termwiz_surface.specs.Surface.{SurfaceValue}

-- each viewer that followed the surface follows it still, its numbers name what they named, and a
-- row whose number isn't above one that the surface had shows what it did then
pub record Preserves {W : Type 0} (measure_of : W → List ℕ → ℕ) (old new : SurfaceValue W) :
    Type 0 where
  pub viewers : KeepsViewers measure_of old new
  pub names : KeepsNames (measure_of old.widths) old new
  pub rows : NumbersRows old new
