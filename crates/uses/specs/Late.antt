-- Viewers that are served by answers.
use Rattle.std.specs.Prelude.{◌≡◌, ℕ, ◌≤◌, List}
use Rattle.termwiz_surface.specs.{IsPastOf, ShowsNamed, SurfaceValue, ViewerValue, next_number}
use Rattle.termwiz_surface.specs.Picture.{Pictures}

module _ {P : Type 0} (pictures : Pictures P) {W : Type 0} (measure_of : W → List ℕ → ℕ) where
  -- the viewer measures as the surface does, and shows what its number names, which the surface had
  pub record IsServed (v : ViewerValue W) (s : SurfaceValue W) : Type 0 where
    pub one_measure : measure_of v.surface.widths ≡ measure_of s.widths
    pub past : ℕ → P
    pub is_past : IsPastOf pictures measure_of past s
    pub not_ahead : v.last ≤ next_number s.log
    pub names : ShowsNamed pictures past v
