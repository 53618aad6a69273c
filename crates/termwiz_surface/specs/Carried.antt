-- What the numbers of a surface name, and what its answers carry, said of the surface itself.
use Rattle.std.specs.Prelude.{ℕ, List}
use Rattle.termwiz_screen.specs.Picture.{Pictures}
use Rattle.termwiz_surface.specs.Answer.{AnswerValue, IsGiven, Carries}
use Rattle.termwiz_surface.specs.History.{IsPast}
use Rattle.termwiz_surface.specs.Surface.{SurfaceValue, full_of}

module _ {P : Type 0} (pictures : Pictures P) {W : Type 0} (measure_of : W → List ℕ → ℕ) where
  -- past says which pictures its numbers name
  abbrev pub IsPastOf : (ℕ → P) → SurfaceValue W → Type 0
  IsPastOf past s = IsPast pictures (measure_of s.widths) past (pictures.shown (full_of s)) s.log

  -- the surface gives this answer for number n
  abbrev pub IsGivenBy : SurfaceValue W → ℕ → AnswerValue → Type 0
  IsGivenBy s n a = IsGiven pictures (measure_of s.widths) (pictures.shown (full_of s)) s.log n a

  -- the answer leads to what the surface shows
  abbrev pub CarriesTo : (ℕ → P) → AnswerValue → SurfaceValue W → Type 0
  CarriesTo past a s = Carries pictures (measure_of s.widths) past a (pictures.shown (full_of s))
