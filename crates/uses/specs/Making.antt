-- Changes that callers make on a surface: as one list, or each by itself.
use Rattle.std.specs.Prelude.{◌≡◌, ◌⊎◌, ℕ, ◌+◌, ◌<◌, ◌^◌, true, List, [], ◌∷◌, ◌++◌, length, Result, Ok, Err}
use Rattle.termwiz_screen.specs.Diff.{Region}
use Rattle.termwiz_surface.specs.Adding.{Refuses}
use Rattle.termwiz_surface.specs.{Adds, ChangeValue, FullScreen, IsDrawn, Makes, SurfaceValue, appended, full_of, full_replay, next_number, regions_fit}
use Rattle.termwiz_surface.specs.declared.surface.SurfaceError.{SurfaceError}
use Rattle.termwiz_surface.specs.declared.surface.SurfaceError.TheVariants.{Memory, Numbers, ScrollRegion}

-- a surface refuses these changes for this reason, or makes them where memory lasts
abbrev pub MayRefuse : {W : Type 0} → SurfaceValue W → List ChangeValue → SurfaceError → Type 0
MayRefuse s changes ScrollRegion = Refuses s changes (Err ScrollRegion)
MayRefuse s changes Numbers = Refuses s changes (Err Numbers)
MayRefuse s changes Memory = Refuses s changes (Ok tt)

module _ {W : Type 0} (measure : List ℕ → ℕ) (old : SurfaceValue W)
    (changes : List ChangeValue) where
  -- the surface makes the list, or refuses it, as its own calls do
  abbrev pub MakesOrRefuses : Result (Unit {0}) SurfaceError → SurfaceValue W → Type 0
  MakesOrRefuses (Ok u) new =
      (regions_fit old.height changes ≡ true) ×
      (next_number old.log + length changes < 2 ^ 64) × Makes measure old changes new
  MakesOrRefuses (Err e) new = Adds measure old changes 0 (Err e) new

  -- or there was no memory for the list itself, and nothing has changed
  abbrev pub MakesOrFails : Result (Unit {0}) SurfaceError → SurfaceValue W → Type 0
  MakesOrFails result new = MakesOrRefuses result new ⊎ ((result ≡ Err Memory) × (new ≡ old))

module _ {W : Type 0} (measure_of : W → List ℕ → ℕ) where
  -- the full screen that the changes make of what a surface shows
  abbrev pub full_after : SurfaceValue W → List ChangeValue → FullScreen
  full_after s changes = full_replay (measure_of s.widths) (full_of s) changes

  -- these changes are made, and no others: each has taken a number
  pub record HasMade (old : SurfaceValue W) (changes : List ChangeValue) (new : SurfaceValue W) :
      Type 0 where
    pub shows : full_of new ≡ full_after old changes
    pub counted : next_number new.log ≡ next_number old.log + length changes
    pub widths : new.widths ≡ old.widths

  -- the changes before one are made, and that one is refused
  pub record StopsBefore (old : SurfaceValue W) (changes : List ChangeValue) (error : SurfaceError)
      (new : SurfaceValue W) : Type 0 where
    pub made : List ChangeValue
    pub refused : ChangeValue
    pub later : List ChangeValue
    pub all : changes ≡ made ++ refused ∷ later
    -- the surface as those made it
    pub mid : SurfaceValue W
    pub has_made : HasMade old made mid
    pub logged : mid.log ≡ appended old.log made
    pub refuses : MakesOrRefuses (measure_of mid.widths) mid (refused ∷ []) (Err error) new

  -- each change is made by itself, all of them or those before one that is refused
  abbrev pub AddsEach :
      SurfaceValue W → List ChangeValue → Result (Unit {0}) SurfaceError → SurfaceValue W → Type 0
  AddsEach old changes (Ok u) new =
      HasMade old changes new × (new.log ≡ appended old.log changes)
  AddsEach old changes (Err error) new = StopsBefore old changes error new

  -- a region of another surface is drawn on one, or that fails, as its own call says
  abbrev pub DrawsOn :
      SurfaceValue W → SurfaceValue W → Region → Result (Unit {0}) SurfaceError → SurfaceValue W →
      Type 0
  DrawsOn old other r (Ok u) new = (n : ℕ) × IsDrawn measure_of old other r (Ok n) new
  DrawsOn old other r (Err e) new = IsDrawn measure_of old other r (Err e) new
