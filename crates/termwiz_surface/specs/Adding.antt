-- What adding a list of changes makes of a surface, and the number that it returns.
use Rattle.std.specs.Prelude.{◌≡◌, ℕ, ◌+◌, ◌<◌, ◌≤◌, ◌^◌, true, false, List, length, Result, Ok, Err}
use Rattle.termwiz_cell.specs.ChangeValue.{ChangeValue}
use Rattle.termwiz_screen.specs.Log.{LogValue, next_number, appended, restarted}
use Rattle.termwiz_surface.specs.Surface.{SurfaceValue, screen_of, kept_of, IsSound, SameFrame, Becomes}
use Rattle.termwiz_screen.specs.Step.{replay, replay_kept, regions_fit}
use Rattle.termwiz_surface.specs.Touching.{touched}
use Rattle.termwiz_surface.specs.declared.surface.SurfaceError.{SurfaceError}
use Rattle.termwiz_surface.specs.declared.surface.SurfaceError.TheVariants.{ScrollRegion, Numbers, Memory}

module _ {W : Type 0} where
  -- the surface with this log
  abbrev pub with_log : SurfaceValue W → LogValue → SurfaceValue W
  with_log s log = record s { log = log }

  -- the surface with this log, whose number rows get that change
  abbrev pub marking : SurfaceValue W → LogValue → SurfaceValue W
  marking s log = record s { log = log; mark = next_number log }

  -- why a list of changes is refused before any is made, where it is
  abbrev pub Refuses : SurfaceValue W → List ChangeValue → Result (Unit {0}) SurfaceError → Type 0
  Refuses s changes (Ok u) =
      (regions_fit s.height changes ≡ true) × (next_number s.log + length changes < 2 ^ 64)
  Refuses s changes (Err ScrollRegion) = regions_fit s.height changes ≡ false
  Refuses s changes (Err Numbers) =
      (regions_fit s.height changes ≡ true) × (2 ^ 64 ≤ next_number s.log + length changes)
  Refuses s changes (Err Memory) = ⊥

  -- the changes are made, and logged; the rows that they touch get the surface's new number
  abbrev pub Makes : (List ℕ → ℕ) → SurfaceValue W → List ChangeValue → SurfaceValue W → Type 0
  Makes measure old changes new =
      Becomes (marking old (appended old.log changes)) (replay measure (screen_of old) changes)
      (replay_kept measure (screen_of old) (kept_of old) changes)
      (touched measure (screen_of old) changes) new

  -- a list of changes is made, and this number returned, or it is refused
  abbrev pub Adds :
      (List ℕ → ℕ) → SurfaceValue W → List ChangeValue → ℕ → Result ℕ SurfaceError →
      SurfaceValue W → Type 0
  Adds measure old changes number (Ok n) new =
      (regions_fit old.height changes ≡ true) × (next_number old.log + length changes < 2 ^ 64) ×
      (n ≡ number) × Makes measure old changes new
  -- a scroll's region goes past the last row: nothing has changed
  Adds measure old changes number (Err ScrollRegion) new =
      (regions_fit old.height changes ≡ false) × (new ≡ old)
  -- the numbers would pass the greatest: nothing has changed
  Adds measure old changes number (Err Numbers) new =
      (regions_fit old.height changes ≡ true) × (2 ^ 64 ≤ next_number old.log + length changes) ×
      (new ≡ old)
  -- some memory was refused: the surface is any one of that size in its form, with an empty log
  -- under a new number, or 0 where that was the number
  Adds measure old changes number (Err Memory) new =
      (regions_fit old.height changes ≡ true) × (next_number old.log + length changes < 2 ^ 64) ×
      (0 < length changes) × SameFrame (with_log old (restarted old.log)) new ×
      IsSound measure new
