-- What another size makes of a surface.
use Rattle.std.specs.Prelude.{◌≡◌, ℕ, ◌+◌, ◌<◌, ◌≤◌, ◌^◌, ◌==◌, ◌||◌, nat_le, not, Bool, Result, Ok, Err}
use Rattle.termwiz_screen.specs.Log.{next_number, restarted}
use Rattle.termwiz_screen.specs.Resized.{resized_screen, resized_kept}
use Rattle.termwiz_surface.specs.Adding.{marking}
use Rattle.termwiz_surface.specs.Surface.{SurfaceValue, screen_of, kept_of, Becomes}
use Rattle.termwiz_surface.specs.declared.surface.SurfaceError.{SurfaceError}
use Rattle.termwiz_surface.specs.declared.surface.SurfaceError.TheVariants.{ScrollRegion, Numbers, Memory}

module _ {W : Type 0} where
  -- Another width touches every row, and another height the rows that it adds.
  abbrev pub resize_touches : SurfaceValue W → ℕ → ℕ → Bool
  resize_touches old w j = not (w == old.width) || nat_le old.height j

  -- the surface has another size, and an empty log under a new number, or 0 where that was the
  -- number
  abbrev pub HasResized : SurfaceValue W → ℕ → ℕ → SurfaceValue W → Type 0
  HasResized old w h new =
      Becomes (record (marking old (restarted old.log)) { width = w; height = h })
      (resized_screen (screen_of old) w h) (resized_kept (kept_of old) w h)
      (resize_touches old w) new

  -- the surface takes another size, or nothing has changed
  abbrev pub Resizes :
      SurfaceValue W → ℕ → ℕ → Result (Unit {0}) SurfaceError → SurfaceValue W → Type 0
  Resizes old w h (Ok u) new = (next_number old.log + 1 < 2 ^ 64) × HasResized old w h new
  -- the numbers would pass the greatest
  Resizes old w h (Err Numbers) new = (2 ^ 64 ≤ next_number old.log + 1) × (new ≡ old)
  Resizes old w h (Err Memory) new = (next_number old.log + 1 < 2 ^ 64) × (new ≡ old)
  Resizes old w h (Err ScrollRegion) new = ⊥
