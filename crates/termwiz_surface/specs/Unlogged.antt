-- Changes that are made without being logged: what each says, and what a list of them makes of a
-- surface.
use Rattle.std.specs.Prelude.{◌≡◌, ℕ, ◌+◌, ◌<◌, ◌^◌, true, List, length, Result, Ok, Err}
use Rattle.termwiz_cell.specs.ChangeValue as change
use Rattle.termwiz_cell.specs.ChangeValue.{ChangeValue, change_value}
use Rattle.termwiz_screen.specs.Log.{next_number, flushed}
use Rattle.termwiz_screen.specs.Step.{regions_fit}
use Rattle.termwiz_surface.specs.Adding.{Adds, Makes, with_log}
use Rattle.termwiz_surface.specs.Surface.{SurfaceValue}
use Rattle.termwiz_surface.specs.declared.surface.SurfaceError.{SurfaceError}
use Rattle.termwiz_surface.specs.declared.surface.lists.LentChange.{LentChange}
use Rattle.termwiz_surface.specs.declared.surface.lists.LentChange.TheVariants.{Text, Title, Owned}

-- the change that this is, with its own text or a lent one
abbrev pub lent_value : LentChange → ChangeValue
lent_value (Text text) = change.Text text.now
lent_value (Title title) = change.Title title.now
lent_value (Owned change) = change_value change

module _ {W : Type 0} where
  -- the surface after a flush of all changes
  abbrev pub all_flushed : SurfaceValue W → SurfaceValue W
  all_flushed s = with_log s (flushed s.log (next_number s.log))

  -- the changes are made as if they were logged, and a flush of all changes followed
  abbrev pub MakesUnlogged :
      (List ℕ → ℕ) → SurfaceValue W → List ChangeValue → SurfaceValue W → Type 0
  MakesUnlogged measure old changes new =
      (made : SurfaceValue W) × Makes measure old changes made × (new ≡ all_flushed made)

  -- the list of changes is made unlogged, and this number returned, or it is refused
  abbrev pub AddsUnlogged :
      (List ℕ → ℕ) → SurfaceValue W → List ChangeValue → ℕ → Result ℕ SurfaceError →
      SurfaceValue W → Type 0
  AddsUnlogged measure old changes number (Ok n) new =
      (regions_fit old.height changes ≡ true) × (next_number old.log + length changes < 2 ^ 64) ×
      (n ≡ number) × MakesUnlogged measure old changes new
  -- an error is one that adding them has, and leaves what that leaves
  AddsUnlogged measure old changes number (Err e) new = Adds measure old changes number (Err e) new
