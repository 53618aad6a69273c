-- What viewers show: what a surface shows, what their number names, what an answer was given for.
use Rattle.std.specs.Prelude.{◌≡◌, ℕ, List, Result, OnOk}
use Rattle.termwiz_screen.specs.Log.{next_number}
use Rattle.termwiz_screen.specs.Picture.{Pictures}
use Rattle.termwiz_surface.specs.Answer.{AnswerValue, Carries}
use Rattle.termwiz_surface.specs.Following.{ViewerValue}
use Rattle.termwiz_surface.specs.History.{Names}
use Rattle.termwiz_surface.specs.Surface.{SurfaceValue, screen_of, full_of}
use Rattle.termwiz_surface.specs.declared.view.viewer.AcceptError.{AcceptError}

-- the viewer shows the surface's screen, and has the surface's number
abbrev pub HasCaughtUp : {W : Type 0} → ViewerValue W → SurfaceValue W → Type 0
HasCaughtUp v s = (screen_of v.surface ≡ screen_of s) × (v.last ≡ next_number s.log)

module _ {P : Type 0} (pictures : Pictures P) {W : Type 0} where
  -- the viewer shows what its number names
  abbrev pub ShowsNamed : (ℕ → P) → ViewerValue W → Type 0
  ShowsNamed past v = Names past v.last (pictures.shown (full_of v.surface))

  -- a viewer that showed what its number names still does
  abbrev pub KeepsShowing : ViewerValue W → ViewerValue W → Type 0
  KeepsShowing old new = (past : ℕ → P) → ShowsNamed past old → ShowsNamed past new

  module _ (measure_of : W → List ℕ → ℕ) (old : ViewerValue W) (a : AnswerValue) where
    -- a viewer that showed what its number names, and takes an answer, shows where that leads
    abbrev pub ShowsCarried : Result ℕ AcceptError → ViewerValue W → Type 0
    ShowsCarried result new =
        (past : ℕ → P) (p : P) → Carries pictures (measure_of old.surface.widths) past a p →
        ShowsNamed past old → OnOk result (pictures.shown (full_of new.surface) ≡ p)

    -- a viewer that showed what its number names still does, whether it takes the answer or not
    abbrev pub StaysNamed : ViewerValue W → Type 0
    StaysNamed new =
        (past : ℕ → P) (p : P) → Carries pictures (measure_of old.surface.widths) past a p →
        ShowsNamed past old → ShowsNamed past new
