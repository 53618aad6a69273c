-- Pictures: what changes are made on, and what viewers show. They are screens, or full screens.
use Rattle.std.specs.Prelude.{ℕ, List, fold}
use Rattle.termwiz_cell.specs.ChangeValue.{ChangeValue}
use Rattle.termwiz_screen.specs.FullScreen.{FullScreen, HasFullSize, full_step}
use Rattle.termwiz_screen.specs.Printable.{HasSize}
use Rattle.termwiz_screen.specs.Screen.{Screen}
use Rattle.termwiz_screen.specs.Step.{step}

pub record Pictures (P : Type 0) : Type 1 where
  -- what such a picture shows of a full screen, and the screen in it
  pub shown : FullScreen → P
  pub screen : P → Screen
  -- it has w columns and h rows
  pub IsSized : ℕ → ℕ → P → Type 0
  -- the picture after a change, by a width function
  pub step : (List ℕ → ℕ) → P → ChangeValue → P

abbrev pub screens : Pictures Screen
screens = record { shown = λ f. f.screen; screen = λ s. s; IsSized = HasSize; step = step }

abbrev pub full_screens : Pictures FullScreen
full_screens =
    record { shown = λ f. f; screen = λ f. f.screen; IsSized = HasFullSize; step = full_step }

-- the steps in order
abbrev pub played : {P : Type 0} → Pictures P → (List ℕ → ℕ) → P → List ChangeValue → P
played pictures measure p changes = fold (pictures.step measure) p changes
