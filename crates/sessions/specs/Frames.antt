-- Answers one after another, each of which brings a client that took all before it to the full
-- screen that its source had.
use Rattle.std.specs.Bool.{⊤}
use Rattle.std.specs.Prelude.{◌≡◌, ◌≤◌, true, false, List, [], ◌∷◌, length}
use Rattle.termwiz_cell.specs.Width.{unicode_columns}
use Rattle.termwiz_share.specs.Client.{Shown, blank_screen, fits, has_other_size, shown_after}
use Rattle.termwiz_share.specs.Histories.{Given}
use Rattle.termwiz_wire.specs.Screens.{FitsLimits}
use Rattle.termwiz_wire.specs.Sent.{IsSent, answer}
use Rattle.termwiz_wire.specs.Within.{IsBorne}
use Rattle.termwiz_wire.specs.declared.fault.Limits.{Limits}

-- what a client shows that took the frame's answer
abbrev pub shown_with : Given → Shown
shown_with f =
    record { picture = f.shown; source = f.sent.source; number = f.sent.answer.number }

-- what a client shows that took no answer
abbrev pub first_shown : Shown
first_shown = record { picture = blank_screen 1 1; source = 0; number = 0 }

-- the answer has no more cells, rows and bytes than the limits
pub record IsWithinFrames (limits : Limits) (f : Given) : Type 0 where
  pub screen : FitsLimits limits f.sent.answer.width f.sent.answer.height
  pub bytes : length (answer unicode_columns f.sent) ≤ limits.bytes

-- a client that shows s takes the answer, and shows the frame's screen then
pub record TakesFrame (s : Shown) (f : Given) : Type 0 where
  pub form : IsSent unicode_columns f.sent
  pub borne : IsBorne f.sent
  pub fresh : fits s f.sent ≡ true
  pub size : has_other_size s f.sent ≡ false
  pub leads : shown_after unicode_columns s f.sent ≡ shown_with f

-- a client that shows s takes each of the answers in turn
abbrev pub TakesFrames : Shown → List Given → Type 0
TakesFrames s [] = ⊤
TakesFrames s (f ∷ frames) = TakesFrame s f × TakesFrames (shown_with f) frames

-- a client that has taken no answer takes each of these in turn
abbrev pub IsChain : List Given → Type 0
IsChain frames = TakesFrames first_shown frames
