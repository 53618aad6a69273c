-- What the steps of a schedule say, in a caller's words.
use Rattle.std.specs.Prelude.{◌≡◌, ℕ, ◌+◌, ◌<◌, ◌≤◌, ◌^◌, true, false, if◌then◌else◌, List, length, map, Err, Vec}
use Rattle.std.specs.declared.alloc.Global.{Global}
use Rattle.termwiz_cell.specs.ChangeValue.{ChangeValue, change_value}
use Rattle.termwiz_cell.specs.declared.change.Change.{Change}
use Rattle.termwiz_screen.specs.FullScreenValue.{full_value}
use Rattle.termwiz_screen.specs.Log.{next_number, due}
use Rattle.termwiz_screen.specs.Picture.{Pictures, screens, full_screens, played}
use Rattle.termwiz_screen.specs.Printable.{HasSize, IsPrintable}
use Rattle.termwiz_screen.specs.ScreenValue.{screen_value}
use Rattle.termwiz_screen.specs.declared.full.FullScreen as full_code
use Rattle.termwiz_screen.specs.declared.screen.Screen as code
use Rattle.termwiz_surface.specs.Adding.{Adds}
use Rattle.termwiz_surface.specs.Asking.{knows, own_repaint, most_own_entries}
use Rattle.termwiz_surface.specs.Following.{ViewerValue, number_in_size}
use Rattle.termwiz_surface.specs.Surface.{SurfaceValue, screen_of, full_of}
use Rattle.termwiz_surface.specs.declared.surface.SurfaceError.TheVariants.{Numbers, Memory}
use Rattle.termwiz_surface.specs.Schedule.{Allows}
use Rattle.termwiz_surface.specs.declared.view.Event.TheVariants.{Follow}
use Rattle.termwiz_surface.specs.declared.view.Outcome.TheVariants.{Refused, Followed, FollowedFull}

-- a viewer that can't follow has no number, and its own has grown by two at most
abbrev pub Loses : {W : Type 0} → ViewerValue W → ViewerValue W → Type 0
Loses old new =
    (new.last ≡ 0) × (next_number old.surface.log ≤ next_number new.surface.log) ×
    (next_number new.surface.log ≤ next_number old.surface.log + 2)

module _ {W : Type 0} (measure_of : W → List ℕ → ℕ) where
  -- these changes lead from what the viewer showed to this picture, and its own number counts them
  pub record LeadOn {P : Type 0} (pictures : Pictures P) (s : SurfaceValue W) (old : ViewerValue W)
      (changes : List ChangeValue) (p : P) (new : ViewerValue W) : Type 0 where
    -- where its number is known they are what was due
    pub known :
        knows s old.last ≡ true →
        (changes ≡ due s.log old.last) ×
        (played pictures (measure_of s.widths) (pictures.shown (full_of old.surface)) changes ≡ p)
    -- else they lead there from any picture of that size
    pub repaint :
        knows s old.last ≡ false → (q : P) → pictures.IsSized s.width s.height q →
        played pictures (measure_of s.widths) q changes ≡ p
    -- and are its repaint
    pub entries : knows s old.last ≡ false → changes ≡ own_repaint s
    pub own : next_number new.surface.log ≡ number_in_size old s + length changes

  -- the changes of an outcome lead what the viewer showed to the screen of the outcome
  abbrev pub FollowedLeadOn : Type 0
  FollowedLeadOn =
      (s t : SurfaceValue W) (v u : ViewerValue W) (n : ℕ) (changes : Vec Change Global)
      (screen : code.Screen) →
      Allows measure_of s v Follow (Followed n changes screen) t u →
      LeadOn screens s v (map change_value changes.items) (screen_value screen) u

  -- the changes of an outcome lead to the full screen, where the surface is a full one
  abbrev pub FollowedFullLeadOn : Type 0
  FollowedFullLeadOn =
      (s t : SurfaceValue W) (v u : ViewerValue W) (n : ℕ) (changes : Vec Change Global)
      (picture : full_code.FullScreen) →
      Allows measure_of s v Follow (FollowedFull n changes picture) t u →
      LeadOn full_screens s v (map change_value changes.items) (full_value picture) u

  -- a follow lacks numbers where what was due, or a repaint, would pass the greatest one
  abbrev pub LackNumbers : Type 0
  LackNumbers =
      (s t : SurfaceValue W) (v u : ViewerValue W) →
      Allows measure_of s v Follow (Refused Numbers) t u →
      Loses v u ×
      (2 ^ 64 ≤ number_in_size v s +
      (if knows s v.last then length (due s.log v.last) else most_own_entries s))

  -- a follow lacks memory where what was due would not pass the greatest number
  abbrev pub LackMemory : Type 0
  LackMemory =
      (s t : SurfaceValue W) (v u : ViewerValue W) →
      Allows measure_of s v Follow (Refused Memory) t u →
      Loses v u ×
      (number_in_size v s + (if knows s v.last then length (due s.log v.last) else 0) < 2 ^ 64)

-- a list of changes that ran out of memory, of a draw or a copy too, leaves a screen of that size
-- that texts can print
abbrev pub BrokenListsLeaveForm : Type 0 → Type 0
BrokenListsLeaveForm W =
    (measure : List ℕ → ℕ) (s t : SurfaceValue W) (changes : List ChangeValue) (number : ℕ) →
    Adds measure s changes number (Err Memory) t →
    HasSize s.width s.height (screen_of t) × IsPrintable measure (screen_of t)
