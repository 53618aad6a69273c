-- Viewers that follow what a handle has.
use Rattle.std.specs.Prelude.{◌≡◌, ℕ, ◌+◌, ◌-◌, ◌^◌, min, true, not, ◌==◌, ◌||◌, Result, OnOk, OnErr, Option, Some, None, if◌then◌else◌}
use Rattle.termwiz_screen.specs.Log.{flushed, next_number}
use Rattle.termwiz_surface.specs.Showing.{HasCaughtUp}
use Rattle.termwiz_surface.specs.Adding.{with_log}
use Rattle.termwiz_surface.specs.Following.{Follows, FollowsTo, ViewerValue, blank_viewer, blank_viewer_from}
use Rattle.termwiz_surface.specs.RowNumbers.{NumbersRows}
use Rattle.termwiz_surface.specs.Surface.{SurfaceValue, full_of}
use Rattle.termwiz_surface.specs.declared.surface.SurfaceError.{SurfaceError}
use Rattle.tikeburo_c.specs.Kept.{number_of, shown_of}
use Rattle.tikeburo_c.specs.Outcomes.{Outcome, changing_failure, outcome_of}
use Rattle.tikeburo_c.specs.Results.{OnViewer, OrNoMemory, Refused, Returns, OfKind}
use Rattle.tikeburo_c.specs.SameWidths.{WhereSame}
use Rattle.tikeburo_c.specs.Widths.{columns_by}
use Rattle.tikeburo_c.specs.declared.failure.Failure.TheVariants.{NoHandle}
use Rattle.tikeburo_c.specs.declared.followers.Follower.{Follower}
use Rattle.tikeburo_c.specs.declared.kept.Kept.{Kept}
use Rattle.tikeburo_c.specs.declared.kept.Kept.TheVariants.{Viewer}
use Rattle.tikeburo_c.specs.declared.widths.ChosenWidths.{ChosenWidths}

-- a viewer that shows nothing yet, for the surface of this number
abbrev pub blank_follower : ℕ → SurfaceValue ChosenWidths → Follower
blank_follower number s = record { viewer = blank_viewer s; source = number }

-- it is such a viewer, and follows the surface
abbrev pub HasViewer : ℕ → SurfaceValue ChosenWidths → Follower → Type 0
HasViewer number s f = (f ≡ blank_follower number s) × Follows columns_by f.viewer s

-- one that takes the place of this one, whose numbers go on
abbrev pub next_follower : ℕ → SurfaceValue ChosenWidths → Follower → Follower
next_follower number s f =
    record {
      viewer = blank_viewer_from s (min (next_number f.viewer.surface.log + 1) (2 ^ 64 - 1));
      source = number;
    }

-- what the viewer is before it follows the surface of this number: itself, where it follows that
-- one, and else blank
abbrev pub turned_to : ℕ → SurfaceValue ChosenWidths → Follower → Follower
turned_to number s f =
    if (number == 0) || not (number == f.source) then next_follower number s f else f

-- where the viewer followed the surface of this number last, that was this surface
abbrev pub KnowsBy : ℕ → SurfaceValue ChosenWidths → Follower → Type 0
KnowsBy number s f = (number ≡ 0 → ⊥) → f.source ≡ number → Follows columns_by f.viewer s

-- then it follows the surface, also from blank
pub record HasTurned (number : ℕ) (s : SurfaceValue ChosenWidths) (old new : Follower) :
    Type 0 where
  pub turned : new ≡ turned_to number s old
  pub follows : KnowsBy number s old → Follows columns_by new.viewer s

-- the viewer with an empty log
abbrev pub without_log : ViewerValue ChosenWidths → ViewerValue ChosenWidths
without_log v =
    record v { surface = with_log v.surface (flushed v.surface.log (next_number v.surface.log)) }

-- the viewer follows the surface as the library's viewers do, and forgets what it made
pub record StepsTo (s : SurfaceValue ChosenWidths) (old : Follower) (result : Result ℕ SurfaceError)
    (new : Follower) : Type 0 where
  pub viewer : ViewerValue ChosenWidths
  pub steps : FollowsTo columns_by s old.viewer result viewer
  pub forgets : new ≡ record old { viewer = without_log viewer }
  -- one that follows it shows its screen after each success, and that of a full surface its full
  -- screen
  pub caught_up : Follows columns_by old.viewer s → OnOk result (HasCaughtUp new.viewer s)
  pub fully_caught_up :
      Follows columns_by old.viewer s → s.full ≡ true →
      OnOk result (full_of new.viewer.surface ≡ full_of s)
  pub follows : Follows columns_by old.viewer s → Follows columns_by new.viewer s
  pub failed : OnErr result (new.viewer.last ≡ 0)
  pub numbered : NumbersRows old.viewer.surface new.viewer.surface

-- the viewer follows the surface of this number, whichever it followed before
pub record FollowsAs (number : ℕ) (s : SurfaceValue ChosenWidths) (old : Follower)
    (result : Result ℕ SurfaceError) (new : Follower) : Type 0 where
  pub steps : StepsTo s (turned_to number s old) result new
  -- it shows its screen after each success, and that of a full surface its full screen
  pub caught_up : KnowsBy number s old → OnOk result (HasCaughtUp new.viewer s)
  pub fully_caught_up :
      KnowsBy number s old → s.full ≡ true → OnOk result (full_of new.viewer.surface ≡ full_of s)
  pub follows : KnowsBy number s old → Follows columns_by new.viewer s

abbrev pub FollowsOne : ℕ → SurfaceValue ChosenWidths → Follower → Outcome → Follower → Type 0
FollowsOne number s old outcome new =
    (result : Result ℕ SurfaceError) × (outcome ≡ outcome_of changing_failure result) ×
    FollowsAs number s old result new

-- where both measure by the same widths, unless memory was refused first
abbrev pub FollowsSame : ℕ → SurfaceValue ChosenWidths → Follower → Outcome → Follower → Type 0
FollowsSame number s old =
    WhereSame s.widths old.viewer.surface.widths (OrNoMemory (FollowsOne number s)) old

abbrev pub FollowsSource : Option Kept → Option Kept → Outcome → Option Kept → Type 0
FollowsSource (Some source) =
    OfKind (λ s. OnViewer (FollowsSame (number_of source) s)) (shown_of source)
FollowsSource None = Refused NoHandle

-- a blank viewer of what the source shows, which follows it
abbrev pub MakesFollower :
    ℕ → SurfaceValue ChosenWidths → Option Kept → Outcome → Option Kept → Type 0
MakesFollower number s old outcome new =
    Returns (Some (Viewer (blank_follower number s))) old outcome new ×
    Follows columns_by (blank_viewer s) s

abbrev pub MakesViewer : Option Kept → Option Kept → Outcome → Option Kept → Type 0
MakesViewer (Some source) =
    OfKind (λ s. OrNoMemory (MakesFollower (number_of source) s)) (shown_of source)
MakesViewer None = Refused NoHandle
