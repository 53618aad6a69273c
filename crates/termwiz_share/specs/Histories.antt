-- Streams of answers of many sources, and what a client shows of them. Each source has a history,
-- which says what its numbers name.
use Rattle.std.specs.Prelude.{◌≡◌, ◌⊎◌, ℕ, ◌<◌, ◌≤◌, true, false, List, [], ◌∷◌, ◌++◌, length, Option, Some, None, Result, Ok, Err, fold, if◌then◌else◌}
use Rattle.std.specs.List.{AllByRecursion, flat_map}
use Rattle.termwiz_screen.specs.FullScreen.{FullScreen, HasFullSize}
use Rattle.termwiz_screen.specs.Log.{next_number}
use Rattle.termwiz_screen.specs.Picture.{full_screens}
use Rattle.termwiz_surface.specs.Answer.{Carries}
use Rattle.termwiz_surface.specs.Carried.{IsPastOf}
use Rattle.termwiz_surface.specs.History.{Names}
use Rattle.termwiz_wire.specs.Sent.{IsSent, answer}
use Rattle.termwiz_wire.specs.Within.{IsWithinLimits}
use Rattle.termwiz_wire.specs.declared.fault.Limits.{Limits}
use Rattle.termwiz_wire.specs.declared.sent.SentAnswer.{SentAnswer}
use Rattle.termwiz_share.specs.Client.{ClientValue, Shown, fits, shown_by, stale_place}
use Rattle.termwiz_share.specs.Source.{SourceValue}
use Rattle.termwiz_share.specs.declared.error.ClientError.{ClientError}
use Rattle.termwiz_share.specs.declared.error.ClientError.TheVariants as errors
use Rattle.termwiz_share.specs.declared.taken.Taken.{Taken}
use Rattle.termwiz_share.specs.declared.taken.Taken.TheVariants as shows

-- an answer, and the full screen that its source had when it gave it
pub record Given : Type 0 where
  pub sent : SentAnswer
  pub shown : FullScreen

-- what is shown after an answer: the screen that its source had then, where it fits
abbrev pub after : Shown → Given → Shown
after s g =
    if fits s g.sent
    then record { picture = g.shown; source = g.sent.source; number = g.sent.answer.number }
    else s

-- after some of them: what the last one that fits was given for
abbrev pub after_all : Shown → List Given → Shown
after_all s given = fold after s given

module _ (measure : List ℕ → ℕ) where
  -- the bytes of answers, one after another
  abbrev pub stream : List Given → List ℕ
  stream given = flat_map (λ (g : Given). answer measure g.sent) given

  -- the first of these has more bytes than these
  abbrev pub HasMore : List Given → List ℕ → Type 0
  HasMore [] bytes = Unit {0}
  HasMore (g ∷ gs) bytes = length bytes < length (answer measure g.sent)

  module _ (limits : Limits) (histories : ℕ → ℕ → FullScreen) where
    -- the source of the answer, whose numbers name this history, gave it when it had that full
    -- screen; and it is within the limits
    pub record IsGenuine (g : Given) : Type 0 where
      pub is_sent : IsSent measure g.sent
      pub within : IsWithinLimits measure limits g.sent
      pub sized : HasFullSize g.sent.answer.width g.sent.answer.height g.shown
      pub carries : Carries full_screens measure (histories g.sent.source) g.sent.answer g.shown

-- what is shown is what its number names in the history of its source
abbrev pub IsPictureNamed : (ℕ → ℕ → FullScreen) → Shown → Type 0
IsPictureNamed histories s = Names (histories s.source) s.number s.picture

module _ {W : Type 0} (measure_of : W → List ℕ → ℕ) (histories : ℕ → ℕ → FullScreen)
    (sent : List Given) where
  -- what a client has and the bytes that come are these answers, and it shows what its number names
  pub record ClientFollows (c : ClientValue W) (bytes : List ℕ) : Type 0 where
    pub reading : c.stopped ≡ None
    pub genuine : AllByRecursion (IsGenuine (measure_of c.surface.widths) c.limits histories) sent
    pub whole : c.kept ++ bytes ≡ stream (measure_of c.surface.widths) sent
    pub named : IsPictureNamed histories (shown_by c)

  -- `count` answers are taken, and the client shows what the last one that fits was given for; of
  -- the others there is no whole one
  pub record ClientHasFollowed (future : List ℕ) (count : ℕ) (old new : ClientValue W) :
      Type 0 where
    pub given : List Given
    pub counted : count ≡ length given
    pub others : List Given
    pub all : sent ≡ given ++ others
    pub left : new.kept ++ future ≡ stream (measure_of new.surface.widths) others
    pub no_whole : HasMore (measure_of new.surface.widths) others new.kept
    pub shows : shown_by new ≡ after_all (shown_by old) given
    pub named : IsPictureNamed histories (shown_by new)

  -- some answers are taken, and the client shows what the last one that fits was given for, or what
  -- it shows has no number
  pub record HasStopped (old new : ClientValue W) : Type 0 where
    pub given : List Given
    pub others : List Given
    pub all : sent ≡ given ++ others
    pub shows : (shown_by new ≡ after_all (shown_by old) given) ⊎ (new.number ≡ 0)
    pub named : IsPictureNamed histories (shown_by new)

  -- nothing but want of memory or of numbers keeps it from taking all that are whole
  abbrev pub ClientFollowsTo :
      List ℕ → ClientValue W → Result ℕ ClientError → ClientValue W → Type 0
  ClientFollowsTo future old (Ok n) new = ClientHasFollowed future n old new
  ClientFollowsTo future old (Err errors.Numbers) new = HasStopped old new
  ClientFollowsTo future old (Err errors.Memory) new = HasStopped old new
  ClientFollowsTo future old (Err _) new = ⊥

-- a source whose numbers name this history, and which gave those of these answers that are of it
pub record HasGiven {W : Type 0} (measure_of : W → List ℕ → ℕ) (histories : ℕ → ℕ → FullScreen)
    (sent : List Given) (s : SourceValue W) : Type 0 where
  pub is_past : IsPastOf full_screens measure_of (histories s.number) s.surface
  -- their numbers are ones that it had
  pub had :
      AllByRecursion
      (λ (g : Given). g.sent.source ≡ s.number → g.sent.answer.number ≤ next_number s.surface.log)
      sent

-- of one answer at a time
module _ {W : Type 0} (measure_of : W → List ℕ → ℕ) (histories : ℕ → ℕ → FullScreen)
    (sent : List Given) where
  -- the first one is taken, and the client follows the others
  pub record HasTakenFirst (future : List ℕ) (new : ClientValue W) : Type 0 where
    pub first : Given
    pub others : List Given
    pub all : sent ≡ first ∷ others
    pub follows : ClientFollows measure_of histories others new future

  -- it shows what it showed, or what it shows has no number
  pub record HasKept (old new : ClientValue W) : Type 0 where
    pub shows : (shown_by new ≡ shown_by old) ⊎ (new.number ≡ 0)
    pub named : IsPictureNamed histories (shown_by new)

  -- the next answer shows what it was given for, or doesn't fit, or isn't whole; and nothing but
  -- want of memory or of numbers keeps it from being taken
  abbrev pub FollowsNext :
      List ℕ → ClientValue W → Result (Option Taken) ClientError → ClientValue W → Type 0
  FollowsNext future old (Ok (Some shows.Shown)) new =
      (one : HasTakenFirst future new) × (fits (shown_by old) one.first.sent ≡ true) ×
      (shown_by new ≡ after (shown_by old) one.first)
  FollowsNext future old (Ok (Some (shows.Stale at))) new =
      (one : HasTakenFirst future new) × (fits (shown_by old) one.first.sent ≡ false) ×
      (at ≡ stale_place (shown_by old) one.first.sent) × (shown_by new ≡ shown_by old)
  FollowsNext future old (Ok None) new =
      HasMore (measure_of old.surface.widths) sent old.kept × (new ≡ old)
  FollowsNext future old (Err errors.Numbers) new = HasKept old new
  FollowsNext future old (Err errors.Memory) new = HasKept old new
  FollowsNext future old (Err _) new = ⊥
