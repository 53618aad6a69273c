-- What a client shows of a whole stream, whichever sources its answers come from.
use Rattle.std.specs.Prelude.{◌≡◌, ◌⊎◌, ℕ, ◌-◌, ◌<◌, ◌^◌, true, None, List, [], ◌∷◌, ◌++◌, length, take, drop, Result, Ok, Err}
use Rattle.termwiz_surface.specs.{ChangeValue, FullScreen, KeepsNames, SurfaceValue, blank_surface, full_of}
use Rattle.termwiz_wire.specs.declared.fault.Limits.{Limits}
use Rattle.termwiz_wire.specs.declared.sent.Ask.{Ask}
use Rattle.termwiz_share.specs.{IsResponse, SourceValue}
use Rattle.termwiz_share.specs.Client.{ClientValue, ask_of, shown_by}
use Rattle.termwiz_share.specs.Feeding.{Feeds}
use Rattle.termwiz_share.specs.Histories.{ClientFollows, Given, HasStopped, after_all}
use Rattle.termwiz_share.specs.declared.error.ClientError.{ClientError}
use Rattle.termwiz_share.specs.declared.error.ClientError.TheVariants as errors
use Rattle.uses.specs.Making.{MayRefuse, full_after}
use Rattle.uses.specs.Serving.{Stands}
use Rattle.uses.specs.declared.serving.ShareError.{ShareError}
use Rattle.uses.specs.declared.serving.ShareError.TheVariants.{Refused, Unserved}

-- it shows what the last answer that fits was given for; or want of memory or of numbers stops it
abbrev pub ShowsLast :
    {W : Type 0} → (W → List ℕ → ℕ) → (ℕ → ℕ → FullScreen) → List Given → ClientValue W →
    Result (Unit {0}) ClientError → ClientValue W → Type 0
ShowsLast measure_of histories sent old (Ok u) new =
    shown_by new ≡ after_all (shown_by old) sent
ShowsLast measure_of histories sent old (Err errors.Memory) new =
    HasStopped measure_of histories sent old new
ShowsLast measure_of histories sent old (Err errors.Numbers) new =
    HasStopped measure_of histories sent old new
ShowsLast measure_of histories sent old (Err _) new = ⊥

module _ {W : Type 0} (measure_of : W → List ℕ → ℕ) (old : ClientValue W) (stream : List ℕ)
    (cut : ℕ) where
  -- the bytes before the cut are fed to a client, and then the others, with this result
  pub record FeedsBehind (result : Result ℕ ClientError) (new : ClientValue W) : Type 0 where
    pub count : ℕ
    pub mid : ClientValue W
    pub front : Feeds measure_of old (take cut stream) (Ok count) mid
    pub back : Feeds measure_of mid (drop cut stream) result new

  -- a stream is fed to it in two pieces, or it fails at one of them
  abbrev pub FeedsInTwo : Result (Unit {0}) ClientError → ClientValue W → Type 0
  FeedsInTwo (Ok u) new = (count : ℕ) × FeedsBehind (Ok count) new
  FeedsInTwo (Err e) new =
      Feeds measure_of old (take cut stream) (Err e) new ⊎ FeedsBehind (Err e) new

-- no limits
abbrev pub greatest_limits : Limits
greatest_limits = record { cells = 2 ^ 64 - 1; rows = 2 ^ 64 - 1; bytes = 2 ^ 64 - 1 }

-- a client that has no limits, and was fed nothing
abbrev pub blank_client : {W : Type 0} → W → ClientValue W
blank_client widths = record {
  surface = blank_surface widths 1 1 true;
  source = 0;
  number = 0;
  kept = [];
  limits = greatest_limits;
  stopped = None;
}

module _ {W : Type 0} (measure_of : W → List ℕ → ℕ) where
  -- a source answers an ask, and then, after a change, one more; what its numbers named they name
  -- still
  pub record AnswersTwice (old : SourceValue W) (ask : Ask) (change : ChangeValue)
      (early late : List ℕ) (new : SourceValue W) : Type 0 where
    pub then : SourceValue W
    pub first : IsResponse measure_of then ask early
    pub asked : Ask
    pub second : IsResponse measure_of new asked late
    pub number : then.number ≡ old.number
    pub same : new.number ≡ old.number
    pub widths : then.surface.widths ≡ old.surface.widths
    pub later_widths : new.surface.widths ≡ old.surface.widths
    pub names : KeepsNames (measure_of old.surface.widths) old.surface then.surface
    -- the surface with the change
    pub changed : SurfaceValue W
    pub changed_widths : changed.widths ≡ old.surface.widths
    pub later_names : KeepsNames (measure_of old.surface.widths) then.surface changed
    pub last_names : KeepsNames (measure_of old.surface.widths) changed new.surface
    pub made : full_of new.surface ≡ full_after measure_of old.surface (change ∷ [])

  -- the source refuses the change; or there is no memory for an answer, before the change or after
  -- it
  abbrev pub FailsToAnswer :
      SourceValue W → ChangeValue → ShareError → SourceValue W → Type 0
  FailsToAnswer old change (Refused error) new =
      MayRefuse old.surface (change ∷ []) error ×
      Stands error (full_of old.surface) (full_of new.surface)
  FailsToAnswer old change (Unserved error) new =
      (error ≡ errors.Memory) ×
      ((full_of new.surface ≡ full_of old.surface) ⊎
      (full_of new.surface ≡ full_after measure_of old.surface (change ∷ [])))

  module _ (first second : SourceValue W) (change : ChangeValue) where
    -- the answers of two sources to an ask, those of the first one late, twice and in the wrong
    -- order
    pub record IsStreamOfBoth (ask : Ask) (stream : List ℕ) (first_new second_new : SourceValue W) :
        Type 0 where
      pub early : List ℕ
      pub late : List ℕ
      pub other : List ℕ
      pub answers : AnswersTwice first ask change early late first_new
      pub response : IsResponse measure_of second_new ask other
      pub number : second_new.number ≡ second.number
      pub widths : second_new.surface.widths ≡ second.surface.widths
      pub names :
          KeepsNames (measure_of second.surface.widths) second.surface second_new.surface
      pub is : stream ≡ late ++ (early ++ (late ++ (late ++ (other ++ []))))

    -- there is no such stream, since a change or memory is refused
    abbrev pub FailsToAnswerBoth :
        ShareError → SourceValue W → SourceValue W → Type 0
    FailsToAnswerBoth (Refused error) first_new second_new =
        FailsToAnswer first change (Refused error) first_new × (second_new ≡ second)
    FailsToAnswerBoth (Unserved error) first_new second_new =
        FailsToAnswer first change (Unserved error) first_new

    -- a client is fed what both answer its ask
    pub record TakesBoth (cut : ℕ) (old : ClientValue W) (result : Result (Unit {0}) ClientError)
        (first_new second_new : SourceValue W) (new : ClientValue W) : Type 0 where
      pub stream : List ℕ
      pub answered : IsStreamOfBoth (ask_of old) stream first_new second_new
      pub few : length stream < 2 ^ 64
      pub feeds : FeedsInTwo measure_of old stream cut result new
      pub shows :
          (histories : ℕ → ℕ → FullScreen) (sent : List Given) →
          ClientFollows measure_of histories sent old stream →
          ShowsLast measure_of histories sent old result new

    -- or it isn't, or fails to take that
    abbrev pub FeedsBoth :
        ℕ → ClientValue W → Result (Unit {0}) ShareError → SourceValue W → SourceValue W →
        ClientValue W → Type 0
    FeedsBoth cut old (Ok u) first_new second_new new =
        TakesBoth cut old (Ok u) first_new second_new new
    FeedsBoth cut old (Err (Refused error)) first_new second_new new =
        FailsToAnswerBoth (Refused error) first_new second_new
    FeedsBoth cut old (Err (Unserved error)) first_new second_new new =
        FailsToAnswerBoth (Unserved error) first_new second_new
        ⊎ TakesBoth cut old (Err error) first_new second_new new

    -- both can't be shown on a new client
    abbrev pub FailsToShow : ℕ → ShareError → SourceValue W → SourceValue W → Type 0
    FailsToShow cut error first_new second_new =
        (new : ClientValue W) ×
        FeedsBoth cut (blank_client first.surface.widths) (Err error) first_new second_new new

-- no answer has a fault, or another size than the client
abbrev pub HasNoFault : ShareError → Type 0
HasNoFault (Refused error) = Unit {0}
HasNoFault (Unserved errors.Memory) = Unit {0}
HasNoFault (Unserved errors.Numbers) = Unit {0}
HasNoFault (Unserved _) = ⊥
