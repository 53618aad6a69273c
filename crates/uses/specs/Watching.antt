-- A viewer of a stream that takes an answer at a time.
use Rattle.std.specs.Prelude.{◌≡◌, ◌⊎◌, ℕ, zero, suc, ◌+◌, ◌<◌, List, [], ◌∷◌, ◌++◌, length, Some, Ok, Err, if◌then◌else◌}
use Rattle.termwiz_surface.specs.{FullScreen}
use Rattle.termwiz_share.specs.Client.{ClientValue, Shown, fits, shown_by}
use Rattle.termwiz_share.specs.Feeding.{KeepsPiece, TakesNext, with_bytes}
use Rattle.termwiz_share.specs.Histories.{ClientFollows, Given, HasMore, HasStopped, after, after_all}
use Rattle.termwiz_share.specs.declared.error.ClientError.{ClientError}
use Rattle.termwiz_share.specs.declared.error.ClientError.TheVariants.{Memory, Numbers}
use Rattle.termwiz_share.specs.declared.taken.Taken.{Taken}

-- a number of answers are taken, one after another
abbrev pub TakesInTurn :
    {W : Type 0} → (W → List ℕ → ℕ) → ℕ → ClientValue W → ClientValue W → Type 0
TakesInTurn measure_of zero old new = new ≡ old
TakesInTurn measure_of (suc count) old new =
    (mid : ClientValue _) × TakesInTurn measure_of count old mid × (taken : Taken) ×
    TakesNext measure_of mid (Ok (Some taken)) new

-- the client takes fewer answers than most, and fails to take the next one
pub record FailsAfterSome {W : Type 0} (measure_of : W → List ℕ → ℕ) (most : ℕ)
    (old : ClientValue W) (error : ClientError) (new : ClientValue W) : Type 0 where
  pub count : ℕ
  pub mid : ClientValue W
  pub few : count < most
  pub takes : TakesInTurn measure_of count old mid
  pub fails : TakesNext measure_of mid (Err error) new

module _ {W : Type 0} (measure_of : W → List ℕ → ℕ) where
  -- some answers are taken, one after another
  abbrev pub TakesAFew : ClientValue W → ClientValue W → Type 0
  TakesAFew old new = (count : ℕ) × TakesInTurn measure_of count old new

  -- after some answers that the client takes it fails to take the next one, or there is no memory
  -- for the screen of the last one
  pub record FailsBehind (old : ClientValue W) (error : ClientError) (new : ClientValue W) :
      Type 0 where
    pub mid : ClientValue W
    pub takes : TakesAFew old mid
    pub fails : TakesNext measure_of mid (Err error) new ⊎ ((error ≡ Memory) × (new ≡ mid))

  -- the bytes aren't kept, or it fails after that
  abbrev pub FailsToTakeEach :
      ClientValue W → List ℕ → ClientError → ClientValue W → Type 0
  FailsToTakeEach old piece error new =
      KeepsPiece old piece (Err error) new ⊎ FailsBehind (with_bytes old piece) error new

-- what the answers that fit were given for
abbrev pub pictures : Shown → List Given → List FullScreen
pictures s [] = []
pictures s (g ∷ gs) = (if fits s g.sent then g.shown ∷ [] else []) ++ pictures (after s g) gs

-- how many of them don't
abbrev pub stale_in : Shown → List Given → ℕ
stale_in s [] = 0
stale_in s (g ∷ gs) = (if fits s g.sent then 0 else 1) + stale_in (after s g) gs

module _ {W : Type 0} (measure_of : W → List ℕ → ℕ) (histories : ℕ → ℕ → FullScreen)
    (sent : List Given) (future : List ℕ) where
  -- `count` of the answers are taken: at most `most`, and fewer where no other one is whole
  pub record TakesSome (most : ℕ) (old : ClientValue W) (count : ℕ) (new : ClientValue W) :
      Type 0 where
    pub given : List Given
    pub others : List Given
    pub all : sent ≡ given ++ others
    pub counted : count ≡ length given
    pub shows : shown_by new ≡ after_all (shown_by old) given
    pub follows : ClientFollows measure_of histories others new future
    pub no_whole : count < most → HasMore (measure_of new.surface.widths) others new.kept

  -- what those that are whole were given for is shown in turn, and `stale` of them are stale
  pub record ShowsEach (old : ClientValue W) (before : List FullScreen) (stale : ℕ)
      (new : ClientValue W) (screens : List FullScreen) : Type 0 where
    pub given : List Given
    pub others : List Given
    pub all : sent ≡ given ++ others
    pub shown : screens ≡ before ++ pictures (shown_by old) given
    pub counted : stale ≡ stale_in (shown_by old) given
    pub follows : ClientFollows measure_of histories others new future
    pub no_whole : HasMore (measure_of new.surface.widths) others new.kept

  -- want of memory or of numbers stops it, after some of the answers
  pub record StopsShowing (old : ClientValue W) (before : List FullScreen) (error : ClientError)
      (new : ClientValue W) (screens : List FullScreen) : Type 0 where
    pub wants : (error ≡ Memory) ⊎ (error ≡ Numbers)
    pub given : List Given
    pub others : List Given
    pub all : sent ≡ given ++ others
    pub shown : screens ≡ before ++ pictures (shown_by old) given
    pub stopped : HasStopped measure_of histories sent old new
