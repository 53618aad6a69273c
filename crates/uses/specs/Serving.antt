-- A screen that three clients show, and the changes that are made on it.
use Rattle.std.specs.Prelude.{◌≡◌, ◌⊎◌, ℕ, List, [], ◌∷◌, ◌++◌, None, Result, Ok, Err}
use Rattle.std.specs.Result.{result_and}
use Rattle.termwiz_share.specs.{ClientValue, Feeds, IsReady, IsResponse, Serves, SourceValue, ask_of, trimmed_surface}
use Rattle.termwiz_share.specs.declared.error.ClientError.{ClientError}
use Rattle.termwiz_share.specs.declared.error.ClientError.TheVariants as client
use Rattle.termwiz_surface.specs.{Adds, ChangeValue, FullScreen, full_of, next_number}
use Rattle.termwiz_surface.specs.declared.surface.SurfaceError.{SurfaceError}
use Rattle.termwiz_surface.specs.declared.surface.SurfaceError.TheVariants.{Memory, Numbers, ScrollRegion}
use Rattle.uses.specs.Making.{HasMade}
use Rattle.uses.specs.declared.serving.ShareError.{ShareError}
use Rattle.uses.specs.declared.serving.ShareError.TheVariants.{Refused, Unserved}

pub record RoomValue (W : Type 0) : Type 0 where
  pub source : SourceValue W
  pub first : ClientValue W
  pub second : ClientValue W
  pub third : ClientValue W

module _ {W : Type 0} where
  -- each client of the room is one of its source, and ready to be served
  pub record RoomIsServed (measure_of : W → List ℕ → ℕ) (r : RoomValue W) : Type 0 where
    pub first : Serves measure_of r.source r.first
    pub second : Serves measure_of r.source r.second
    pub third : Serves measure_of r.source r.third
    pub first_ready : IsReady r.first
    pub second_ready : IsReady r.second
    pub third_ready : IsReady r.third

  -- each client shows the screen of the source
  pub record AllShowSource (r : RoomValue W) : Type 0 where
    pub first : full_of r.first.surface ≡ full_of r.source.surface
    pub second : full_of r.second.surface ≡ full_of r.source.surface
    pub third : full_of r.third.surface ≡ full_of r.source.surface

-- what is shown after a change was refused for this: what was shown before it, or where memory was
-- refused, anything of that size
abbrev pub Stands : SurfaceError → FullScreen → FullScreen → Type 0
Stands Memory old new =
    (new.screen.width ≡ old.screen.width) × (new.screen.height ≡ old.screen.height)
Stands Numbers old new = new ≡ old
Stands ScrollRegion old new = new ≡ old

module _ {W : Type 0} (measure_of : W → List ℕ → ℕ) where
  -- a client fails to take a source's response to its ask, and is made ready again
  pub record FailsToTake (s : SourceValue W) (old : ClientValue W) (error : ClientError)
      (new : ClientValue W) : Type 0 where
    pub response : List ℕ
    pub is_response : IsResponse measure_of s (ask_of old) response
    pub mid : ClientValue W
    pub fails : Feeds measure_of old response (Err error) mid
    pub renewed : new ≡ record mid { kept = []; stopped = None }

  -- a client shows the screen of the source; or there is no memory for the response, and it is as
  -- it was; or it fails to take the response, which the source gave when it had that screen
  abbrev pub ServesOnce :
      SourceValue W → ClientValue W → Result (Unit {0}) ClientError → ClientValue W → Type 0
  ServesOnce s old (Ok u) new = full_of new.surface ≡ full_of s.surface
  ServesOnce s old (Err e) new =
      ((e ≡ client.Memory) × (new ≡ old))
      ⊎ ((then : SourceValue W) × (full_of then.surface ≡ full_of s.surface) ×
      FailsToTake then old e new)

  -- what a client shows that is given a source's response to its ask: it is served by the source,
  -- and can be served anew
  pub record TakesResponse (s : SourceValue W) (old : ClientValue W)
      (result : Result (Unit {0}) ClientError) (new : ClientValue W) : Type 0 where
    pub once : ServesOnce s old result new
    pub serves : Serves measure_of s new
    pub ready : IsReady new

  -- each client is served, or fails to be; the first error is what all come to
  pub record ServesAll (old : RoomValue W) (result : Result (Unit {0}) ClientError)
      (new : RoomValue W) : Type 0 where
    pub to_first : Result (Unit {0}) ClientError
    pub to_second : Result (Unit {0}) ClientError
    pub to_third : Result (Unit {0}) ClientError
    pub first : ServesOnce new.source old.first to_first new.first
    pub second : ServesOnce new.source old.second to_second new.second
    pub third : ServesOnce new.source old.third to_third new.third
    pub comes_to : result ≡ result_and (result_and to_first to_second) to_third

  -- the changes before one are made, and that one is refused
  pub record StopsAtChange (old : SourceValue W) (changes : List ChangeValue) (error : SurfaceError)
      (new : SourceValue W) : Type 0 where
    pub made : List ChangeValue
    pub refused : ChangeValue
    pub later : List ChangeValue
    pub all : changes ≡ made ++ refused ∷ later
    -- the source as those made it
    pub mid : SourceValue W
    pub has_made : HasMade measure_of old.surface made mid.surface
    pub refuses :
        Adds (measure_of mid.surface.widths) (trimmed_surface mid.surface) (refused ∷ [])
        (next_number (trimmed_surface mid.surface).log) (Err error) new.surface

  -- the changes are made, and then each client is served
  pub record SharesAll (old : RoomValue W) (changes : List ChangeValue)
      (result : Result (Unit {0}) ClientError) (new : RoomValue W) : Type 0 where
    pub made : SourceValue W
    pub has_made : HasMade measure_of old.source.surface changes made.surface
    pub serves : ServesAll (record old { source = made }) result new
    pub shows : full_of new.source.surface ≡ full_of made.surface

  -- or one of them is refused, and the clients are as they were
  abbrev pub Shares : RoomValue W → List ChangeValue → Result (Unit {0}) ShareError
      → RoomValue W → Type 0
  Shares old changes (Ok u) new = SharesAll old changes (Ok tt) new
  Shares old changes (Err (Unserved error)) new = SharesAll old changes (Err error) new
  Shares old changes (Err (Refused error)) new =
      StopsAtChange old.source changes error new.source × (new ≡ record old { source = new.source })
