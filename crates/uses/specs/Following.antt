-- What callers make of viewers, by the steps that the viewers' own calls are.
use Rattle.std.specs.Prelude.{◌≡◌, ◌⊎◌, ℕ, ◌<◌, List, length, slice_index_or, Result, Ok, Err, if◌then◌else◌}
use Rattle.termwiz_surface.specs.{ChangeValue, FollowsTo, SurfaceValue, ViewerValue, due, knows, next_number, own_repaint}
use Rattle.termwiz_surface.specs.declared.surface.SurfaceError.{SurfaceError}
use Rattle.uses.specs.Turns.{InTurn}
use Rattle.uses.specs.Making.{MakesOrFails}

module _ {W : Type 0} where
  -- what a surface answers a viewer with number n: what is due, or else its repaint
  abbrev pub answer_for : SurfaceValue W → ℕ → List ChangeValue
  answer_for s n = if knows s n then due s.log n else own_repaint s

module _ {W : Type 0} (measure_of : W → List ℕ → ℕ) (s : SurfaceValue W) where
  -- the answer for its number is made on what a follower shows, where there is memory for a copy
  abbrev pub FollowerCatchesUp :
      ViewerValue W → Result (Unit {0}) SurfaceError → ViewerValue W → Type 0
  FollowerCatchesUp old result new =
      MakesOrFails (measure_of old.surface.widths) old.surface (answer_for s old.last) result
      new.surface

  -- a viewer follows the surface, or fails to
  abbrev pub FollowsOnce :
      ViewerValue W → Result (Unit {0}) SurfaceError → ViewerValue W → Type 0
  FollowsOnce old (Ok u) new = FollowsTo measure_of s old (Ok (next_number s.log)) new
  FollowsOnce old (Err e) new = FollowsTo measure_of s old (Err e) new

  -- of viewers that follow in turn one fails to: those before it have followed, and those after it
  -- are as they were
  pub record StopsFollowing (old : List (ViewerValue W)) (error : SurfaceError)
      (new : List (ViewerValue W)) : Type 0 where
    pub at : ℕ
    pub inside : at < length old
    pub before :
        (k : ℕ) (d : ViewerValue W) → k < at →
        FollowsOnce (slice_index_or old k d) (Ok tt) (slice_index_or new k d)
    pub fails :
        (d : ViewerValue W) →
        FollowsOnce (slice_index_or old at d) (Err error) (slice_index_or new at d)
    pub behind :
        (k : ℕ) (d : ViewerValue W) → at < k → slice_index_or new k d ≡ slice_index_or old k d

  -- each viewer follows, or they stop
  abbrev pub FollowInTurn :
      List (ViewerValue W) → Result (Unit {0}) SurfaceError → List (ViewerValue W) → Type 0
  FollowInTurn old (Ok u) new =
      (k : ℕ) (d : ViewerValue W) → k < length old →
      FollowsOnce (slice_index_or old k d) (Ok u) (slice_index_or new k d)
  FollowInTurn old (Err error) new = StopsFollowing old error new

module _ {W : Type 0} (measure_of : W → List ℕ → ℕ) (s : SurfaceValue W) where
  -- a near viewer follows the surface, and then a far one the near one's own surface
  abbrev pub Relays :
      ViewerValue W → ViewerValue W → Result (Unit {0}) SurfaceError → ViewerValue W →
      ViewerValue W → Type 0
  Relays near far result near_new far_new =
      InTurn (λ r. FollowsOnce measure_of s near r near_new) (far_new ≡ far)
      (λ r. FollowsOnce measure_of near_new.surface far r far_new) result

  -- a first attempt fails, and a second one has this result
  pub record RelaysAgain (near far : ViewerValue W) (result : Result (Unit {0}) SurfaceError)
      (near_new far_new : ViewerValue W) : Type 0 where
    pub error : SurfaceError
    pub near_mid : ViewerValue W
    pub far_mid : ViewerValue W
    pub first : Relays near far (Err error) near_mid far_mid
    pub second : Relays near_mid far_mid result near_new far_new

  -- it succeeds at once, or there is a second attempt
  abbrev pub RelaysTwice :
      ViewerValue W → ViewerValue W → Result (Unit {0}) SurfaceError → ViewerValue W →
      ViewerValue W → Type 0
  RelaysTwice near far result near_new far_new =
      ((result ≡ Ok tt) × Relays near far (Ok tt) near_new far_new)
      ⊎ RelaysAgain near far result near_new far_new
