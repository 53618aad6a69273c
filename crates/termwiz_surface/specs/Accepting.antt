-- What a viewer does that is given an answer.
use Rattle.std.specs.Prelude.{◌≡◌, ◌⊎◌, ℕ, ◌+◌, ◌<◌, ◌≤◌, ◌^◌, true, false, List, length, Result, Ok, Err}
use Rattle.termwiz_surface.specs.Adding.{Makes, with_log}
use Rattle.termwiz_surface.specs.Answer.{AnswerValue, suits, is_stale}
use Rattle.termwiz_surface.specs.Following.{ViewerValue, forgetful}
use Rattle.termwiz_screen.specs.Log.{next_number, restarted}
use Rattle.termwiz_surface.specs.Surface.{IsSound, SameFrame}
use Rattle.termwiz_surface.specs.declared.view.viewer.AcceptError.{AcceptError}
use Rattle.termwiz_surface.specs.declared.view.viewer.AcceptError.TheVariants.{Size, Stale, Numbers, Memory}

module _ {W : Type 0} where
  -- the answer is for the viewer's size, and not stale
  pub record MayTake (v : ViewerValue W) (a : AnswerValue) : Type 0 where
    pub suits : suits v.surface.width v.surface.height a ≡ true
    pub fresh : is_stale v.last a ≡ false

  -- why a viewer refuses an answer before anything is done, where it does
  abbrev pub Declines : ViewerValue W → AnswerValue → Result (Unit {0}) AcceptError → Type 0
  Declines v a (Ok u) = MayTake v a
  Declines v a (Err Size) = suits v.surface.width v.surface.height a ≡ false
  Declines v a (Err Stale) =
      (suits v.surface.width v.surface.height a ≡ true) × (is_stale v.last a ≡ true)
  Declines v a (Err Numbers) = ⊥
  Declines v a (Err Memory) = ⊥

  -- the viewer has no number, and its surface is as it was, or any one of that size in its form,
  -- with an empty log under a new number, or 0 where that was the number
  pub record HasDropped (measure : List ℕ → ℕ) (old new : ViewerValue W) : Type 0 where
    pub last : new.last ≡ 0
    pub surface :
        (new.surface ≡ old.surface) ⊎
        (SameFrame (with_log old.surface (restarted old.surface.log)) new.surface ×
        IsSound measure new.surface)

  -- a viewer accepts an answer, and takes its number, or refuses it
  abbrev pub Takes :
      (List ℕ → ℕ) → ViewerValue W → AnswerValue → Result ℕ AcceptError → ViewerValue W → Type 0
  Takes measure old a (Ok n) new =
      MayTake old a × (next_number old.surface.log + length a.changes < 2 ^ 64) × (n ≡ a.number) ×
      (new.last ≡ n) × Makes measure old.surface a.changes new.surface
  Takes measure old a (Err Size) new =
      (suits old.surface.width old.surface.height a ≡ false) × (new ≡ old)
  Takes measure old a (Err Stale) new =
      (suits old.surface.width old.surface.height a ≡ true) × (is_stale old.last a ≡ true) ×
      (new ≡ old)
  Takes measure old a (Err Numbers) new =
      MayTake old a × (2 ^ 64 ≤ next_number old.surface.log + length a.changes) ×
      (new ≡ forgetful old)
  Takes measure old a (Err Memory) new =
      MayTake old a × (next_number old.surface.log + length a.changes < 2 ^ 64) ×
      HasDropped measure old new
