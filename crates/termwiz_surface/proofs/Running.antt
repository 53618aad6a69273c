-- What a surface does is what the schedule allows, and a run goes on by one event.
use Rattle.std.proofs.Common.{◌≡◌, ℕ, List, [], ◌∷◌, ◌++◌, refl, sym, subst}
use Rattle.std.specs.Prelude.{Result}
use Rattle.termwiz_surface.specs.Following.{ViewerValue, Follows}
use Rattle.termwiz_surface.specs.Surface.{SurfaceValue}
use Rattle.termwiz_surface.specs.declared.surface.SurfaceError.{SurfaceError}
use Rattle.termwiz_surface.specs.Schedule.{ReportsOutcome, Acts, Views, Allows, Runs, Ended, Next, with_empty_log}
use Rattle.termwiz_surface.specs.declared.view.Event.{Event}
use Rattle.termwiz_surface.specs.declared.view.Event.TheVariants.{Changes, Draw, Copy, Flush, Resize, Follow, Show, Ask}
use Rattle.termwiz_surface.specs.declared.view.Outcome.{Outcome}
use Rattle.termwiz_surface.specs.declared.view.Outcome.TheVariants.{Answered, Done, Refused, Followed, FollowedFull, Shown, Asked}

-- what holds of an answer holds of the outcome that reports it
pub Reports-answer : (holds : Result ℕ SurfaceError → Type 0) (answer : Result ℕ SurfaceError) (outcome : Outcome) → ReportsOutcome (λ told. told ≡ answer) outcome → holds answer → ReportsOutcome holds outcome
Reports-answer holds answer (Answered n) e h = subst holds (sym e) h
Reports-answer holds answer (Refused x) e h = subst holds (sym e) h
Reports-answer holds answer Done e h = absurd e
Reports-answer holds answer (Followed n changes screen) e h = absurd e
Reports-answer holds answer (FollowedFull n changes picture) e h = absurd e
Reports-answer holds answer (Shown text cursor) e h = absurd e
Reports-answer holds answer (Asked n changes) e h = absurd e

module _ {W : Type 0} (f : W → List ℕ → ℕ) where
  -- what a surface does leaves its viewer
  pub Allows-acts : (s t : SurfaceValue W) (v : ViewerValue W) (event : Event W) (outcome : Outcome) → Acts f s event outcome t → Allows f s v event outcome t v
  Allows-acts s t v (Changes changes) outcome h = (h, refl)
  Allows-acts s t v (Draw other x y) outcome h = (h, refl)
  Allows-acts s t v (Copy from_x from_y w h x y) outcome k = (k, refl)
  Allows-acts s t v (Flush n) outcome h = (h, refl)
  Allows-acts s t v (Resize w h) outcome k = (k, refl)
  Allows-acts s t v Follow outcome h = absurd h
  Allows-acts s t v Show outcome h = (h, refl)
  Allows-acts s t v (Ask n) outcome h = (h, refl)

  -- what its viewer does leaves the surface
  pub Allows-follows : (s t : SurfaceValue W) (v made u : ViewerValue W) (event : Event W) (outcome : Outcome) → (event ≡ Follow) × (t ≡ s) → Follows f v s → Views f t v outcome made → u ≡ with_empty_log made → Allows f s v event outcome t u
  Allows-follows s t v made u event outcome none follows views forgets =
      rw none.0 (record { follows = follows; made = made; views = subst (λ z. Views f z v outcome made) none.1 views; forgets = forgets }, none.1)

pub Runs-push : {W : Type 0} {f : W → List ℕ → ℕ} {s t : SurfaceValue W} {v u : ViewerValue W} {events : List (Event W)} {outcomes : List Outcome} (event : Event W) (outcome : Outcome) (t1 : SurfaceValue W) (u1 : ViewerValue W)
    → Runs f s v events outcomes t u → Allows f t u event outcome t1 u1 → Runs f s v (events ++ event ∷ []) (outcomes ++ outcome ∷ []) t1 u1
Runs-push event outcome t1 u1 (Ended s v) h = Next s t1 t1 v u1 u1 event outcome [] [] h (Ended t1 u1)
Runs-push event outcome t1 u1 (Next s s1 t v v1 u e o es os k r) h = Next s s1 t1 v v1 u1 e o (es ++ event ∷ []) (os ++ outcome ∷ []) k (Runs-push event outcome t1 u1 r h)
