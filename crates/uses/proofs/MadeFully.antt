-- What adding changes makes of a full screen.
use Rattle.std.proofs.Common.{◌≡◌, ℕ, ◌+◌, ◌-◌, List, [], ◌∷◌, length-append, ap, ◌∙◌, arith}
use Rattle.std.specs.Prelude.{Result, Ok, Err, IfErr, OnOk}
use Rattle.termwiz_share.specs.{trimmed_surface}
use Rattle.termwiz_surface.specs.{Adds, ChangeValue, Kept, Screen, SurfaceValue, delta_limit, full_of, full_replay, full_screen, kept_of, next_number, replay, replay_kept, screen_of}
use Rattle.termwiz_surface.specs.declared.surface.SurfaceError.{SurfaceError}
use Rattle.termwiz_surface.specs.declared.surface.SurfaceError.TheVariants.{Memory, Numbers, ScrollRegion}
use Rattle.termwiz_screen.proofs.Logs.{flushed_number}
use Rattle.uses.specs.Making.{MayRefuse}
use Rattle.uses.specs.Serving.{Stands}

module _ {W : Type 0} (f : List ℕ → ℕ) (old : SurfaceValue W) (changes : List ChangeValue) (n : ℕ) where
  pub made_fully : ((m : List ℕ → ℕ) (cs : List ChangeValue) (s : Screen) (k : Kept) → full_screen (replay m s cs) (replay_kept m s k cs) ≡ full_replay m (full_screen s k) cs)
      → (result : Result ℕ SurfaceError) (new : SurfaceValue W) → Adds f (trimmed_surface old) changes n result new → OnOk result (full_of new ≡ full_replay f (full_of old) changes)
  made_fully law (Ok k) new adds = (λ i. full_screen (adds.3.screen_is i) (adds.3.kept_is i)) ∙ law f changes (screen_of old) (kept_of old)
  made_fully law (Err error) new adds = tt

  pub made_stands : (result : Result ℕ SurfaceError) (new : SurfaceValue W) → Adds f (trimmed_surface old) changes n result new → IfErr result (λ error. Stands error (full_of old) (full_of new))
  made_stands (Ok k) new adds = tt
  made_stands (Err ScrollRegion) new adds = ap (λ (s : SurfaceValue W). full_of s) adds.1
  made_stands (Err Numbers) new adds = ap (λ (s : SurfaceValue W). full_of s) adds.2
  made_stands (Err Memory) new adds = (adds.3.width, adds.3.height)

  pub made_widths : (result : Result ℕ SurfaceError) (new : SurfaceValue W) → Adds f (trimmed_surface old) changes n result new → new.widths ≡ old.widths
  made_widths (Ok k) new adds = adds.3.widths
  made_widths (Err ScrollRegion) new adds = ap (λ (s : SurfaceValue W). s.widths) adds.1
  made_widths (Err Numbers) new adds = ap (λ (s : SurfaceValue W). s.widths) adds.2
  made_widths (Err Memory) new adds = adds.3.widths

-- forgetting changes leaves the number
trimmed_number : {W : Type 0} (s : SurfaceValue W) → next_number (trimmed_surface s).log ≡ next_number s.log
trimmed_number s = flushed_number s.log (next_number s.log - delta_limit s.width s.height)

pub made_counted : {W : Type 0} (f : List ℕ → ℕ) (old : SurfaceValue W) (c : ChangeValue) (n : ℕ) (result : Result ℕ SurfaceError) (new : SurfaceValue W) → Adds f (trimmed_surface old) (c ∷ []) n result new → OnOk result (next_number new.log ≡ next_number old.log + 1)
made_counted f old c n (Ok k) new adds = ap next_number adds.3.log ∙ omega (arith, length-append (trimmed_surface old).log.changes (c ∷ []), trimmed_number old)
made_counted f old c n (Err error) new adds = tt

-- and so why changes may be refused
pub refuses_trimmed : {W : Type 0} (s : SurfaceValue W) (cs : List ChangeValue) (e : SurfaceError) → MayRefuse (trimmed_surface s) cs e → MayRefuse s cs e
refuses_trimmed s cs ScrollRegion may = may
refuses_trimmed s cs Numbers may = (may.0, omega (arith, may.1, trimmed_number s))
refuses_trimmed s cs Memory may = (may.0, omega (arith, may.1, trimmed_number s))

refused : {W : Type 0} (f : List ℕ → ℕ) (old : SurfaceValue W) (cs : List ChangeValue) (n : ℕ) (e : SurfaceError) (new : SurfaceValue W) → Adds f old cs n (Err e) new → MayRefuse old cs e
refused f old cs n ScrollRegion new adds = adds.0
refused f old cs n Numbers new adds = (adds.0, adds.1)
refused f old cs n Memory new adds = (adds.0, adds.1)

pub made_refuses : {W : Type 0} (f : List ℕ → ℕ) (old : SurfaceValue W) (cs : List ChangeValue) (n : ℕ) (result : Result ℕ SurfaceError) (new : SurfaceValue W) → Adds f (trimmed_surface old) cs n result new → IfErr result (λ error. MayRefuse old cs error)
made_refuses f old cs n (Ok k) new adds = tt
made_refuses f old cs n (Err e) new adds = refuses_trimmed old cs e (refused f (trimmed_surface old) cs n e new adds)
