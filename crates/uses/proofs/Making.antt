-- Changes that are made on a surface, and one more.
use Rattle.std.proofs.Common.{◌≡◌, ℕ, ◌+◌, List, [], ◌∷◌, ◌++◌, refl, sym, ap, ◌∙◌, append_assoc, length-append, arith}
use Rattle.std.specs.Prelude.{Ok, Err}
use Rattle.termwiz_surface.specs.Log.{LogValue}
use Rattle.termwiz_surface.specs.{Adds, ChangeValue, FullScreen, Kept, Screen, SurfaceValue, appended, full_of, full_replay, full_screen, kept_of, next_number, replay, replay_kept, screen_of}
use Rattle.termwiz_surface.specs.declared.surface.SurfaceError.{SurfaceError}
use Rattle.termwiz_surface.specs.declared.surface.SurfaceError.TheVariants.{Memory, Numbers, ScrollRegion}
use Rattle.uses.specs.Making.{MakesOrRefuses, HasMade, full_after}

module _ {W : Type 0} (m : List ℕ → ℕ) (old new : SurfaceValue W) (cs : List ChangeValue) (n : ℕ) where
  pub adds_made : (k : ℕ) → Adds m old cs n (Ok k) new → MakesOrRefuses m old cs (Ok tt) new
  adds_made k a = (a.0, a.1, a.3)

  pub adds_refused : (e : SurfaceError) → Adds m old cs n (Err e) new → MakesOrRefuses m old cs (Err e) new
  adds_refused Memory a = a
  adds_refused Numbers a = a
  adds_refused ScrollRegion a = a

pub replay_more : (m : List ℕ → ℕ) (s : Screen) (cs : List ChangeValue) (c : ChangeValue) → replay m s (cs ++ c ∷ []) ≡ replay m (replay m s cs) (c ∷ [])
replay_more m s [] c = refl
replay_more m s (d ∷ cs) c = replay_more m (replay m s (d ∷ [])) cs c

full_replay_more : (m : List ℕ → ℕ) (s : FullScreen) (cs : List ChangeValue) (c : ChangeValue) → full_replay m s (cs ++ c ∷ []) ≡ full_replay m (full_replay m s cs) (c ∷ [])
full_replay_more m s [] c = refl
full_replay_more m s (d ∷ cs) c = full_replay_more m (full_replay m s (d ∷ [])) cs c

module _ {W : Type 0} (f : W → List ℕ → ℕ) where
  pub made_none : (s : SurfaceValue W) → HasMade f s [] s
  made_none s = record { shows = refl; counted = omega arith; widths = refl }

  pub made_more : (old mid new : SurfaceValue W) (cs : List ChangeValue) (c : ChangeValue) → HasMade f old cs mid → full_of new ≡ full_after f mid (c ∷ []) → next_number new.log ≡ next_number mid.log + 1 → new.widths ≡ mid.widths → HasMade f old (cs ++ c ∷ []) new
  made_more old mid new cs c made shows counted widths = record {
    shows = shows
        ∙ (λ i. full_replay (f (made.widths i)) (made.shows i) (c ∷ []))
        ∙ sym (full_replay_more (f old.widths) (full_of old) cs c);
    counted = omega (arith, counted, made.counted, length-append cs (c ∷ []));
    widths = widths ∙ made.widths;
  }

  -- as a surface adds one change
  pub made_one : ((m : List ℕ → ℕ) (cs : List ChangeValue) (s : Screen) (k : Kept) → full_screen (replay m s cs) (replay_kept m s k cs) ≡ full_replay m (full_screen s k) cs)
      → (old mid new : SurfaceValue W) (cs : List ChangeValue) (c : ChangeValue) (n k : ℕ) → HasMade f old cs mid → Adds (f mid.widths) mid (c ∷ []) n (Ok k) new → HasMade f old (cs ++ c ∷ []) new
  made_one law old mid new cs c n k made a =
      made_more old mid new cs c made ((λ i. full_screen (a.3.screen_is i) (a.3.kept_is i)) ∙ law (f mid.widths) (c ∷ []) (screen_of mid) (kept_of mid))
      (ap next_number a.3.log ∙ omega (arith, length-append mid.log.changes (c ∷ []))) a.3.widths

  pub logged_one : (old mid new : SurfaceValue W) (cs : List ChangeValue) (c : ChangeValue) → mid.log ≡ appended old.log cs → new.log ≡ appended mid.log (c ∷ []) → new.log ≡ appended old.log (cs ++ c ∷ [])
  logged_one old mid new cs c before one =
      one ∙ ap (λ (l : LogValue). appended l (c ∷ [])) before
      ∙ ap (λ (changes : List ChangeValue). record old.log { changes = changes }) (append_assoc old.log.changes cs (c ∷ []))
