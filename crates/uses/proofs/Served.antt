-- Viewers that accept answers while the surface goes on.
use Rattle.std.proofs.Common.{◌≡◌, ℕ, List, inl, inr, sym, subst, ap, ◌∙◌}
use Rattle.std.specs.Prelude.{Result, Ok, Err, OnOk, OnErr}
use Rattle.termwiz_surface.specs.{Follows, HasCaughtUp, NamedAreLed, NumberNamesPicture, SurfaceValue, ViewerValue, full_of, full_screens, screen_of, screens}
use Rattle.termwiz_surface.specs.Picture.{Pictures}
use Rattle.termwiz_share.specs.{ClientValue, IsResponse, SourceValue}
use Rattle.termwiz_wire.specs.declared.sent.Ask.{Ask}
use Rattle.termwiz_share.specs.declared.error.ClientError.{ClientError}
use Rattle.uses.specs.Late.{IsServed}
use Rattle.uses.specs.Serving.{ServesOnce}

module _ {W : Type 0} (f : W → List ℕ → ℕ) where
  -- a viewer that a full surface serves follows it
  pub served_follows : (v : ViewerValue W) (s : SurfaceValue W) → NamedAreLed screens → NamedAreLed full_screens → IsServed screens f v s → IsServed full_screens f v s → Follows f v s
  served_follows v s led fully_led h k = record {
    one_measure = h.one_measure;
    leads = led (f s.widths) h.past (screen_of v.surface) (screen_of s) v.last s.log h.is_past h.not_ahead h.names;
    full = λ full. fully_led (f s.widths) k.past (full_of v.surface) (full_of s) v.last s.log k.is_past k.not_ahead k.names;
  }

  -- and is served on once it has followed it: it shows what the surface shows, or has no number
  pub IsServed-followed : {P : Type 0} (pictures : Pictures P) {E : Type 0} (v w : ViewerValue W) (s : SurfaceValue W) (r : Result ℕ E) → NumberNamesPicture pictures → IsServed pictures f v s → Follows f w s
      → OnOk r (HasCaughtUp w s) → OnOk r (full_of w.surface ≡ full_of s) → OnErr r (w.last ≡ 0) → IsServed pictures f w s
  IsServed-followed pictures v w s (Ok n) number h follows caught full failed = record {
    one_measure = follows.one_measure;
    past = h.past;
    is_past = h.is_past;
    not_ahead = follows.leads.not_ahead;
    names = record {
      named = λ some. ap h.past caught.1 ∙ (number (f s.widths) h.past (pictures.shown (full_of s)) s.log h.is_past).named (λ none. some (caught.1 ∙ none)) ∙ sym (ap pictures.shown full);
    };
  }
  IsServed-followed pictures v w s (Err e) number h follows caught full failed = record {
    one_measure = follows.one_measure;
    past = h.past;
    is_past = h.is_past;
    not_ahead = follows.leads.not_ahead;
    names = record { named = λ some. absurd (some failed) };
  }

-- a client that was served is served by what shows the same later
pub served_later : {W : Type 0} (f : W → List ℕ → ℕ) (s t : SourceValue W) (old : ClientValue W) (r : Result (Unit {0}) ClientError) (new : ClientValue W) → full_of t.surface ≡ full_of s.surface → ServesOnce f s old r new → ServesOnce f t old r new
served_later f s t old (Ok u) new same shows = shows ∙ sym same
served_later f s t old (Err e) new same (inl none) = inl none
served_later f s t old (Err e) new same (inr fails) = inr (fails.0, fails.1 ∙ sym same, fails.2)

-- a client that was served shows what the source shows
pub once_shows : {W : Type 0} (f : W → List ℕ → ℕ) (s : SourceValue W) (old : ClientValue W) (r : Result (Unit {0}) ClientError) (new : ClientValue W) → ServesOnce f s old r new → OnOk r (full_of new.surface ≡ full_of s.surface)
once_shows f s old (Ok u) new shows = shows
once_shows f s old (Err e) new fails = tt

-- the response to what the client asks
pub answers : {W : Type 0} (f : W → List ℕ → ℕ) (s : SourceValue W) (asks ask : Ask) (bytes piece : List ℕ) → ask ≡ asks → piece ≡ bytes → IsResponse f s ask bytes → IsResponse f s asks piece
answers f s asks ask bytes piece asked same response = subst (λ (b : List ℕ). IsResponse f s asks b) (sym same) (subst (λ (a : Ask). IsResponse f s a bytes) asked response)
