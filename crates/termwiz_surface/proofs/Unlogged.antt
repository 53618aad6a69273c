-- Changes that are made without being logged keep what changes keep that are logged and then flushed.
use Rattle.std.proofs.Common.{◌≡◌, ℕ, ◌+◌, false, inl, inr, List, length, refl, sym, ap, subst, ◌∙◌, arith}
use Rattle.std.specs.Prelude.{Result, Ok, Err, OnOk}
use Rattle.std.specs.Result.{is_err}
use Rattle.std.proofs.lemmas.Bool.{cases_eq, true≢false}
use Rattle.termwiz_cell.specs.ChangeValue.{ChangeValue}
use Rattle.termwiz_screen.specs.Log.{LogValue, next_number, appended, flushed, passed}
use Rattle.termwiz_screen.specs.Picture.{screens, full_screens}
use Rattle.termwiz_screen.specs.Step.{replay, replay_kept}
use Rattle.termwiz_screen.proofs.Logs.{passed-flushed, passed-unknown}
use Rattle.termwiz_surface.specs.Adding.{with_log}
use Rattle.termwiz_surface.specs.Asking.{knows}
use Rattle.termwiz_surface.specs.Following.{ViewerValue, Follows}
use Rattle.termwiz_surface.specs.History.{KeepsNames}
use Rattle.termwiz_surface.specs.RowNumbers.{NumbersRows, NumbersTouched}
use Rattle.termwiz_surface.specs.Surface.{SurfaceValue, Becomes, screen_of, kept_of, full_of}
use Rattle.termwiz_surface.specs.Touching.{touched}
use Rattle.termwiz_surface.specs.Unlogged.{MakesUnlogged}
use Rattle.termwiz_surface.proofs.RowNumbers.{makes-logged, numbers-makes, numbers-flushed, numbers-flushed_touched, numbers-then}
use Rattle.termwiz_surface.proofs.Following.{Follows-makes, Leads-flushed}
use Rattle.termwiz_surface.proofs.Remembering.{keeps_makes, keeps_flushed, keeps_then}

-- a call succeeded, and this holds then
pub on-ok : {E A : Type 0} (result : Result (Unit {0}) E) → is_err result ≡ false → OnOk result A → A
on-ok (Ok u) e a = a
on-ok (Err x) e a = absurd (true≢false e)

module _ {W : Type 0} where
  -- the changes were made, and then counted
  pub makes-unlogged : (f : List ℕ → ℕ) (s m : SurfaceValue W) (cs : List ChangeValue) (mark : ℕ) → mark ≡ next_number s.log + length cs → Becomes (record s { mark = mark }) (replay f (screen_of s) cs) (replay_kept f (screen_of s) (kept_of s) cs) (touched f (screen_of s) cs) m → MakesUnlogged f s cs (with_log m (passed m.log (length cs)))
  makes-unlogged f s m cs mark e b = (
    with_log m (appended s.log cs),
    makes-logged f s m cs mark (appended s.log cs) e refl b,
    ap (λ (l : LogValue). with_log m l) (ap (λ (l : LogValue). passed l (length cs)) b.log ∙ passed-flushed s.log cs),
  )

  module _ (f : List ℕ → ℕ) (s t : SurfaceValue W) (cs : List ChangeValue) (m : MakesUnlogged f s cs t) where
    pub unlogged-log : t.log ≡ passed s.log (length cs)
    unlogged-log = ap (λ (v : SurfaceValue W). v.log) m.2 ∙ ap (λ (l : LogValue). flushed l (next_number l)) m.1.log ∙ sym (passed-flushed s.log cs)

    pub unlogged-unknown : (n : ℕ) → (n ≡ next_number t.log → ⊥) → knows t n ≡ false
    unlogged-unknown n = rw unlogged-log (passed-unknown s.log (length cs) _ n)

    pub keeps-unlogged : KeepsNames f s t
    keeps-unlogged = subst (KeepsNames f s) (sym m.2) (keeps_then f s m.0 _ (keeps_makes f s m.0 cs m.1) (keeps_flushed f m.0 (next_number m.0.log)))

  pub numbers-unlogged : (f : List ℕ → ℕ) (s t : SurfaceValue W) (cs : List ChangeValue) → (length cs ≡ 0 → NumbersRows s t) → MakesUnlogged f s cs t → NumbersRows s t
  numbers-unlogged f s t cs none m = elim (cases_eq (length cs) 0) [
    | inl e ↦ none e
    | inr some ↦ subst (NumbersRows s) (sym m.2) (numbers-then s m.0 _ (numbers-makes f s m.0 cs (omega arith) m.1) (numbers-flushed m.0 (next_number m.0.log)))
  ]

  pub unlogged-touched : (f : List ℕ → ℕ) (s t : SurfaceValue W) (cs : List ChangeValue) → MakesUnlogged f s cs t → NumbersTouched f s cs t
  unlogged-touched f s t cs m = subst (NumbersTouched f s cs) (sym m.2) (numbers-flushed_touched f s m.0 cs (next_number m.0.log) m.1)

  pub Follows-flushed : (f : W → List ℕ → ℕ) (v : ViewerValue W) (s : SurfaceValue W) (n : ℕ) → Follows f v s → Follows f v (with_log s (flushed s.log n))
  Follows-flushed f v s n h = record {
    one_measure = h.one_measure;
    leads = Leads-flushed screens (f s.widths) (screen_of v.surface) (screen_of s) v.last n s.log h.leads;
    full = λ e. Leads-flushed full_screens (f s.widths) (full_of v.surface) (full_of s) v.last n s.log (h.full e);
  }

  pub Follows-unlogged : (f : W → List ℕ → ℕ) (v : ViewerValue W) (s t : SurfaceValue W) (cs : List ChangeValue) → MakesUnlogged (f s.widths) s cs t → Follows f v s → Follows f v t
  Follows-unlogged f v s t cs m h = subst (Follows f v) (sym m.2) (Follows-flushed f v m.0 (next_number m.0.log) (Follows-makes f v s m.0 cs h m.1))
