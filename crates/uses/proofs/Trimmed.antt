-- A source that forgot what no answer needs forgets no more, and its response stands at the front of a buffer.
use Rattle.std.proofs.Common.{◌≡◌, ℕ, zero, suc, ◌+◌, ◌-◌, ◌≤◌, List, [], ◌∷◌, ◌++◌, inl, inr, length, take, refl, ap, sym, subst, ◌∙◌, arith, length-drop}
use Rattle.std.proofs.lemmas.Bool.{cases_Bool, le-leb}
use Rattle.termwiz_screen.specs.Log.{LogValue, delta_limit, due, flushed, next_number, reaches}
use Rattle.termwiz_screen.proofs.Logs.{reached}
use Rattle.termwiz_surface.specs.{SurfaceValue, with_log}
use Rattle.termwiz_surface.specs.Asking.{forgotten}
use Rattle.termwiz_share.specs.{SourceValue, trimmed_surface}

module _ (l : LogValue) (n : ℕ) where
  next_flushed : next_number (flushed l n) ≡ next_number l
  next_flushed = elim (cases_Bool (reaches l n)) [
    | inl e ↦ let r = reached l n e in rw e (omega (arith, r.0, r.1, length-drop (n - l.first) l.changes))
    | inr e ↦ rw e refl
  ]

  flushed_again : flushed (flushed l n) n ≡ flushed l n
  flushed_again = elim (cases_Bool (reaches l n)) [
    | inl e ↦
        let none : n - n ≡ 0 = omega arith in
        rw e (rw (le-leb n n (omega arith), le-leb n (n + length (due l n)) (omega arith), none) refl)
    | inr e ↦ rw (e, e) refl
  ]

forgotten_again : (most : ℕ) (l : LogValue) → forgotten most (forgotten most l) ≡ forgotten most l
forgotten_again most l =
    ap (λ (n : ℕ). flushed (forgotten most l) (n - most)) (next_flushed l (next_number l - most))
    ∙ flushed_again l (next_number l - most)

trimmed_again : {W : Type 0} (s : SurfaceValue W) → trimmed_surface (trimmed_surface s) ≡ trimmed_surface s
trimmed_again s = ap (with_log s) (forgotten_again (delta_limit s.width s.height) s.log)

-- so a source that answers a second time is as it was
pub answered_again : {W : Type 0} (s t u : SourceValue W) → t ≡ record s { surface = trimmed_surface s.surface } → u ≡ record t { surface = trimmed_surface t.surface } → u ≡ t
answered_again s t u first second =
    second ∙ subst (λ (x : SourceValue _). record x { surface = trimmed_surface x.surface } ≡ x) (sym first) (λ i. record { surface = trimmed_again s.surface i; number = s.number })

-- bytes at the front of a buffer
pub front : (bytes behind rest : List ℕ) (room : ℕ) → length bytes ≤ room → take (length bytes) (take room ((bytes ++ behind) ++ rest)) ≡ bytes
front [] behind rest room fits = refl
front (x ∷ xs) behind rest zero fits = absurd (omega arith)
front (x ∷ xs) behind rest (suc room) fits = ap (λ (l : List ℕ). x ∷ l) (front xs behind rest room (omega arith))
