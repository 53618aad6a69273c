-- Items of a list that a loop changes one after another.
use Rattle.std.proofs.Common.{◌≡◌, ℕ, ◌+◌, ◌<◌, ◌≤◌, List, get_or, length, refl, sym, subst, ◌∙◌, inl, inr, arith}
use Rattle.std.specs.Prelude.{slice_set}
use Rattle.std.proofs.lemmas.Bool.{cases_eq}
use Rattle.std.proofs.lemmas.List.{get_or_read, get_or-set_same, get_or-set_other}

-- the items before number i are changed so, and the others are as they were
pub record AreChangedTo {X : Type 0} (P : X → X → Type 0) (old now : List X) (i : ℕ) : Type 0 where
  pub done : (k : ℕ) (d : X) → k < i → P (get_or old k d) (get_or now k d)
  pub left : (k : ℕ) (d : X) → i ≤ k → get_or now k d ≡ get_or old k d

module _ {X : Type 0} (P : X → X → Type 0) (old : List X) where
  pub changed_none : AreChangedTo P old old 0
  changed_none = record { done = λ k d lt. absurd (omega arith); left = λ k d le. refl }

  -- item i, which is x, becomes y
  module _ (now : List X) (i : ℕ) (x y : X) (inside : i < length now) (read : x ≡ get_or now i x) (so_far : AreChangedTo P old now i) where
    pub changed_here : (Q : X → X → Type 0) → Q (get_or now i x) y → (d : X) → Q (get_or old i d) (get_or (slice_set now i y) i d)
    changed_here Q q d =
        let was : get_or now i x ≡ get_or old i d = sym read ∙ get_or_read now i x inside read d ∙ so_far.left i d (omega arith) in
        subst (λ a. Q a (get_or (slice_set now i y) i d)) was (subst (Q (get_or now i x)) (sym (get_or-set_same now i y d inside)) q)

    pub changed_before : (k : ℕ) (d : X) → k < i → P (get_or old k d) (get_or (slice_set now i y) k d)
    changed_before k d lt = subst (P (get_or old k d)) (sym (get_or-set_other now i k y d (λ e. omega arith))) (so_far.done k d lt)

    pub same_behind : (k : ℕ) (d : X) → i < k → get_or (slice_set now i y) k d ≡ get_or old k d
    same_behind k d lt = get_or-set_other now i k y d (λ e. omega arith) ∙ so_far.left k d (omega arith)

    pub changed_more : P (get_or now i x) y → AreChangedTo P old (slice_set now i y) (i + 1)
    changed_more p = record {
      done = λ k d lt. elim (cases_eq k i) [
        | inl e ↦ subst (λ j. P (get_or old j d) (get_or (slice_set now i y) j d)) (sym e) (changed_here P p d)
        | inr other ↦ changed_before k d (omega arith)
      ];
      left = λ k d le. same_behind k d (omega arith);
    }
