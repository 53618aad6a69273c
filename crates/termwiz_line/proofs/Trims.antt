-- The search for the last element of a list that isn't dull.
use Rattle.std.proofs.Common.{◌≡◌, ℕ, ◌+◌, ◌<◌, List, [], ◌∷◌, ◌++◌, length, take, refl, sym, ◌∙◌, ap, subst, append_assoc, length-append, arith}
use Rattle.std.proofs.lemmas.List.{append-nil}
use Rattle.std.proofs.Math.Seq.{take-append_seam}
use Rattle.std.specs.List.{All}
use Rattle.std.proofs.lemmas.List.Elements.{All-nil, All-push}
use Rattle.termwiz_line.specs.Trim.{IsTrimmed}
use Rattle.termwiz_line.proofs.Ends.{last_same}

-- the state of a search for the end: what is kept, what is dull after it, and what is left
pub record IsTrimUnderWay {A : Type 0} (IsDull : A → Type 0) (xs : List A) (seen count : ℕ) (left : List A) : Type 0 where
  pub kept : List A
  pub dulls : List A
  pub whole : (kept ++ dulls) ++ left ≡ xs
  pub seen_is : seen ≡ length kept + length dulls
  pub count_is : count ≡ length kept
  pub dull : All IsDull dulls
  pub counts : (before : List A) (last : A) → kept ≡ before ++ last ∷ [] → IsDull last → ⊥

pub trim-start : {A : Type 0} (IsDull : A → Type 0) (xs : List A) → IsTrimUnderWay IsDull xs 0 0 xs
trim-start IsDull xs = record { kept = []; dulls = []; whole = refl; seen_is = omega arith; count_is = refl; dull = All-nil IsDull; counts = λ before last e d. elim before as (λ b. [] ≡ b ++ last ∷ [] → ⊥) [ [] ↦ λ e. cc | y ∷ ys ↦ λ e. cc ] e }

pub trim-dull : {A : Type 0} (IsDull : A → Type 0) (xs : List A) (seen count : ℕ) (x : A) (left : List A) → IsDull x → IsTrimUnderWay IsDull xs seen count (x ∷ left) → IsTrimUnderWay IsDull xs (seen + 1) count left
trim-dull IsDull xs seen count x left d t = record {
  kept = t.kept;
  dulls = t.dulls ++ x ∷ [];
  whole = (rw append_assoc (rw append_assoc refl)) ∙ sym (append_assoc t.kept t.dulls (x ∷ left)) ∙ t.whole;
  seen_is = omega (arith, length-append t.dulls (x ∷ []), t.seen_is);
  count_is = t.count_is;
  dull = All-push IsDull t.dulls x t.dull d;
  counts = t.counts;
}

pub trim-counts : {A : Type 0} (IsDull : A → Type 0) (xs : List A) (seen count : ℕ) (x : A) (left : List A) → (IsDull x → ⊥) → IsTrimUnderWay IsDull xs seen count (x ∷ left) → IsTrimUnderWay IsDull xs (seen + 1) (seen + 1) left
trim-counts {A} IsDull xs seen count x left n t = record {
  kept = (t.kept ++ t.dulls) ++ x ∷ [];
  dulls = [];
  whole = simp (append_assoc, append-nil) (sym (append_assoc t.kept t.dulls (x ∷ left)) ∙ t.whole);
  seen_is = omega (arith, length-append (t.kept ++ t.dulls) (x ∷ []), length-append t.kept t.dulls, t.seen_is);
  count_is = omega (arith, length-append (t.kept ++ t.dulls) (x ∷ []), length-append t.kept t.dulls, t.seen_is);
  dull = All-nil IsDull;
  counts = λ before last e d. n (subst IsDull (sym (last_same (t.kept ++ t.dulls) before x last e)) d);
}

pub trim-done : {A : Type 0} (IsDull : A → Type 0) (xs : List A) (seen count : ℕ) → IsTrimUnderWay IsDull xs seen count [] → IsTrimmed IsDull xs (take count xs)
trim-done {A} IsDull xs seen count t =
    let whole : t.kept ++ t.dulls ≡ xs = sym (append-nil (t.kept ++ t.dulls)) ∙ t.whole in
    let k : take count xs ≡ t.kept = rw (← whole, t.count_is) (take-append_seam t.kept t.dulls) in
    rw k (record { dropped = t.dulls; whole = whole; dull = t.dull; counts = t.counts })

pub trim-seen : {A : Type 0} (IsDull : A → Type 0) (xs : List A) (seen count : ℕ) (x : A) (left : List A) → IsTrimUnderWay IsDull xs seen count (x ∷ left) → seen < length xs
trim-seen IsDull xs seen count x left t =
    let n : length ((t.kept ++ t.dulls) ++ x ∷ left) ≡ length xs = ap length t.whole in
    omega (arith, n, length-append (t.kept ++ t.dulls) (x ∷ left), length-append t.kept t.dulls, t.seen_is)
