-- Pieces whose elements are equal in what a function tells of them.
use Rattle.std.proofs.Common.{◌≡◌, ◌≢◌, List, [], ◌∷◌, ◌++◌, refl, sym, subst, ◌∙◌}
use Rattle.std.specs.List.{All}
use Rattle.std.proofs.lemmas.List.Elements.{All-nil, All-push, All-cons, All-head, All-append}
use Rattle.termwiz_line.specs.Pieces.{AreEqualBy}
use Rattle.termwiz_line.proofs.Cuts.{AreClosed}
use Rattle.termwiz_line.proofs.Ends.{All-beginning, All-end, All-last}

pub AreEqualBy-closed : {A K : Type 0} (f : A → K) → AreClosed (AreEqualBy f)
AreEqualBy-closed f = record {
  beginning = λ p more s h. record { value = h.value; all = All-beginning (λ x. f x ≡ h.value) p more h.all };
  single = λ x. record { value = f x; all = All-cons (λ y. f y ≡ f x) x [] refl (All-nil (λ y. f y ≡ f x)) };
}

-- equal to the first
pub AreEqualBy-first : {A K : Type 0} (f : A → K) (x : A) (p : List A) → AreEqualBy f (x ∷ p) → All (λ y. f y ≡ f x) (x ∷ p)
AreEqualBy-first {A} {K} f x p h =
    let e : f x ≡ h.value = All-head (λ y. f y ≡ h.value) x p h.all in
    subst (λ (v : K). All (λ y. f y ≡ v) (x ∷ p)) (sym e) h.all

pub AreEqualBy-grows : {A K : Type 0} (f : A → K) (x y : A) (p : List A) → f y ≡ f x → AreEqualBy f (x ∷ p) → AreEqualBy f ((x ∷ p) ++ y ∷ [])
AreEqualBy-grows f x y p e h = record { value = f x; all = All-push (λ z. f z ≡ f x) (x ∷ p) y (AreEqualBy-first f x p h) e }

pub AreEqualBy-ends : {A K : Type 0} (f : A → K) (x y : A) (p : List A) → (f y ≡ f x → ⊥) → AreEqualBy f ((x ∷ p) ++ y ∷ []) → ⊥
AreEqualBy-ends f x y p n h = n (All-last (λ z. f z ≡ f x) (x ∷ p) y (AreEqualBy-first f x (p ++ y ∷ []) h))

-- a piece that isn't empty grows or ends, where `first` gives of it what f gives of its first
-- element
module _ {A K : Type 0} (f : A → K) (first : List A → K) (first_is : (x : A) (xs : List A) → first (x ∷ xs) ≡ f x) where
  pub AreEqualBy-takes : (p : List A) (x : A) → p ≢ [] → f x ≡ first p → AreEqualBy f p → AreEqualBy f (p ++ x ∷ [])
  AreEqualBy-takes [] x s e h = absurd (s refl)
  AreEqualBy-takes (c ∷ cs) x s e h = AreEqualBy-grows f c x cs (e ∙ first_is c cs) h

  pub AreEqualBy-refuses : (p : List A) (x : A) → p ≢ [] → (f x ≡ first p → ⊥) → AreEqualBy f (p ++ x ∷ []) → ⊥
  AreEqualBy-refuses [] x s n h = s refl
  AreEqualBy-refuses (c ∷ cs) x s n h = AreEqualBy-ends f c x cs (λ e. n (e ∙ sym (first_is c cs))) h

pub AreEqualBy-beginning : {A K : Type 0} (f : A → K) (p q : List A) → AreEqualBy f (p ++ q) → AreEqualBy f p
AreEqualBy-beginning f p q h = record { value = h.value; all = All-beginning (λ x. f x ≡ h.value) p q h.all }

pub AreEqualBy-end : {A K : Type 0} (f : A → K) (p q : List A) → AreEqualBy f (p ++ q) → AreEqualBy f q
AreEqualBy-end f p q h = record { value = h.value; all = All-end (λ x. f x ≡ h.value) p q h.all }

pub AreEqualBy-joined : {A K : Type 0} (f : A → K) (x y : A) (xs ys : List A) → f y ≡ f x → AreEqualBy f (x ∷ xs) → AreEqualBy f (y ∷ ys) → AreEqualBy f ((x ∷ xs) ++ y ∷ ys)
AreEqualBy-joined {A} {K} f x y xs ys e h k = record {
  value = f x;
  all = All-append (λ z. f z ≡ f x) (x ∷ xs) (y ∷ ys) (AreEqualBy-first f x xs h) (subst (λ (v : K). All (λ z. f z ≡ v) (y ∷ ys)) e (AreEqualBy-first f y ys k));
}
