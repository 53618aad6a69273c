-- Cuts into longest pieces, made from the left, and that there is only one.
use Rattle.std.proofs.Common.{◌≡◌, ◌≢◌, ◌⊎◌, inl, inr, List, [], ◌∷◌, ◌++◌, refl, sym, ◌∙◌, ap, subst, append_assoc}
use Rattle.std.proofs.lemmas.List.{append-nil}
use Rattle.termwiz_line.specs.Pieces.{joined, IsLongest, AreLongest, none, one_more, IsCut}
use Rattle.termwiz_line.proofs.Ends.{not_nil-append, nothing_more}

-- ---- a cut under way, from the left

-- the pieces of a list that begins with `now`, of a piece that may grow
pub data IsCutFrom {A : Type 0} (IsPiece : List A → Type 0) : List A → List A → List (List A) → Type 0 where
  last : {now : List A} → IsCutFrom IsPiece now [] (now ∷ [])
  grows : {now xs : List A} {x : A} {ps : List (List A)} → IsPiece (now ++ x ∷ []) → IsCutFrom IsPiece (now ++ x ∷ []) xs ps → IsCutFrom IsPiece now (x ∷ xs) ps
  ends : {now xs : List A} {x : A} {ps : List (List A)} → (IsPiece (now ++ x ∷ []) → ⊥) → IsCutFrom IsPiece (x ∷ []) xs ps → IsCutFrom IsPiece now (x ∷ xs) (now ∷ ps)

-- a beginning of a piece is a piece, and one element is one too
pub record AreClosed {A : Type 0} (IsPiece : List A → Type 0) : Type 0 where
  pub beginning : (p more : List A) → p ≢ [] → IsPiece (p ++ more) → IsPiece p
  pub single : (x : A) → IsPiece (x ∷ [])

longest_last : {A : Type 0} (IsPiece : List A → Type 0) (p : List A) → p ≢ [] → IsPiece p → IsLongest IsPiece p []
longest_last IsPiece p s h = record {
  some = s;
  piece = h;
  longest = λ more others e n f. nothing_more more others e n;
}

spoiled : {A : Type 0} (IsPiece : List A → Type 0) → AreClosed IsPiece → (p : List A) (x : A) (xs more others : List A) → (IsPiece (p ++ x ∷ []) → ⊥) → x ∷ xs ≡ more ++ others → more ≢ [] → IsPiece (p ++ more) → ⊥
spoiled IsPiece k p x xs [] others n e m f = m refl
spoiled {A} IsPiece k p x xs (y ∷ ys) others n e m f =
    let same : y ≡ x = cc in
    let f' : IsPiece (p ++ y ∷ ys) = f in
    let g : IsPiece ((p ++ y ∷ []) ++ ys) = rw append_assoc f' in
    let b : IsPiece (p ++ y ∷ []) = k.beginning (p ++ y ∷ []) ys (not_nil-append p y []) g in
    n (subst (λ (z : A). IsPiece (p ++ z ∷ [])) same b)

-- a piece that the next element would spoil is the longest
longest_spoiled : {A : Type 0} (IsPiece : List A → Type 0) → AreClosed IsPiece → (p : List A) (x : A) (xs rest : List A) → p ≢ [] → IsPiece p → (IsPiece (p ++ x ∷ []) → ⊥) → rest ≡ x ∷ xs → IsLongest IsPiece p rest
longest_spoiled IsPiece k p x xs rest s h n r = record {
  some = s;
  piece = h;
  longest = λ more others e m f. spoiled IsPiece k p x xs more others n (sym r ∙ e) m f;
}

pub IsCut-from : {A : Type 0} (IsPiece : List A → Type 0) → AreClosed IsPiece → (now xs : List A) (ps : List (List A)) → now ≢ [] → IsPiece now → IsCutFrom IsPiece now xs ps → IsCut IsPiece (now ++ xs) ps
IsCut-from IsPiece k now [] _ s h last = record { whole = refl; longest = one_more (longest_last IsPiece now s h) none }
IsCut-from IsPiece k now (x ∷ xs) ps s h (grows f t) =
    let r = IsCut-from IsPiece k (now ++ x ∷ []) xs ps (not_nil-append now x []) f t in
    record { whole = r.whole ∙ append_assoc now (x ∷ []) xs; longest = r.longest }
IsCut-from IsPiece k now (x ∷ xs) (_ ∷ ps) s h (ends n t) =
    let r = IsCut-from IsPiece k (x ∷ []) xs ps (λ e. cc) (k.single x) t in
    record { whole = ap (λ z. now ++ z) r.whole; longest = one_more (longest_spoiled IsPiece k now x xs (joined ps) s h n r.whole) r.longest }

-- ---- the state of a cut: the pieces before, the piece that may grow, and the elements left

pub record IsUnderWay {A : Type 0} (IsPiece : List A → Type 0) (first : A) (rest : List A) (before : List (List A)) (now left : List A) : Type 0 where
  pub piece : IsPiece now
  pub leads : (ps : List (List A)) → IsCutFrom IsPiece now left ps → IsCutFrom IsPiece (first ∷ []) rest (before ++ ps)

pub under_way-start : {A : Type 0} (IsPiece : List A → Type 0) → AreClosed IsPiece → (first : A) (rest : List A) → IsUnderWay IsPiece first rest [] (first ∷ []) rest
under_way-start IsPiece k first rest = record { piece = k.single first; leads = λ ps t. t }

pub under_way-grows : {A : Type 0} (IsPiece : List A → Type 0) (first : A) (rest : List A) (before : List (List A)) (now left : List A) (x : A) → IsPiece (now ++ x ∷ []) → IsUnderWay IsPiece first rest before now (x ∷ left) → IsUnderWay IsPiece first rest before (now ++ x ∷ []) left
under_way-grows IsPiece first rest before now left x f u = record { piece = f; leads = λ ps t. u.leads ps (grows f t) }

pub under_way-ends : {A : Type 0} (IsPiece : List A → Type 0) → AreClosed IsPiece → (first : A) (rest : List A) (before : List (List A)) (now left : List A) (x : A) → (IsPiece (now ++ x ∷ []) → ⊥) → IsUnderWay IsPiece first rest before now (x ∷ left) → IsUnderWay IsPiece first rest (before ++ now ∷ []) (x ∷ []) left
under_way-ends IsPiece k first rest before now left x n u = record {
  piece = k.single x;
  leads = λ ps t. rw append_assoc (u.leads (now ∷ ps) (ends n t));
}

pub under_way-done : {A : Type 0} (IsPiece : List A → Type 0) → AreClosed IsPiece → (first : A) (rest : List A) (before : List (List A)) (now : List A) → IsUnderWay IsPiece first rest before now [] → IsCut IsPiece (first ∷ rest) (before ++ now ∷ [])
under_way-done IsPiece k first rest before now u = IsCut-from IsPiece k (first ∷ []) rest (before ++ now ∷ []) (λ e. cc) (k.single first) (u.leads (now ∷ []) last)

-- ---- a cut is the only one

pub same_append : {A : Type 0} (p q r s : List A) → p ++ r ≡ q ++ s → ((more : List A) × (q ≡ p ++ more) × (r ≡ more ++ s)) ⊎ ((more : List A) × (p ≡ q ++ more) × (s ≡ more ++ r))
same_append [] q r s e = inl (q, refl, e)
same_append (x ∷ p) [] r s e = inr (x ∷ p, refl, sym e)
same_append {A} (x ∷ p) (y ∷ q) r s e =
    let h : x ≡ y = cc in
    let t : p ++ r ≡ q ++ s = cc in
    elim (same_append p q r s t) [
      | inl w ↦ inl (w.0, rw (h, w.1) refl, w.2)
      | inr w ↦ inr (w.0, rw (h, w.1) refl, w.2)
    ]

no_more : {A : Type 0} (IsPiece : List A → Type 0) (p rest q more others : List A) → IsLongest IsPiece p rest → IsPiece q → q ≡ p ++ more → rest ≡ more ++ others → more ≡ []
no_more IsPiece p rest q [] others l h e r = refl
no_more {A} IsPiece p rest q (x ∷ xs) others l h e r = absurd (l.longest (x ∷ xs) others r (λ z. cc) (subst IsPiece e h))

first_same : {A : Type 0} (IsPiece : List A → Type 0) (p q r s : List A) → IsLongest IsPiece p r → IsLongest IsPiece q s → p ++ r ≡ q ++ s → (p ≡ q) × (r ≡ s)
first_same IsPiece p q r s l m e =
    elim (same_append p q r s e) [
      | inl w ↦
          let n : w.0 ≡ [] = no_more IsPiece p r q w.0 s l m.piece w.1 w.2 in
          (sym (w.1 ∙ ap (λ z. p ++ z) n ∙ append-nil p), w.2 ∙ ap (λ z. z ++ s) n)
      | inr w ↦
          let n : w.0 ≡ [] = no_more IsPiece q s p w.0 r m l.piece w.1 w.2 in
          (w.1 ∙ ap (λ z. q ++ z) n ∙ append-nil q, sym (w.2 ∙ ap (λ z. z ++ r) n))
    ]

some_joined : {A : Type 0} (p r : List A) → p ≢ [] → [] ≡ p ++ r → ⊥
some_joined [] r n e = n refl
some_joined (x ∷ xs) r n e = cc

pub AreLongest-same : {A : Type 0} (IsPiece : List A → Type 0) (ps qs : List (List A)) → AreLongest IsPiece ps → AreLongest IsPiece qs → joined ps ≡ joined qs → ps ≡ qs
AreLongest-same IsPiece [] [] none none e = refl
AreLongest-same IsPiece [] (q ∷ qs) none (one_more m b) e = absurd (some_joined q (joined qs) m.some e)
AreLongest-same IsPiece (p ∷ ps) [] (one_more l a) none e = absurd (some_joined p (joined ps) l.some (sym e))
AreLongest-same IsPiece (p ∷ ps) (q ∷ qs) (one_more l a) (one_more m b) e =
    let f = first_same IsPiece p q (joined ps) (joined qs) l m e in
    let t : ps ≡ qs = AreLongest-same IsPiece ps qs a b f.1 in
    rw (f.0, t) refl

pub IsCut-same : {A : Type 0} (IsPiece : List A → Type 0) (xs : List A) (ps qs : List (List A)) → IsCut IsPiece xs ps → IsCut IsPiece xs qs → ps ≡ qs
IsCut-same IsPiece xs ps qs c d = AreLongest-same IsPiece ps qs c.longest d.longest (c.whole ∙ sym d.whole)
