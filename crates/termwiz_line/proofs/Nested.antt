-- Cuts by two rules at once: the longest pieces by both are the longest parts of the longest runs.
use Rattle.std.proofs.Common.{◌≡◌, ◌≢◌, ◌⊎◌, inl, inr, List, [], ◌∷◌, ◌++◌, refl, sym, ◌∙◌, ap, subst, append_assoc}
use Rattle.std.proofs.lemmas.List.{append-nil}
use Rattle.std.proofs.lemmas.List.Elements.{All-head}
use Rattle.termwiz_line.specs.Pieces.{joined, IsLongest, AreLongest, none, one_more, IsCut, AreEqualBy}
use Rattle.termwiz_line.specs.Clusters.{AreCutInto, no_run, next_run}
use Rattle.termwiz_line.proofs.Cuts.{AreClosed}
use Rattle.termwiz_line.proofs.Ends.{All-end, nothing_more}
use Rattle.termwiz_line.proofs.EqualBy.{AreEqualBy-first, AreEqualBy-beginning, AreEqualBy-end, AreEqualBy-joined}

-- a piece is a piece in both senses
pub record IsBoth {A : Type 0} (P Q : List A → Type 0) (p : List A) : Type 0 where
  pub left : P p
  pub right : Q p

pub IsBoth-closed : {A : Type 0} (P Q : List A → Type 0) → AreClosed P → AreClosed Q → AreClosed (IsBoth P Q)
IsBoth-closed P Q h k = record {
  beginning = λ p more n b. record { left = h.beginning p more n b.left; right = k.beginning p more n b.right };
  single = λ x. record { left = h.single x; right = k.single x };
}

-- the first run of a longer piece, joined to a piece before it that looks alike
longer_run : {A K : Type 0} (f : A → K) (x y : A) (xs ys rest : List A) → f y ≡ f x → AreEqualBy f (x ∷ xs) → IsLongest (AreEqualBy f) (y ∷ ys) rest → IsLongest (AreEqualBy f) ((x ∷ xs) ++ y ∷ ys) rest
longer_run f x y xs ys rest e h l = record {
  some = λ q. cc;
  piece = AreEqualBy-joined f x y xs ys e h l.piece;
  longest = λ more others q n k. l.longest more others q n (AreEqualBy-end f (x ∷ xs) ((y ∷ ys) ++ more) (rw (← append_assoc (x ∷ xs) (y ∷ ys) more) k));
}

other_look : {A K : Type 0} (f : A → K) (x y : A) (xs zs more others : List A) → (f y ≡ f x → ⊥) → y ∷ zs ≡ more ++ others → more ≢ [] → AreEqualBy f ((x ∷ xs) ++ more) → ⊥
other_look f x y xs zs [] others n e m k = m refl
other_look {A} f x y xs zs (w ∷ ws) others n e m k =
    let s : w ≡ y = cc in
    let a = All-end (λ z. f z ≡ f x) (x ∷ xs) (w ∷ ws) (AreEqualBy-first f x (xs ++ w ∷ ws) k) in
    n (ap f (sym s) ∙ All-head (λ z. f z ≡ f x) w ws a)

-- a run that ends where the next element looks otherwise
ended_run : {A K : Type 0} (f : A → K) (x y : A) (xs zs rest : List A) → (f y ≡ f x → ⊥) → AreEqualBy f (x ∷ xs) → rest ≡ y ∷ zs → IsLongest (AreEqualBy f) (x ∷ xs) rest
ended_run {A} {K} f x y xs zs rest n h r = record {
  some = λ q. cc;
  piece = h;
  longest = λ more others q m k. other_look f x y xs zs more others n (sym r ∙ q) m k;
}

-- a part that is longest among all is longest within its run
within_run : {A K : Type 0} (f : A → K) (Q : List A → Type 0) (p r after whole : List A) → IsLongest (IsBoth (AreEqualBy f) Q) p whole → whole ≡ r ++ after → AreEqualBy f (p ++ r) → IsLongest Q p r
within_run {A} f Q p r after whole l e h = record {
  some = l.some;
  piece = l.piece.right;
  longest = λ more others q n k.
      let h' : AreEqualBy f (p ++ more ++ others) = subst (λ (z : List A). AreEqualBy f z) (ap (λ z. p ++ z) q ∙ sym (append_assoc p more others)) h in
      l.longest more (others ++ after) (e ∙ ap (λ z. z ++ after) q ∙ append_assoc more others after) n (record { left = AreEqualBy-beginning f (p ++ more) others h'; right = k });
}

pub record AreNested {A K : Type 0} (f : A → K) (Q : List A → Type 0) (ps : List (List A)) : Type 0 where
  pub runs : List (List A)
  pub whole : joined runs ≡ joined ps
  pub longest : AreLongest (AreEqualBy f) runs
  pub cut : AreCutInto Q runs ps

alone : {A : Type 0} (Q : List A → Type 0) (p : List A) → IsLongest Q p [] → IsCut Q p (p ∷ [])
alone Q p l = record { whole = append-nil p; longest = one_more l none }

new_run : {A K : Type 0} (f : A → K) (Q : List A → Type 0) (p : List A) (ps runs : List (List A)) → IsLongest (AreEqualBy f) p (joined runs) → IsLongest Q p [] → joined runs ≡ joined ps → AreLongest (AreEqualBy f) runs → AreCutInto Q runs ps → AreNested f Q (p ∷ ps)
new_run f Q p ps runs l q w a c = record { runs = p ∷ runs; whole = ap (λ z. p ++ z) w; longest = one_more l a; cut = next_run (alone Q p q) c }

nested_step : {A K : Type 0} (f : A → K) (Q : List A → Type 0) → ((x y : A) → (f x ≡ f y) ⊎ (f x ≡ f y → ⊥)) → (p : List A) (ps runs : List (List A)) → IsLongest (IsBoth (AreEqualBy f) Q) p (joined ps) → joined runs ≡ joined ps → AreLongest (AreEqualBy f) runs → AreCutInto Q runs ps → AreNested f Q (p ∷ ps)
nested_step f Q d [] ps runs l w a c = absurd (l.some refl)
nested_step {A} f Q d (x ∷ xs) ps [] l w a c =
    let e : joined ps ≡ [] ++ [] = sym w in
    let h : AreEqualBy f ((x ∷ xs) ++ []) = rw append-nil l.piece.left in
    new_run f Q (x ∷ xs) ps [] (record { some = λ q. cc; piece = l.piece.left; longest = λ more others q n k. nothing_more more others q n }) (within_run f Q (x ∷ xs) [] [] (joined ps) l e h) w none c
nested_step f Q d (x ∷ xs) ps ([] ∷ runs) l w (one_more m a) c = absurd (m.some refl)
nested_step {A} f Q d (x ∷ xs) _ ((y ∷ ys) ∷ runs) l w (one_more m a) (next_run {parts = parts} {others = others} k c) =
    elim (d y x) [
      | inl e ↦ record {
        runs = ((x ∷ xs) ++ y ∷ ys) ∷ runs;
        whole = append_assoc (x ∷ xs) (y ∷ ys) (joined runs) ∙ ap (λ z. (x ∷ xs) ++ z) w;
        longest = one_more (longer_run f x y xs ys (joined runs) e l.piece.left m) a;
        cut = next_run (record { whole = ap (λ z. (x ∷ xs) ++ z) k.whole; longest = one_more (rw k.whole (within_run f Q (x ∷ xs) (y ∷ ys) (joined runs) (joined (parts ++ others)) l (sym w) (AreEqualBy-joined f x y xs ys e l.piece.left m.piece))) k.longest }) c;
      }
      | inr n ↦
          let h : AreEqualBy f ((x ∷ xs) ++ []) = rw append-nil l.piece.left in
          new_run f Q (x ∷ xs) (parts ++ others) ((y ∷ ys) ∷ runs) (ended_run f x y xs (ys ++ joined runs) ((y ∷ ys) ++ joined runs) n l.piece.left refl) (within_run f Q (x ∷ xs) [] (joined (parts ++ others)) (joined (parts ++ others)) l refl h) w (one_more m a) (next_run k c)
    ]

pub nested : {A K : Type 0} (f : A → K) (Q : List A → Type 0) → ((x y : A) → (f x ≡ f y) ⊎ (f x ≡ f y → ⊥)) → (ps : List (List A)) → AreLongest (IsBoth (AreEqualBy f) Q) ps → AreNested f Q ps
nested f Q d [] none = record { runs = []; whole = refl; longest = none; cut = no_run }
nested f Q d (p ∷ ps) (one_more l a) =
    let r = nested f Q d ps a in
    nested_step f Q d p ps r.runs l r.whole r.longest r.cut
