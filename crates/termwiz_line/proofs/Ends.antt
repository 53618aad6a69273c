-- The beginnings and ends of lists.
use Rattle.std.proofs.Common.{◌≡◌, ◌≢◌, List, [], ◌∷◌, ◌++◌, length, refl, ap, subst}
use Rattle.std.proofs.Math.Seq.{take-append_seam, drop-append_seam}
use Rattle.std.specs.List.{All}
use Rattle.std.proofs.lemmas.List.Elements.{All-head, All-tail, All-take, All-drop}

pub All-beginning : {A : Type 0} (P : A → Type 0) (xs ys : List A) → All P (xs ++ ys) → All P xs
All-beginning {A} P xs ys h = subst (λ (z : List A). All P z) (take-append_seam xs ys) (All-take P (length xs) (xs ++ ys) h)

pub All-end : {A : Type 0} (P : A → Type 0) (xs ys : List A) → All P (xs ++ ys) → All P ys
All-end {A} P xs ys h = subst (λ (z : List A). All P z) (drop-append_seam xs ys) (All-drop P (length xs) (xs ++ ys) h)

pub All-last : {A : Type 0} (P : A → Type 0) (xs : List A) (x : A) → All P (xs ++ x ∷ []) → P x
All-last P [] x h = All-head P x [] h
All-last P (y ∷ ys) x h = All-last P ys x (All-tail P y (ys ++ x ∷ []) h)

pub last_same : {A : Type 0} (xs ys : List A) (x y : A) → xs ++ x ∷ [] ≡ ys ++ y ∷ [] → x ≡ y
last_same [] [] x y e = cc
last_same [] (b ∷ []) x y e = cc
last_same [] (b ∷ c ∷ ys) x y e = cc
last_same (a ∷ []) [] x y e = cc
last_same (a ∷ c ∷ xs) [] x y e = cc
last_same (a ∷ xs) (b ∷ ys) x y e = last_same xs ys x y (cc)

pub init_same : {A : Type 0} (xs ys : List A) (x y : A) → xs ++ x ∷ [] ≡ ys ++ y ∷ [] → xs ≡ ys
init_same [] [] x y e = refl
init_same [] (b ∷ []) x y e = cc
init_same [] (b ∷ c ∷ ys) x y e = cc
init_same (a ∷ []) [] x y e = cc
init_same (a ∷ c ∷ xs) [] x y e = cc
init_same {A} (a ∷ xs) (b ∷ ys) x y e =
    let r : xs ≡ ys = init_same xs ys x y (cc) in
    let h : a ≡ b = cc in
    cc

-- a list with an element has a last one
pub split_last : {A : Type 0} (y : A) (ys : List A) → (init : List A) × (last : A) × (y ∷ ys ≡ init ++ last ∷ [])
split_last y [] = ([], y, refl)
split_last y (z ∷ zs) = let r = split_last z zs in (y ∷ r.0, r.1, ap (λ w. y ∷ w) r.2)

pub not_nil-append : {A : Type 0} (xs : List A) (y : A) (ys : List A) → xs ++ y ∷ ys ≢ []
not_nil-append [] y ys = λ e. cc
not_nil-append (x ∷ xs) y ys = λ e. cc

pub nothing_more : {A : Type 0} (more others : List A) → [] ≡ more ++ others → more ≢ [] → ⊥
nothing_more [] others e n = n refl
nothing_more (x ∷ xs) others e n = cc
