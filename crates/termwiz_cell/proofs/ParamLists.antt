-- The parts of a params text, and the pairs put one after another.
use Rattle.std.proofs.Common.{◌≡◌, ℕ, List, [], ◌∷◌, ◌++◌, ◌==◌, false, map, length, refl, ap, sym, ◌∙◌, append_assoc, string_bytes, String}
use Rattle.std.specs.BTreeMap.{insert_entry}
use Rattle.std.specs.Cmp.Lexicographic.{slice_cmp}
use Rattle.std.specs.List.{AllByRecursion, fold, slice_split}
use Rattle.std.specs.List.Sorted.{IsStrictlySortedBy}
use Rattle.std.specs.Map.{keys_of}
use Rattle.std.specs.Ordering.{nat_cmp, match_ordering}
use Rattle.std.specs.String.{string_cmp}
use Rattle.std.specs.declared.cmp.Ordering.{Ordering}
use Rattle.std.specs.declared.cmp.Ordering.TheVariants.{Less, Equal, Greater}
use Rattle.termwiz_cell.specs.Link.{param_bytes}
use Rattle.termwiz_cell.specs.LinkPairs.{pair_of, with_pair, params_from}
use Rattle.termwiz_cell.specs.LinkText.{AreInOrder, params_parts, pair_text, params_text}

-- the parts of a text that is not empty
pub params_parts-some : (text : List ℕ) → false ≡ (length text == 0) → params_parts text ≡ slice_split (λ c. c == 58) text
params_parts-some [] some = cc
params_parts-some (b ∷ bs) some = refl

-- a function of what an order picks
match_ordering-ap : {A B : Type 0} (f : A → B) (o : Ordering) (x y z : A) → f (match_ordering o x y z) ≡ match_ordering o (f x) (f y) (f z)
match_ordering-ap f Less x y z = refl
match_ordering-ap f Equal x y z = refl
match_ordering-ap f Greater x y z = refl

-- a pair of texts put into a map is their bytes put into its params
pub params_insert_entry : {A : Type 0} (es : List (String A × String A)) (key value : String A) → map param_bytes (insert_entry string_cmp es key value) ≡ with_pair (map param_bytes es) (string_bytes key, string_bytes value)
params_insert_entry [] key value = refl
params_insert_entry (e ∷ es) key value =
    match_ordering-ap (map param_bytes) (string_cmp key e.0) _ _ _
    ∙ ap (λ more. match_ordering (string_cmp key e.0) ((string_bytes key, string_bytes value) ∷ param_bytes e ∷ map param_bytes es) ((string_bytes e.0, string_bytes value) ∷ map param_bytes es) (param_bytes e ∷ more)) (params_insert_entry es key value)

-- the params that parts make, with one more part
fold-push : {A : Type 0} (f : A → List ℕ) (start : List (List ℕ × List ℕ)) (xs : List A) (x : A) → fold with_pair start (map pair_of (map f (xs ++ x ∷ []))) ≡ with_pair (fold with_pair start (map pair_of (map f xs))) (pair_of (f x))
fold-push f start [] x = refl
fold-push f start (y ∷ xs) x = fold-push f (with_pair start (pair_of (f y))) xs x

pub params_from-push : {A : Type 0} (f : A → List ℕ) (xs : List A) (x : A) → params_from (map pair_of (map f (xs ++ x ∷ []))) ≡ with_pair (params_from (map pair_of (map f xs))) (pair_of (f x))
params_from-push f xs x = fold-push f [] xs x

-- what stands between the params so far and the next
abbrev pub separator_after : {A : Type 0} → List A → List ℕ
separator_after [] = []
separator_after (x ∷ xs) = 58 ∷ []

-- after some param it is `:`
pub separator_after-push : {A : Type 0} (xs : List A) (x : A) → separator_after (xs ++ x ∷ []) ≡ 58 ∷ []
separator_after-push [] x = refl
separator_after-push (y ∷ xs) x = refl

params_text-cons : {A B : Type 0} (f : B → List ℕ × List ℕ) (g : A → B) (xs : List A) (x : A) → params_text (map f (map g (xs ++ x ∷ []))) ≡ params_text (map f (map g xs)) ++ (separator_after xs ++ pair_text (f (g x)))
params_text-cons f g [] x = refl
params_text-cons f g (y ∷ []) x = refl
params_text-cons f g (y ∷ z ∷ xs) x =
    ap (λ more. pair_text (f (g y)) ++ 58 ∷ more) (params_text-cons f g (z ∷ xs) x)
    ∙ sym (append_assoc (pair_text (f (g y))) (58 ∷ params_text (map f (map g (z ∷ xs)))) (58 ∷ pair_text (f (g x))))

-- the text of params with one more: the text so far, what separates, and the pair
pub params_text-push : {A B : Type 0} (f : B → List ℕ × List ℕ) (g : A → B) (xs : List A) (x : A) (separator : List ℕ) → separator ≡ separator_after xs → params_text (map f (map g xs)) ++ (separator ++ pair_text (f (g x))) ≡ params_text (map f (map g (xs ++ x ∷ [])))
params_text-push f g xs x separator is =
    ap (λ s. params_text (map f (map g xs)) ++ (s ++ pair_text (f (g x)))) is ∙ sym (params_text-cons f g xs x)

-- the keys of a map ascend, by their bytes too
keys-below : {A : Type 0} (key : String A) (es : List (String A × String A)) → AllByRecursion (λ k. string_cmp key k ≡ Less) (keys_of es) → AllByRecursion (λ k. slice_cmp nat_cmp (string_bytes key) k ≡ Less) (keys_of (map param_bytes es))
keys-below key [] below = tt
keys-below key (e ∷ es) below = (below.0, keys-below key es below.1)

pub in-order : {A : Type 0} (es : List (String A × String A)) → IsStrictlySortedBy string_cmp (keys_of es) → AreInOrder (map param_bytes es)
unfolding IsStrictlySortedBy
in-order [] sorted = tt
in-order (e ∷ es) sorted = (keys-below e.0 es sorted.0, in-order es sorted.1)
