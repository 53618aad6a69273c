-- Keys that ascend.
use Rattle.std.proofs.Common.{◌≡◌, ℕ, suc, ◌-◌, true, List, [], ◌∷◌, ◌++◌, length, Some, String, string_bytes, map, refl, ap, subst, ◌∙◌, arith}
use Rattle.std.proofs.lemmas.Cmp.{nat_list_cmp_total}
use Rattle.std.specs.Cmp.Lexicographic.{slice_cmp}
use Rattle.std.specs.List.{AllByRecursion, slice_get}
use Rattle.std.specs.List.Sorted.{IsStrictlySortedBy}
use Rattle.std.specs.Ordering.{nat_cmp, is_lt, ordering_reverse}
use Rattle.std.specs.declared.cmp.Ordering.{Ordering}
use Rattle.std.specs.declared.cmp.Ordering.TheVariants.{Less, Equal, Greater}
use Rattle.termwiz_cell.proofs.ParamOrder.{insert_entry-last, sorted-insert_entry, Greater-from_sorted}
use Rattle.termwiz_cell.specs.Link.{param_bytes}
use Rattle.termwiz_cell.specs.LinkPairs.{with_pair}
use Rattle.termwiz_cell.specs.LinkText.{AreInOrder}
use Rattle.termwiz_wire.specs.Decoding.{ascends}

abbrev Param : Type 0
Param = List ℕ × List ℕ

abbrev key_cmp : List ℕ → List ℕ → Ordering
key_cmp a b = slice_cmp nat_cmp a b

less_from : (r : Ordering) → is_lt r ≡ true → r ≡ Less
less_from Less e = refl
less_from Equal e = cc
less_from Greater e = cc

above : (a b : List ℕ) → key_cmp a b ≡ Less → key_cmp b a ≡ Greater
above a b less = nat_list_cmp_total.antisymm b a ∙ ap ordering_reverse less

below : (a b : List ℕ) → key_cmp a b ≡ Greater → key_cmp b a ≡ Less
below a b greater = nat_list_cmp_total.antisymm b a ∙ ap ordering_reverse greater

-- a key that is above the last one is above each
above-all : (ps : List Param) (key : List ℕ) → AreInOrder ps → ascends ps key ≡ true → AllByRecursion (λ p. key_cmp key p.0 ≡ Greater) ps
unfolding IsStrictlySortedBy
above-all [] key sorted e = tt
above-all (p ∷ []) key sorted e = (above p.0 key (less_from (key_cmp p.0 key) e), tt)
above-all (p ∷ q ∷ ps) key sorted e =
    let more = above-all (q ∷ ps) key sorted.1 e in
    (above p.0 key (nat_list_cmp_total.trans p.0 q.0 key sorted.0.0 (below key q.0 more.0)), more)

ascends-above : (ps : List Param) (key : List ℕ) → AllByRecursion (λ p. key_cmp key p.0 ≡ Greater) ps → ascends ps key ≡ true
ascends-above [] key all = refl
ascends-above (p ∷ []) key all = ap is_lt (below key p.0 all.0)
ascends-above (p ∷ q ∷ ps) key all = ascends-above (q ∷ ps) key all.1

-- in order, each key is above the last one before it
pub ascends-from_order : (made : List Param) (p : Param) (more : List Param) → AreInOrder (made ++ p ∷ more) → ascends made p.0 ≡ true
ascends-from_order made p more sorted = ascends-above made p.0 (Greater-from_sorted nat_list_cmp_total made p more sorted)

-- a param whose key is above the last one goes to the end, and the keys stay in order
pub put-last : (ps : List Param) (p : Param) → AreInOrder ps → ascends ps p.0 ≡ true → with_pair ps p ≡ ps ++ p ∷ []
put-last ps p sorted e = insert_entry-last nat_list_cmp_total p.0 p.1 ps (above-all ps p.0 sorted e)

pub order-push : (ps : List Param) (p : Param) → AreInOrder ps → ascends ps p.0 ≡ true → AreInOrder (ps ++ p ∷ [])
order-push ps p sorted e = subst (λ (qs : List Param). AreInOrder qs) (put-last ps p sorted e) (sorted-insert_entry nat_list_cmp_total p.0 p.1 ps sorted)

-- the last entry of a map has the last key
pub last-ascends : {A : Type 0} (es : List (String A × String A)) (last : String A × String A) (key : List ℕ) → slice_get es (length es - 1) ≡ Some last → ascends (map param_bytes es) key ≡ is_lt (slice_cmp nat_cmp (string_bytes last.0) key)
last-ascends [] last key e = cc
last-ascends (x ∷ []) last key e = cc
last-ascends {A = A} (x ∷ y ∷ es) last key e =
    let shorter : suc (suc (length es)) - 1 ≡ suc (length es) = omega arith in
    let same : suc (length es) - 1 ≡ length es = omega arith in
    last-ascends (y ∷ es) last key (ap (slice_get (y ∷ es)) same ∙ subst (λ (n : ℕ). slice_get (x ∷ y ∷ es) n ≡ Some last) shorter e)
