-- One more entry in a list that stands in the order of its keys: what a look-up finds, and that the order stays.
use Rattle.std.proofs.Common.{◌≡◌, Bool, true, false, cond, ◌&&◌, T, List, [], ◌∷◌, ◌++◌, Some, refl, ap, sym, ◌∙◌, subst, append_assoc, append-nil}
use Rattle.std.proofs.lemmas.Cmp.{alike_right}
use Rattle.std.specs.BTreeMap.{insert_entry}
use Rattle.std.specs.Cmp.{IsTotalOrder}
use Rattle.std.specs.FinMap.Entries.{below_all, find, is_sorted, same_entries}
use Rattle.std.specs.List.{AllByRecursion, fold}
use Rattle.std.specs.List.Sorted.{IsStrictlySortedBy}
use Rattle.std.specs.Map.{keys_of, lookup}
use Rattle.std.specs.Ordering.{eq_by_cmp, is_eq, is_lt, match_ordering, ordering_reverse}
use Rattle.std.specs.declared.cmp.Ordering.{Ordering}
use Rattle.std.specs.declared.cmp.Ordering.TheVariants.{Less, Equal, Greater}

-- what is below a key is below what is above it
above : {K : Type 0} {R : K → K → Ordering} (o : IsTotalOrder R) (x y : K) (ks : List K) → R x y ≡ Less → AllByRecursion (λ z. R y z ≡ Less) ks → AllByRecursion (λ z. R x z ≡ Less) ks
above o x y [] below all = tt
above o x y (z ∷ ks) below all = (o.trans x y z below all.0, above o x y ks below all.1)

module _ {K X : Type 0} {R : K → K → Ordering} (o : IsTotalOrder R) (k : K) (v : X) where
  -- what a look-up finds after the entry is put
  put_at : (q : K) (e : K × X) (es more : List (K × X)) (r : Ordering) → R k e.0 ≡ r → lookup (eq_by_cmp R q) more ≡ cond (eq_by_cmp R q k) (Some v) (lookup (eq_by_cmp R q) es) → lookup (eq_by_cmp R q) (match_ordering r ((k, v) ∷ e ∷ es) ((e.0, v) ∷ es) (e ∷ more)) ≡ cond (eq_by_cmp R q k) (Some v) (lookup (eq_by_cmp R q) (e ∷ es))
  put_at q e es more Less is rest = refl
  put_at q e es more Equal is rest =
      ap (λ (b : Ordering). cond (is_eq b) (Some v) (lookup (eq_by_cmp R q) es)) (sym (alike_right o k e.0 q is)) ∙ twice (eq_by_cmp R q k) (eq_by_cmp R q e.0) (ap is_eq (alike_right o k e.0 q is))
    where
      twice : (a b : Bool) → a ≡ b → cond a (Some v) (lookup (eq_by_cmp R q) es) ≡ cond a (Some v) (cond b (Some e.1) (lookup (eq_by_cmp R q) es))
      twice true b same = refl
      twice false true same = cc
      twice false false same = refl
  put_at q e es more Greater is rest = ap (λ found. cond (eq_by_cmp R q e.0) (Some e.1) found) rest ∙ swap (R q k) refl
    where
      swap : (r : Ordering) → R q k ≡ r → cond (eq_by_cmp R q e.0) (Some e.1) (cond (is_eq r) (Some v) (lookup (eq_by_cmp R q) es)) ≡ cond (is_eq r) (Some v) (cond (eq_by_cmp R q e.0) (Some e.1) (lookup (eq_by_cmp R q) es))
      swap Less same = refl
      swap Equal same = ap (λ (b : Ordering). cond (is_eq b) (Some e.1) (Some v)) (o.congr q k e.0 same ∙ is)
      swap Greater same = refl

  pub lookup-insert_entry : (q : K) (es : List (K × X)) → lookup (eq_by_cmp R q) (insert_entry R es k v) ≡ cond (eq_by_cmp R q k) (Some v) (lookup (eq_by_cmp R q) es)
  lookup-insert_entry q [] = refl
  lookup-insert_entry q (e ∷ es) = put_at q e es (insert_entry R es k v) (R k e.0) refl (lookup-insert_entry q es)

  -- what holds of each key holds after the entry is put, if it holds of its key
  keys_at : (P : K → Type 0) (e : K × X) (es more : List (K × X)) (r : Ordering) → P k → AllByRecursion P (keys_of (e ∷ es)) → AllByRecursion P (keys_of more) → AllByRecursion P (keys_of (match_ordering r ((k, v) ∷ e ∷ es) ((e.0, v) ∷ es) (e ∷ more)))
  keys_at P e es more Less here all rest = (here, all)
  keys_at P e es more Equal here all rest = all
  keys_at P e es more Greater here all rest = (all.0, rest)

  all_keys : (P : K → Type 0) (es : List (K × X)) → P k → AllByRecursion P (keys_of es) → AllByRecursion P (keys_of (insert_entry R es k v))
  all_keys P [] here all = (here, all)
  all_keys P (e ∷ es) here all = keys_at P e es (insert_entry R es k v) (R k e.0) here all (all_keys P es here all.1)

  -- the keys stay in order
  sorted_at : (e : K × X) (es : List (K × X)) (r : Ordering) → R k e.0 ≡ r → IsStrictlySortedBy R (keys_of (e ∷ es)) → IsStrictlySortedBy R (keys_of (insert_entry R es k v)) → IsStrictlySortedBy R (keys_of (match_ordering r ((k, v) ∷ e ∷ es) ((e.0, v) ∷ es) (e ∷ insert_entry R es k v)))
  unfolding IsStrictlySortedBy
  sorted_at e es Less is sorted rest = ((is, above o k e.0 (keys_of es) is sorted.0), sorted)
  sorted_at e es Equal is sorted rest = sorted
  sorted_at e es Greater is sorted rest = (all_keys (λ y. R e.0 y ≡ Less) es (o.antisymm e.0 k ∙ ap ordering_reverse is) sorted.0, rest)

  pub sorted-insert_entry : (es : List (K × X)) → IsStrictlySortedBy R (keys_of es) → IsStrictlySortedBy R (keys_of (insert_entry R es k v))
  unfolding IsStrictlySortedBy
  sorted-insert_entry [] sorted = (tt, tt)
  sorted-insert_entry (e ∷ es) sorted = sorted_at e es (R k e.0) refl sorted (sorted-insert_entry es sorted.1)

  -- above every key, the entry goes to the end
  last_at : (e : K × X) (es : List (K × X)) (r : Ordering) → r ≡ Greater → insert_entry R es k v ≡ es ++ (k, v) ∷ [] → match_ordering r ((k, v) ∷ e ∷ es) ((e.0, v) ∷ es) (e ∷ insert_entry R es k v) ≡ e ∷ es ++ (k, v) ∷ []
  last_at e es Less is rest = cc
  last_at e es Equal is rest = cc
  last_at e es Greater is rest = ap (λ more. e ∷ more) rest

  pub insert_entry-last : (es : List (K × X)) → AllByRecursion (λ e. R k e.0 ≡ Greater) es → insert_entry R es k v ≡ es ++ (k, v) ∷ []
  insert_entry-last [] above = refl
  insert_entry-last (e ∷ es) above = last_at e es (R k e.0) above.0 (insert_entry-last es above.1)

-- in order, an entry is above each that stands before it
pub Greater-from_sorted : {K X : Type 0} {R : K → K → Ordering} (o : IsTotalOrder R) (es : List (K × X)) (e : K × X) (more : List (K × X)) → IsStrictlySortedBy R (keys_of (es ++ e ∷ more)) → AllByRecursion (λ x. R e.0 x.0 ≡ Greater) es
unfolding IsStrictlySortedBy
Greater-from_sorted o [] e more sorted = tt
Greater-from_sorted {K = K} {X = X} {R = R} o (x ∷ es) e more sorted =
    (o.antisymm e.0 x.0 ∙ ap ordering_reverse (at es sorted.0), Greater-from_sorted o es e more sorted.1)
  where
    at : (ys : List (K × X)) → AllByRecursion (λ z. R x.0 z ≡ Less) (keys_of (ys ++ e ∷ more)) → R x.0 e.0 ≡ Less
    at [] all = all.0
    at (y ∷ ys) all = at ys all.1

-- entries in order, put one after another, stand as they came
pub fold-sorted : {K X : Type 0} {R : K → K → Ordering} (o : IsTotalOrder R) (done left : List (K × X)) → IsStrictlySortedBy R (keys_of (done ++ left)) → fold (λ es e. insert_entry R es e.0 e.1) done left ≡ done ++ left
fold-sorted o done [] sorted = sym (append-nil done)
fold-sorted {R = R} o done (e ∷ left) sorted =
    ap (λ es. fold (λ es e. insert_entry R es e.0 e.1) es left) (insert_entry-last o e.0 e.1 done (Greater-from_sorted o done e left sorted))
    ∙ fold-sorted o (done ++ e ∷ []) left (subst (λ es. IsStrictlySortedBy R (keys_of es)) (sym (append_assoc done (e ∷ []) left)) sorted)
    ∙ append_assoc done (e ∷ []) left

-- two lists in order that each look-up finds alike are equal
below-test : {K X : Type 0} (R : K → K → Ordering) (k : K) (es : List (K × X)) → AllByRecursion (λ y. R k y ≡ Less) (keys_of es) → below_all R k es ≡ true
below-test R k [] below = refl
below-test R k (e ∷ es) below = ap (λ r. is_lt r && below_all R k es) below.0 ∙ below-test R k es below.1

sorted-test : {K X : Type 0} (R : K → K → Ordering) (es : List (K × X)) → IsStrictlySortedBy R (keys_of es) → is_sorted R es ≡ true
unfolding IsStrictlySortedBy
sorted-test R [] sorted = refl
sorted-test R (e ∷ es) sorted = ap (λ b. b && is_sorted R es) (below-test R e.0 es sorted.0) ∙ sorted-test R es sorted.1

found-test : {K X : Type 0} (R : K → K → Ordering) (q : K) (es : List (K × X)) → find R q es ≡ lookup (eq_by_cmp R q) es
found-test R q [] = refl
found-test R q (e ∷ es) = ap (λ found. cond (eq_by_cmp R q e.0) (Some e.1) found) (found-test R q es)

pub entries-same : {K X : Type 0} {R : K → K → Ordering} (o : IsTotalOrder R) → ((x y : K) → R x y ≡ Equal → x ≡ y) → (es fs : List (K × X)) → IsStrictlySortedBy R (keys_of es) → IsStrictlySortedBy R (keys_of fs) → ((q : K) → lookup (eq_by_cmp R q) es ≡ lookup (eq_by_cmp R q) fs) → es ≡ fs
entries-same {R = R} o exact es fs sorted ordered alike =
    same_entries R o exact es fs (subst T (sym (sorted-test R es sorted)) tt) (subst T (sym (sorted-test R fs ordered)) tt)
    (λ q. found-test R q es ∙ alike q ∙ sym (found-test R q fs))
