-- Runs that grow, and copies of runs.
use Rattle.std.proofs.Common.{◌≡◌, ℕ, zero, suc, ◌+◌, ◌-◌, ◌<◌, ◌≤◌, List, [], ◌∷◌, ◌++◌, Some, replicate, set, length, get_or, drop, refl, ap, ap₂, sym, ◌∙◌, append_assoc, arith}
use Rattle.std.proofs.lemmas.List.{replicate-append-replicate, append-nil, at_drop_more}
use Rattle.std.proofs.lemmas.Grind.{flat_map-append}
use Rattle.std.specs.List.{flat_map, slice_get, AllZip}
use Rattle.termwiz_cell.specs.Attributes.{Attributes}
use Rattle.termwiz_storage.specs.declared.line.clusterline.runs.AttrsRun.{AttrsRun}
use Rattle.termwiz_storage.specs.CellRuns.{AddsAttrs, attrs_of, same_run}

-- a run at the end that is longer is more values
pub longer_last : {R X : Type 0} (n : R → ℕ) (v : R → X) (rs : List R) (i m : ℕ) (r d : R) → length rs ≡ i + 1 → v r ≡ v (get_or rs i d) → n r ≡ n (get_or rs i d) + m → flat_map (λ r. replicate (n r) (v r)) (set rs i r) ≡ flat_map (λ r. replicate (n r) (v r)) rs ++ replicate m (v r)
longer_last n v [] i m r d l e f = absurd (omega arith)
longer_last {R} {X} n v (x ∷ []) zero m r d l e f =
    let more : replicate (n r) (v r) ≡ replicate (n x) (v x) ++ replicate m (v r) = rw (f, e) (sym (replicate-append-replicate (n x) m (v x))) in
    append-nil (replicate (n r) (v r)) ∙ more ∙ ap (λ (z : List X). z ++ replicate m (v r)) (sym (append-nil (replicate (n x) (v x))))
longer_last n v (x ∷ y ∷ rs) zero m r d l e f = absurd (omega arith)
longer_last n v (x ∷ []) (suc i) m r d l e f = absurd (omega arith)
longer_last {R} {X} n v (x ∷ y ∷ rs) (suc i) m r d l e f =
    ap (λ (z : List X). replicate (n x) (v x) ++ z) (longer_last n v (y ∷ rs) i m r d (omega arith) e f)
    ∙ sym (append_assoc (replicate (n x) (v x)) (flat_map (λ (r : R). replicate (n r) (v r)) (y ∷ rs)) (replicate m (v r)))

-- the last of a list
pub last_read : {X : Type 0} (front : List X) (x d : X) (i : ℕ) → length front ≡ i → get_or (front ++ x ∷ []) i d ≡ x
last_read [] x d i e = rw (← e) refl
last_read (y ∷ front) x d zero e = absurd (omega arith)
last_read (y ∷ front) x d (suc i) e = last_read front x d i (omega arith)

-- a run of as many cells with the same attributes in a run's place
pub attrs_of-set_same : (rs : List AttrsRun) (i : ℕ) (r d : AttrsRun) → same_run (get_or rs i d) r → attrs_of (set rs i r) ≡ attrs_of rs
attrs_of-set_same [] i r d same = refl
attrs_of-set_same (x ∷ xs) zero r d same = ap₂ (λ (n : ℕ) (a : Attributes). replicate n a ++ attrs_of xs) same.1 same.0
attrs_of-set_same (x ∷ xs) (suc i) r d same = ap (λ (ys : List Attributes). replicate x.cells x.attrs ++ ys) (attrs_of-set_same xs i r d same)

-- copies of runs are runs of the same attributes
pub attrs_of-copied : (rs qs : List AttrsRun) → AllZip same_run rs qs → attrs_of qs ≡ attrs_of rs
attrs_of-copied [] [] h = refl
attrs_of-copied [] (q ∷ qs) h = absurd h
attrs_of-copied (r ∷ rs) [] h = absurd h
attrs_of-copied (r ∷ rs) (q ∷ qs) h =
    ap₂ (λ (xs ys : List Attributes). xs ++ ys) (ap₂ (λ (n : ℕ) (a : Attributes). replicate n a) h.0.1 h.0.0) (attrs_of-copied rs qs h.1)

-- a value in a run, and after it
pub get_in_run : {X : Type 0} (n k : ℕ) (x : X) (ys : List X) → k < n → slice_get (replicate n x ++ ys) k ≡ Some x
get_in_run zero k x ys l = absurd (omega arith)
get_in_run (suc n) zero x ys l = refl
get_in_run (suc n) (suc k) x ys l = get_in_run n k x ys (omega arith)

pub get_behind_run : {X : Type 0} (n k : ℕ) (x : X) (ys : List X) → n ≤ k → slice_get (replicate n x ++ ys) k ≡ slice_get ys (k - n)
get_behind_run zero k x ys l = let e : k ≡ k - 0 = omega arith in ap (slice_get ys) e
get_behind_run (suc n) zero x ys l = absurd (omega arith)
get_behind_run (suc n) (suc k) x ys l = let e : k - n ≡ suc k - suc n = omega arith in get_behind_run n k x ys (omega arith) ∙ ap (slice_get ys) e

-- the runs from one on
pub attrs_of-drop : (rs : List AttrsRun) (i : ℕ) (r : AttrsRun) → i < length rs → r ≡ get_or rs i r → attrs_of (drop i rs) ≡ replicate r.cells r.attrs ++ attrs_of (drop (i + 1) rs)
attrs_of-drop rs i r l e = at_drop_more attrs_of rs i r l ∙ ap (λ (q : AttrsRun). attrs_of (q ∷ drop (i + 1) rs)) (sym e)

-- one more run
pub attrs_of-push : (rs : List AttrsRun) (r : AttrsRun) → AddsAttrs rs r.cells r.attrs (rs ++ r ∷ [])
attrs_of-push rs r =
    flat_map-append (λ (q : AttrsRun). replicate q.cells q.attrs) rs (r ∷ [])
    ∙ ap (λ (z : List Attributes). attrs_of rs ++ z) (append-nil (replicate r.cells r.attrs))

-- the first of the runs that are left has come to the others
pub joined_more : (old new left rest : List AttrsRun) (all : List Attributes) (r : AttrsRun) → AddsAttrs old r.cells r.attrs new → left ≡ r ∷ rest → attrs_of old ++ attrs_of left ≡ all → attrs_of new ++ attrs_of rest ≡ all
joined_more old new left rest all r added e h =
    ap (λ (z : List Attributes). z ++ attrs_of rest) added
    ∙ append_assoc (attrs_of old) (replicate r.cells r.attrs) (attrs_of rest)
    ∙ ap (λ (rs : List AttrsRun). attrs_of old ++ attrs_of rs) (sym e)
    ∙ h

pub no_runs : (rs : List AttrsRun) → length rs ≡ 0 → rs ≡ []
no_runs [] e = refl
no_runs (r ∷ rs) e = absurd (omega arith)
