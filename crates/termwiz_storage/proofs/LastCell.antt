-- The last of visible cells: where it stands, its attributes, and how a list of texts ends.
use Rattle.std.proofs.Common.{◌≡◌, ℕ, zero, suc, ◌+◌, ◌<◌, ◌≤◌, List, [], ◌∷◌, ◌++◌, Option, Some, None, length, drop, map, ◌-◌, replicate, refl, sym, ap, ◌∙◌, inl, inr, arith}
use Rattle.std.specs.Prelude.{option_map}
use Rattle.std.specs.List.{last_or, slice_get}
use Rattle.std.proofs.lemmas.Bool.{cases_lt, eq-eqb, ne_eqb}
use Rattle.std.proofs.lemmas.Option.{same_Some}
use Rattle.termwiz_cell.specs.Attributes.{Attributes, default_attributes}
use Rattle.termwiz_cell.specs.CellValue.{CellValue, blank, columns}
use Rattle.termwiz_storage.specs.declared.line.clusterline.runs.AttrsRun.{AttrsRun}
use Rattle.termwiz_storage.specs.declared.line.clusterline.runs.Shape.{Shape}
use Rattle.termwiz_storage.specs.CellRuns.{attrs_of}
use Rattle.termwiz_storage.specs.CellTexts.{texts_of}
use Rattle.termwiz_storage.specs.Clustered.{cell_len, cells_from, first_cell, shown_cells}
use Rattle.termwiz_storage.specs.LastCell.{last_attrs}
use Rattle.termwiz_storage.specs.Stored.{cell_at, stored, visible, visible_from, IsKept}
use Rattle.termwiz_storage.specs.Wrapped.{last_index}
use Rattle.termwiz_storage.proofs.Clustered.{visible-cells_from}
use Rattle.termwiz_storage.specs.VisibleCell.{VisibleCell, at_column}

-- ---- the last of a list

last_or-append : {X : Type 0} (o : Option X) (xs ys : List X) → last_or o (xs ++ ys) ≡ last_or (last_or o xs) ys
last_or-append o [] ys = refl
last_or-append o (x ∷ xs) ys = last_or-append (Some x) xs ys

last_or-copies : {X : Type 0} (n : ℕ) (x : X) → last_or (Some x) (replicate n x) ≡ Some x
last_or-copies zero x = refl
last_or-copies (suc n) x = last_or-copies n x

last_or-run : {X : Type 0} (o : Option X) (n : ℕ) (x : X) → 0 < n → last_or o (replicate n x) ≡ Some x
last_or-run o zero x l = absurd (omega arith)
last_or-run o (suc n) x l = last_or-copies n x

last_or-map : {X Y : Type 0} (f : X → Y) (o : Option X) (xs : List X) → last_or (option_map f o) (map f xs) ≡ option_map f (last_or o xs)
last_or-map f o [] = refl
last_or-map f o (x ∷ xs) = last_or-map f (Some x) xs

pub slice_get-last : {X : Type 0} (xs : List X) → slice_get xs (length xs - 1) ≡ last_or None xs
slice_get-last [] = refl
slice_get-last (x ∷ xs) = let n : suc (length xs) - 1 ≡ length xs = omega arith in rw n (at_end x xs)
  where
    at_end : {X : Type 0} (x : X) (xs : List X) → slice_get (x ∷ xs) (length xs) ≡ last_or (Some x) xs
    at_end x [] = refl
    at_end x (y ∷ xs) = at_end y xs

-- ---- the attributes of the last cell of a text

-- no run is empty
last_run : (o : Option AttrsRun) (rs : List AttrsRun) → last_or (option_map (λ r. r.attrs) o) (attrs_of rs) ≡ option_map (λ r. r.attrs) (last_or o rs)
last_run o [] = refl
last_run o (r ∷ rs) =
    last_or-append (option_map (λ (q : AttrsRun). q.attrs) o) (replicate r.cells r.attrs) (attrs_of rs)
    ∙ ap (λ (a : Option Attributes). last_or a (attrs_of rs)) (last_or-run (option_map (λ (q : AttrsRun). q.attrs) o) r.cells r.attrs r.some)
    ∙ last_run (Some r) rs

attrs-shown : (i : ℕ) (t : List ℕ) (ss : List Shape) (ps : List Attributes) → length ss ≡ length ps → map (λ p. p.cell.attrs) (shown_cells i t ss ps) ≡ ps
attrs-shown i t [] [] e = refl
attrs-shown i t [] (a ∷ ps) e = absurd (omega arith)
attrs-shown i t (s ∷ ss) [] e = absurd (omega arith)
attrs-shown i t (s ∷ ss) (a ∷ ps) e = ap (λ (z : List Attributes). a ∷ z) (attrs-shown (i + columns (first_cell t s a)) (drop (cell_len s t) t) ss ps (omega arith))

pub last_attrs-runs : (cs : List CellValue) (t : List ℕ) (ss : List Shape) (rs : List AttrsRun) → cells_from t ss (attrs_of rs) ≡ cs → length ss ≡ length (attrs_of rs) → option_map (λ r. r.attrs) (slice_get rs (length rs - 1)) ≡ last_attrs (visible cs)
last_attrs-runs cs t ss rs h e =
    ap (option_map (λ (r : AttrsRun). r.attrs)) (slice_get-last rs)
    ∙ sym (last_run None rs)
    ∙ ap (last_or None) (sym (attrs-shown 0 t ss (attrs_of rs) e))
    ∙ last_or-map (λ (p : VisibleCell). p.cell.attrs) None (shown_cells 0 t ss (attrs_of rs))
    ∙ ap last_attrs (visible-cells_from cs t ss (attrs_of rs) h)

-- ---- where the last visible cell stands

abbrev last_cell : Option VisibleCell → List VisibleCell → Option CellValue
last_cell o ps = option_map (λ p. p.cell) (last_or o ps)

-- a walk that passes over all cells shows none
pub walk_none : (i s : ℕ) (cs : List CellValue) → length cs ≤ s → visible_from i s cs ≡ []
walk_none i s [] l = refl
walk_none i zero (c ∷ cs) l = absurd (omega arith)
walk_none i (suc s) (c ∷ cs) l = walk_none (i + 1) s cs (omega arith)

-- the last index is that of the rest, where there is a rest
pub last_index-cons : (i s : ℕ) (p : VisibleCell) (cs : List CellValue) → s < length cs → last_index (p ∷ visible_from i s cs) ≡ last_index (visible_from i s cs)
last_index-cons i s p [] l = absurd (omega arith)
last_index-cons i zero p (c ∷ cs) l = refl
last_index-cons i (suc s) p (c ∷ cs) l = last_index-cons (i + 1) s p cs (omega arith)

walk_reaches : (i s : ℕ) (cs : List CellValue) → s < length cs → i + s ≤ last_index (visible_from i s cs)
walk_reaches i s [] l = absurd (omega arith)
walk_reaches i (suc s) (c ∷ cs) l = omega (arith, walk_reaches (i + 1) s cs (omega arith))
walk_reaches i zero (c ∷ cs) l = elim (cases_lt (columns c - 1) (length cs)) [
  | inl u ↦ omega (arith, last_index-cons (i + 1) (columns c - 1) (at_column i c) cs u, walk_reaches (i + 1) (columns c - 1) cs u)
  | inr u ↦ rw (walk_none (i + 1) (columns c - 1) cs u) (omega arith)
]

last_stored : (o : Option VisibleCell) (i s k : ℕ) (cs : List CellValue) → s < length cs → last_index (visible_from i s cs) ≡ i + k → last_cell o (visible_from i s cs) ≡ Some (stored cs k)
last_stored o i s k [] l e = absurd (omega arith)
last_stored o i (suc s) zero (c ∷ cs) l e = absurd (omega (arith, walk_reaches (i + 1) s cs (omega arith)))
last_stored o i (suc s) (suc k) (c ∷ cs) l e = last_stored o (i + 1) s k cs (omega arith) (omega (arith, e))
last_stored o i zero zero (c ∷ cs) l e = elim (cases_lt (columns c - 1) (length cs)) [
  | inl u ↦ absurd (omega (arith, e, last_index-cons (i + 1) (columns c - 1) (at_column i c) cs u, walk_reaches (i + 1) (columns c - 1) cs u))
  | inr u ↦ rw (walk_none (i + 1) (columns c - 1) cs u) refl
]
last_stored o i zero (suc k) (c ∷ cs) l e = elim (cases_lt (columns c - 1) (length cs)) [
  | inl u ↦ last_stored (Some (at_column i c)) (i + 1) (columns c - 1) k cs u (omega (arith, e, last_index-cons (i + 1) (columns c - 1) (at_column i c) cs u))
  | inr u ↦ let none : i ≡ i + suc k = rw (walk_none (i + 1) (columns c - 1) cs u) at e in absurd (omega (arith, none))
]

attrs-cell : (o : Option VisibleCell) (c : CellValue) → option_map (λ p. p.cell) o ≡ Some c → option_map (λ p. p.cell.attrs) o ≡ Some c.attrs
attrs-cell None c h = cc
attrs-cell (Some p) c h = ap (option_map (λ (d : CellValue). d.attrs)) h

pub last_attrs-stored : (cs : List CellValue) → 0 < length cs → last_attrs (visible cs) ≡ Some (stored cs (last_index (visible cs))).attrs
last_attrs-stored cs l =
    let k : ℕ = last_index (visible cs) in
    attrs-cell (last_or None (visible cs)) (stored cs k) (last_stored None 0 0 k cs l (omega arith))

-- ---- a list that doesn't end with a default blank

-- the visible cell in the last column is the last one
at_end : (o : Option VisibleCell) (i s n : ℕ) (cs : List CellValue) (c : CellValue) → length cs ≡ suc n → cell_at (visible_from i s cs) (i + n) ≡ Some c → last_cell o (visible_from i s cs) ≡ Some c
at_end o i s n [] c e h = absurd (omega arith)
at_end o i zero zero (x ∷ []) c e h = rw (eq-eqb i (i + 0) (omega arith)) at h
at_end o i zero (suc n) (x ∷ []) c e h = absurd (omega arith)
at_end o i zero zero (x ∷ y ∷ ys) c e h = absurd (omega arith)
at_end o i zero (suc n) (x ∷ y ∷ ys) c e h =
    let behind : cell_at (visible_from (i + 1) (columns x - 1) (y ∷ ys)) (i + suc n) ≡ Some c = rw (ne_eqb i (i + suc n) (omega arith)) at h in
    let k : i + suc n ≡ i + 1 + n = omega arith in
    at_end (Some (at_column i x)) (i + 1) (columns x - 1) n (y ∷ ys) c (omega arith) (rw k at behind)
at_end o i (suc s) zero (x ∷ []) c e h = cc
at_end o i (suc s) (suc n) (x ∷ []) c e h = absurd (omega arith)
at_end o i (suc s) zero (x ∷ y ∷ ys) c e h = absurd (omega arith)
at_end o i (suc s) (suc n) (x ∷ y ∷ ys) c e h =
    let k : i + suc n ≡ i + 1 + n = omega arith in
    at_end o (i + 1) s n (y ∷ ys) c (omega arith) (rw k at h)

IsKept-whole : (cs : List CellValue) → (last_cell None (visible cs) ≡ Some blank → ⊥) → IsKept cs (length cs)
IsKept-whole cs h = record {
  within = omega arith;
  blank_after = λ x l b. absurd (omega arith);
  least = λ j f. elim (cases_lt j (length cs)) [
    | inr g ↦ g
    | inl g ↦
        let n : ℕ = length cs - 1 in
        let k : 0 + n ≡ n = omega arith in
        absurd (h (at_end None 0 0 n cs blank (omega arith) (rw k (f n (omega arith) (omega arith)))))
  ];
}

text-blank : (b : Option ℕ) (o : Option VisibleCell) (ps : List VisibleCell) → (option_map (λ p. p.cell) o ≡ Some blank → b ≡ Some 32) → last_cell o ps ≡ Some blank → last_or b (texts_of ps) ≡ Some 32
text-blank b o [] f h = f h
text-blank b o (p ∷ ps) f h =
    last_or-append b p.cell.text (texts_of ps)
    ∙ text-blank (last_or b p.cell.text) (Some p) ps (λ e. ap (λ (c : CellValue). last_or b c.text) (same_Some p.cell blank e)) h

pub IsKept-attrs : (cs : List CellValue) → (last_attrs (visible cs) ≡ Some default_attributes → ⊥) → IsKept cs (length cs)
IsKept-attrs cs n = IsKept-whole cs (λ h. n (attrs-cell (last_or None (visible cs)) blank h))

pub IsKept-text : (cs : List CellValue) → (last_or None (texts_of (visible cs)) ≡ Some 32 → ⊥) → IsKept cs (length cs)
IsKept-text cs n = IsKept-whole cs (λ h. n (text-blank None None (visible cs) (λ e. cc) h))
