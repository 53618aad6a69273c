-- Stored cells that are removed, inserted, and copied.
use Rattle.std.proofs.Common.{suc, zero, min, drop-cons, add-one, ◌≡◌, ℕ, ◌+◌, ◌-◌, ◌<◌, ◌≤◌, inl, inr, Bool, true, false, cond, not, ◌&&◌, List, [], ◌∷◌, ◌++◌, length, get_or, take, drop, replicate, refl, sym, ◌∙◌, ap, arith, append_assoc, length-drop}
use Rattle.std.specs.List.{AllClonesOf, AppendsClonesOf, filter, insert, insert_slice, refill, remove}
use borrow.Rule.Slice.PartMut.{put_mid}
use Rattle.std.specs.Prelude.{nat_le}
use Rattle.std.proofs.lemmas.Bool.{cases_Bool, cases_lt, le-leb, lt-leb, lt-ltb, le-ltb}
use Rattle.std.proofs.Math.ListN.{drop_of_length-le}
use Rattle.std.proofs.lemmas.List.{get_or_append_left, get_or-append_right, length-take-le, take-take, take_at}
use Rattle.std.proofs.lemmas.List.Edits.{length-insert, length-remove, get_or-remove_above, get_or-remove_below}
use Rattle.termwiz_cell.specs.CellValue.{CellValue, blank, is_wide, columns}
use Rattle.termwiz_storage.specs.Edits.{begins_within, columns_between, removed_at_margin, with_half, with_halves}
use Rattle.termwiz_storage.specs.Stored.{visible, visible_from}
use Rattle.termwiz_storage.specs.Used.{IsUsedTo}
use Rattle.termwiz_storage.specs.VisibleCell.{at_column}

-- clones of a cell are that cell
copies_same : (c : CellValue) (cs : List CellValue) → AllClonesOf (λ a b. b ≡ a) c cs → cs ≡ replicate (length cs) c
copies_same c [] h = refl
copies_same c (d ∷ ds) h =
    let e : d ≡ c = elim h.0 [ inl e ↦ e | inr e ↦ e ] in
    let r : ds ≡ replicate (length ds) c = copies_same c ds h.1 in
    λ i. e i ∷ r i

take-none : (n : ℕ) → take {A = CellValue} n [] ≡ []
take-none zero = refl
take-none (suc n) = refl

pub copies-made : (n : ℕ) (c : CellValue) (old new : List CellValue) → old ≡ [] → length new ≡ n → AppendsClonesOf (λ a b. b ≡ a) (take n old) new c → new ≡ replicate n c
copies-made n c old new e l h =
    let same : new ≡ h.0 = h.1 ∙ ap (λ xs. take n xs ++ h.0) e ∙ ap (λ xs. xs ++ h.0) (take-none n) in
    same ∙ copies_same c h.0 h.2 ∙ ap (λ k. replicate k c) (sym (ap length same) ∙ l)

-- cells that move to the left
pub used-remove : (u x : ℕ) (cs : List CellValue) → x < length cs → IsUsedTo u cs → IsUsedTo u (remove cs x)
used-remove u x cs l h = record {
  rest = λ y m. elim (cases_lt y x) [
    | inr g ↦ get_or-remove_above cs x blank y g l ∙ h.rest (y + 1) (omega arith)
    | inl g ↦ get_or-remove_below cs x blank y g l ∙ h.rest y m
  ];
}

pub used-blank : (u : ℕ) (cs : List CellValue) → IsUsedTo u cs → IsUsedTo u (cs ++ blank ∷ [])
used-blank u cs h = record {
  rest = λ y m. elim (cases_lt y (length cs)) [
    | inl l ↦ get_or_append_left cs (blank ∷ []) blank y l ∙ h.rest y m
    | inr g ↦ get_or-append_right cs (blank ∷ []) (length cs) y blank refl g ∙ alone (y - length cs)
  ];
}
  where
    alone : (k : ℕ) → get_or (blank ∷ []) k blank ≡ blank
    alone zero = refl
    alone (suc k) = refl

pub length-removed_at_margin : (m : ℕ) (cs : List CellValue) → 1 ≤ m → length (removed_at_margin m cs) ≡ cond (nat_le m (length cs)) (length cs - 1) (length cs)
length-removed_at_margin m cs p = elim (cases_lt (length cs) m) [
  | inl l ↦ rw (lt-leb m (length cs) l) refl
  | inr g ↦
      let r : length (remove cs (m - 1)) + 1 ≡ length cs = length-remove cs (m - 1) (omega arith) in
      rw (le-leb m (length cs) g) (omega arith)
]

-- how many cells are passed over
abbrev pub passed : Bool → ℕ
passed hidden = cond hidden 1 0

-- one more cell of a walk through the columns
columns-more : (a b i : ℕ) (hidden : Bool) (c : CellValue) (cs : List CellValue) → i < b
    → with_halves (filter (begins_within a b) (visible_from i (passed hidden) (c ∷ cs)))
    ≡ cond (nat_le a i && not hidden) (with_half c) [] ++ with_halves (filter (begins_within a b) (visible_from (i + 1) (passed (is_wide c && not hidden)) cs))
columns-more a b i true c cs l = elim (cases_Bool (is_wide c)) [
  | inl w ↦ elim (cases_lt i a) [
    | inl m ↦ rw (w, lt-leb a i m) refl
    | inr m ↦ rw (w, le-leb a i m) refl
  ]
  | inr w ↦ elim (cases_lt i a) [
    | inl m ↦ rw (w, lt-leb a i m) refl
    | inr m ↦ rw (w, le-leb a i m) refl
  ]
]
columns-more a b i false c cs l = elim (cases_Bool (is_wide c)) [
  | inl w ↦ elim (cases_lt i a) [
    | inl m ↦ rw (w, lt-leb a i m) refl
    | inr m ↦ rw (w, le-leb a i m, lt-ltb i b l) refl
  ]
  | inr w ↦ elim (cases_lt i a) [
    | inl m ↦ rw (w, lt-leb a i m) refl
    | inr m ↦ rw (w, le-leb a i m, lt-ltb i b l) refl
  ]
]

-- what a walk through the columns has left at column i
abbrev pub left : ℕ → ℕ → ℕ → Bool → List CellValue → List CellValue
left a b i hidden cs = with_halves (filter (begins_within a b) (visible_from i (passed hidden) (drop i cs)))

pub left-more : (a b i : ℕ) (hidden next shown : Bool) (c : CellValue) (cs out new all : List CellValue) → i < b → i < length cs → c ≡ get_or cs i c
    → shown ≡ (nat_le a i && not hidden) → next ≡ (is_wide c && not hidden) → new ≡ out ++ cond shown (with_half c) [] → out ++ left a b i hidden cs ≡ all
    → new ++ left a b (i + 1) next cs ≡ all
left-more a b i hidden next shown c cs out new all l m at s n o h =
    let d : drop i cs ≡ c ∷ drop (i + 1) cs = rw (add-one, drop-cons cs i c) (ap (λ x. x ∷ drop (suc i) cs) (sym at)) in
    let here : left a b i hidden cs ≡ cond shown (with_half c) [] ++ left a b (i + 1) next cs = rw (d, s, n) (columns-more a b i hidden c (drop (i + 1) cs) l) in
    rw (o, append_assoc) (ap (λ xs. out ++ xs) (sym here) ∙ h)

-- the walk is past the columns
columns-none : (a b i s : ℕ) (cs : List CellValue) → b ≤ i → filter (begins_within a b) (visible_from i s cs) ≡ []
columns-none a b i s [] l = refl
columns-none a b i zero (c ∷ cs) l = elim (cases_Bool (nat_le a i)) [
  | inl t ↦ rw (t, le-ltb i b l) (columns-none a b (i + 1) (columns c - 1) cs (omega arith))
  | inr f ↦ rw f (columns-none a b (i + 1) (columns c - 1) cs (omega arith))
]
columns-none a b i (suc s) (c ∷ cs) l = columns-none a b (i + 1) s cs (omega arith)

pub left-none : (a b i : ℕ) (hidden : Bool) (cs : List CellValue) → min b (length cs) ≤ i → left a b i hidden cs ≡ []
left-none a b i hidden cs l = elim (cases_lt i b) [
  | inr m ↦ ap with_halves (columns-none a b i (passed hidden) (drop i cs) m)
  | inl m ↦ ap (λ ds. with_halves (filter (begins_within a b) (visible_from i (passed hidden) ds))) (drop_of_length-le cs (omega arith))
]

-- all cells of a list begin within its length
columns-from : (b i s : ℕ) (cs : List CellValue) → i + length cs ≤ b → filter (begins_within 0 b) (visible_from i s cs) ≡ visible_from i s cs
columns-from b i s [] l = refl
columns-from b i zero (c ∷ cs) l = rw (lt-ltb i b (omega arith), le-leb 0 i (omega arith)) (ap (λ ps. at_column i c ∷ ps) (columns-from b (i + 1) (columns c - 1) cs (omega arith)))
columns-from b i (suc s) (c ∷ cs) l = columns-from b (i + 1) s cs (omega arith)

pub columns-all : (b : ℕ) (cs : List CellValue) → b ≡ length cs → columns_between 0 b cs ≡ with_halves (visible cs)
columns-all b cs e = ap with_halves (columns-from b 0 0 cs (omega arith))

-- visible cells that are stored again show what they showed, at the same columns
shown-again : (i s : ℕ) (cs : List CellValue) → visible_from (i + s) 0 (with_halves (visible_from i s cs)) ≡ visible_from i s cs
shown-again i s [] = refl
shown-again i zero (c ∷ cs) =
    let z : i + 0 ≡ i = omega arith in
    rw z (elim (cases_Bool (is_wide c)) [
      | inl w ↦
          let d : CellValue = record { text = c.text; wide = true; attrs = c.attrs } in
          rw w (ap (λ ps. at_column i d ∷ ps) (shown-again (i + 1) 1 cs))
      | inr w ↦
          let d : CellValue = record { text = c.text; wide = false; attrs = c.attrs } in
          let y : i + 1 + 0 ≡ i + 1 = omega arith in
          rw w (ap (λ ps. at_column i d ∷ ps) (rw y at (shown-again (i + 1) 0 cs)))
    ])
shown-again i (suc s) (c ∷ cs) = let e : i + suc s ≡ i + 1 + s = omega arith in rw e (shown-again (i + 1) s cs)

pub visible-with_halves : (cs : List CellValue) → visible (with_halves (visible cs)) ≡ visible cs
visible-with_halves cs = shown-again 0 0 cs

-- what is inserted twice at one place is inserted at once
pub inserted_twice : {X : Type 0} (xs : List X) (i : ℕ) (x y : X) → i ≤ length xs → insert (insert xs i y) i x ≡ insert_slice xs i (x ∷ y ∷ [])
inserted_twice xs zero x y h = refl
inserted_twice [] (suc i) x y h = absurd (omega (arith, h))
inserted_twice (z ∷ zs) (suc i) x y h = ap (λ l. z ∷ l) (inserted_twice zs i x y (omega (arith, h)))

insert-in_front : {X : Type 0} (x n k : ℕ) (c : X) (xs : List X) → k ≡ x + n → k < length xs → take x xs ++ ((c ∷ take n (drop x xs)) ++ drop (suc n) (drop x xs)) ≡ insert (remove xs k) x c
insert-in_front zero n k c xs e l = let same : k ≡ n = omega arith in rw same refl
insert-in_front (suc x) n zero c xs e l = absurd (omega (arith, e))
insert-in_front (suc x) n (suc k) c [] e l = absurd (omega (arith, l))
insert-in_front (suc x) n (suc k) c (y ∷ ys) e l = ap (λ zs. y ∷ zs) (insert-in_front x n k c ys (omega (arith, e)) (omega (arith, l)))

-- the cells from column x up to margin m make room for c, and the last of them goes
pub insert-before_margin : {X : Type 0} (x m n : ℕ) (c : X) (xs ws : List X) → x < m → m ≤ length xs → n ≡ length xs → ws ≡ take (length (take (m - x) (drop x xs))) (c ∷ take (m - x) (drop x xs)) → refill n xs (put_mid x (m - x) xs ws) ≡ insert (remove xs (m - 1)) x c
insert-before_margin x m n c xs ws p l e h =
    let k : ℕ = m - 1 - x in
    let some : m - x ≡ suc k = omega arith in
    let part : length (take (m - x) (drop x xs)) ≡ suc k = length-take-le (m - x) (drop x xs) (omega (arith, length-drop x xs)) ∙ some in
    let own : ws ≡ c ∷ take k (drop x xs) = h ∙ ap (λ j. take j (c ∷ take (m - x) (drop x xs))) part ∙ ap (λ ys. c ∷ ys) (take-take k (m - x) (drop x xs) (omega arith)) in
    let all : put_mid x (m - x) xs ws ≡ insert (remove xs (m - 1)) x c = rw (some, own) (insert-in_front x k (m - 1) c xs (omega arith) (omega arith)) in
    let fewer : length (remove xs (m - 1)) + 1 ≡ length xs = length-remove xs (m - 1) (omega arith) in
    let len : length (insert (remove xs (m - 1)) x c) ≡ length (remove xs (m - 1)) + 1 = length-insert (remove xs (m - 1)) x c (omega arith) in
    take_at (put_mid x (m - x) xs ws) _ n (ap length all ∙ len ∙ fewer ∙ sym e) ∙ all
