-- What is stored after a cell is set, by position.
use Rattle.std.proofs.Common.{◌≡◌, ◌≢◌, ℕ, suc, ◌+◌, ◌-◌, ◌<◌, ◌≤◌, inl, inr, true, false, ◌&&◌, max, List, length, get_or, set, replicate, refl, sym, ◌∙◌, ap, arith, length-append}
use Rattle.std.proofs.lemmas.Bool.{cases_Bool, cases_lt, cases_eq, cases_order, ltb-true, lt-ltb, and_parts}
use Rattle.std.proofs.lemmas.List.{get_or_append_left, get_or-append_right, get_or_past, get_or-replicate, length-replicate, get_or-set_same, get_or-set_other, length-set, ext_get_or}
use Rattle.std.specs.Prelude.{nat_lt}
use Rattle.termwiz_cell.specs.CellValue.{columns, CellValue, blank, half, is_wide}
use Rattle.termwiz_storage.specs.Stored.{stored, padded, torn, put, set_cell}
use Rattle.termwiz_storage.proofs.Widths.{columns-wide, wide_from, columns_bounds}
use Rattle.termwiz_storage.proofs.Halves.{length-torn, length-padded}

stored-replicate : (n x : ℕ) → get_or (replicate n blank) x blank ≡ blank
stored-replicate n x = elim (cases_lt x n) [
  | inl l ↦ get_or-replicate n x blank blank l
  | inr g ↦ get_or_past (replicate n blank) x blank (rw length-replicate g)
]

-- padding is not seen
pub stored-padded : (n : ℕ) (cs : List CellValue) (x : ℕ) → stored (padded n cs) x ≡ stored cs x
stored-padded n cs x = elim (cases_lt x (length cs)) [
  | inl l ↦ get_or_append_left cs _ blank x l
  | inr g ↦ get_or-append_right cs (replicate (n - length cs) blank) (length cs) x blank refl g ∙ stored-replicate (n - length cs) (x - length cs) ∙ sym (get_or_past cs x blank g)
]

-- what is stored after set_cell, by position
pub record IsSet (f : ℕ → CellValue) (i : ℕ) (c : CellValue) (g : ℕ → CellValue) : Type 0 where
  pub at : g i ≡ c
  pub next : is_wide c ≡ true → g (i + 1) ≡ half c
  pub torn : (x : ℕ) → x + 1 ≡ i → is_wide (f x) ≡ true → g x ≡ half (f x)
  pub narrow : (x : ℕ) → x + 1 ≡ i → is_wide (f x) ≡ false → g x ≡ f x
  pub below : (x : ℕ) → x + 1 < i → g x ≡ f x
  pub above : (x : ℕ) → i + (columns c) ≤ x → g x ≡ f x

-- the cell before a column, once it is torn, and the others
pub torn_at : (i : ℕ) (cs : List CellValue) (x : ℕ) → x + 1 ≡ i → i ≤ length cs → is_wide (stored cs x) ≡ true → stored (torn i cs) x ≡ half (stored cs x)
torn_at i cs x e l w =
    let k : i - 1 ≡ x = omega arith in
    let t : nat_lt 0 i ≡ true = lt-ltb 0 i (omega arith) in
    let h : x < length cs = omega arith in
    rw (t, k, w) (rw get_or-set_same refl)

pub torn_narrow : (i : ℕ) (cs : List CellValue) (x : ℕ) → x + 1 ≡ i → is_wide (stored cs x) ≡ false → stored (torn i cs) x ≡ stored cs x
torn_narrow i cs x e w =
    let k : i - 1 ≡ x = omega arith in
    let t : nat_lt 0 i ≡ true = lt-ltb 0 i (omega arith) in
    rw (t, k, w) refl

pub torn_else : (i : ℕ) (cs : List CellValue) (x : ℕ) → x + 1 ≢ i → stored (torn i cs) x ≡ stored cs x
torn_else i cs x n = elim (cases_Bool (nat_lt 0 i && is_wide (stored cs (i - 1)))) [
  | inl t ↦ let pos : 0 < i = ltb-true 0 i (and_parts _ _ t).0 in let k : x ≢ i - 1 = omega arith in rw t (get_or-set_other cs (i - 1) x (half (stored cs (i - 1))) blank k)
  | inr t ↦ rw t refl
]

put_at : (i : ℕ) (c : CellValue) (cs : List CellValue) → i < length cs → stored (put i c cs) i ≡ c
put_at i c cs l = elim (cases_Bool (is_wide c)) [
  | inl w ↦ let h : i < length (set cs (i + 1) (half c)) = rw length-set l in rw w (rw get_or-set_same refl)
  | inr w ↦ rw w (rw get_or-set_same refl)
]

put_next : (i : ℕ) (c : CellValue) (cs : List CellValue) → i + 1 < length cs → is_wide c ≡ true → stored (put i c cs) (i + 1) ≡ half c
put_next i c cs l w = let n : i + 1 ≢ i = omega arith in rw w (rw (get_or-set_other, get_or-set_same) refl)

pub put_else : (i : ℕ) (c : CellValue) (cs : List CellValue) (x : ℕ) → x ≢ i → (is_wide c ≡ true → x ≢ i + 1) → stored (put i c cs) x ≡ stored cs x
put_else i c cs x n m = elim (cases_Bool (is_wide c)) [
  | inl w ↦ let k : x ≢ i + 1 = m w in rw w (rw (get_or-set_other, get_or-set_other) refl)
  | inr w ↦ rw w (rw get_or-set_other refl)
]

pub IsSet-set_cell : (i : ℕ) (c : CellValue) (cs : List CellValue) → IsSet (stored cs) i c (stored (set_cell i c cs))
IsSet-set_cell i c cs =
    let pos : 0 < columns c = (columns_bounds c).0 in
    let two : columns c ≤ 2 = (columns_bounds c).1 in
    let p : List CellValue = padded (i + (columns c)) cs in
    let q : List CellValue = torn i p in
    let lp : i + (columns c) ≤ length p = (length-padded (i + (columns c)) cs).0 in
    let lq : length q ≡ length p = length-torn i p in
    record {
      at = put_at i c q (omega arith);
      next = λ w. let w2 : (columns c) ≡ 2 = columns-wide c w in put_next i c q (omega arith) w;
      torn = λ x e w.
          let same : stored p x ≡ stored cs x = stored-padded (i + (columns c)) cs x in
          put_else i c q x (omega arith) (λ _. omega arith) ∙ torn_at i p x e (omega arith) (ap is_wide same ∙ w) ∙ ap half same;
      narrow = λ x e w.
          let same : stored p x ≡ stored cs x = stored-padded (i + (columns c)) cs x in
          put_else i c q x (omega arith) (λ _. omega arith) ∙ torn_narrow i p x e (ap is_wide same ∙ w) ∙ same;
      below = λ x l. put_else i c q x (omega arith) (λ _. omega arith) ∙ torn_else i p x (omega arith) ∙ stored-padded (i + (columns c)) cs x;
      above = λ x l.
          put_else i c q x (omega arith) (λ w. let w2 : (columns c) ≡ 2 = columns-wide c w in omega arith) ∙ torn_else i p x (omega arith) ∙ stored-padded (i + (columns c)) cs x;
    }

length-put : (i : ℕ) (c : CellValue) (cs : List CellValue) → length (put i c cs) ≡ length cs
length-put i c cs = elim (cases_Bool (is_wide c)) [
  | inl w ↦ rw w (simp length-set)
  | inr w ↦ rw w (simp length-set)
]

pub length-set_cell : (i : ℕ) (c : CellValue) (cs : List CellValue) → length (set_cell i c cs) ≡ max (length cs) (i + columns c)
length-set_cell i c cs =
    let n : ℕ = i + columns c in
    let p : length (padded n cs) ≡ length cs + (n - length cs) = simp (length-append, length-replicate) in
    length-put i c (torn i (padded n cs)) ∙ length-torn i (padded n cs) ∙ p ∙ omega arith

-- a cell that is set fixes what is stored
IsSet-same : (f h : ℕ → CellValue) (i : ℕ) (c : CellValue) (g k : ℕ → CellValue) → ((x : ℕ) → f x ≡ h x) → IsSet f i c g → IsSet h i c k → (x : ℕ) → g x ≡ k x
IsSet-same f h i c g k e s t x = elim (cases_order (suc x) i) [
  | inl q ↦ elim (cases_Bool (is_wide (f x))) [
    | inl w ↦ s.torn x (omega arith) w ∙ ap half (e x) ∙ sym (t.torn x (omega arith) (sym (ap is_wide (e x)) ∙ w))
    | inr w ↦ s.narrow x (omega arith) w ∙ e x ∙ sym (t.narrow x (omega arith) (sym (ap is_wide (e x)) ∙ w))
  ]
  | inr r ↦ elim r [
    | inl q ↦ s.below x (omega arith) ∙ e x ∙ sym (t.below x (omega arith))
    | inr q ↦ elim (cases_lt x (i + columns c)) [
      | inr u ↦ s.above x u ∙ e x ∙ sym (t.above x u)
      | inl u ↦ elim (cases_eq x i) [
        | inl z ↦ ap g z ∙ s.at ∙ sym (ap k z ∙ t.at)
        | inr z ↦
            let two : columns c ≤ 2 = (columns_bounds c).1 in
            let m : x ≡ i + 1 = omega arith in
            let w : is_wide c ≡ true = wide_from c (omega arith) in
            ap g m ∙ s.next w ∙ sym (ap k m ∙ t.next w)
      ]
    ]
  ]
]

-- padding as far as the cell reaches, or farther, may come before or after
pub set_cell-padded : (n i : ℕ) (c : CellValue) (cs : List CellValue) → i + columns c ≤ n → set_cell i c (padded n cs) ≡ padded n (set_cell i c cs)
set_cell-padded n i c cs l =
    let long : (ds : List CellValue) → length (padded n ds) ≡ length ds + (n - length ds) = λ ds. length-append ds (replicate (n - length ds) blank) ∙ ap (λ (k : ℕ). length ds + k) (length-replicate (n - length ds) blank) in
    ext_get_or blank (set_cell i c (padded n cs)) (padded n (set_cell i c cs))
    (omega (arith, length-set_cell i c (padded n cs), length-set_cell i c cs, long cs, long (set_cell i c cs)))
    (λ x _. IsSet-same (stored (padded n cs)) (stored cs) i c (stored (set_cell i c (padded n cs))) (stored (set_cell i c cs)) (stored-padded n cs) (IsSet-set_cell i c (padded n cs)) (IsSet-set_cell i c cs) x ∙ sym (stored-padded n (set_cell i c cs) x))
