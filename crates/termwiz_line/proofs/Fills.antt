-- Filling a line column by column.
use Rattle.std.proofs.Common.{◌≡◌, ◌≢◌, ℕ, true, false, zero, suc, ◌+◌, ◌-◌, ◌<◌, ◌≤◌, max, inl, inr, List, length, refl, sym, ◌∙◌, ap, subst, arith, OnErr, Result, Ok, Err}
use Rattle.std.specs.Prelude.{nat_lt}
use Rattle.std.proofs.lemmas.Bool.{cases_Bool, cases_lt, lt-ltb, le-ltb}
use Rattle.termwiz_cell.specs.CellValue.{CellValue, blank, columns, is_wide}
use Rattle.termwiz_storage.specs.Stored.{fill, set_cell}
use Rattle.termwiz_storage.proofs.Fill.{length-fill}
use Rattle.termwiz_storage.proofs.Widths.{columns-narrow, columns-wide}
use Rattle.termwiz_line.specs.LineValue.{LineValue, IsEdited, IsUnchanged}
use Rattle.termwiz_line.specs.Filled.{AppendsCells, Fills, IsPartlyFilled, MakesVector, taken}

-- one more column
pub fill-more : (n x : ℕ) (c : CellValue) (cs : List CellValue) → fill (suc n) x c cs ≡ set_cell (x + n) c (fill n x c cs)
fill-more zero x c cs = let e : x ≡ x + 0 = omega arith in ap (λ k. set_cell k c cs) e
fill-more (suc n) x c cs =
    let e : x + 1 + n ≡ x + suc n = omega arith in
    fill-more n (x + 1) c (set_cell x c cs) ∙ ap (λ k. set_cell k c (fill n (x + 1) c (set_cell x c cs))) e

pub taken-more : (n old seqno : ℕ) → max (taken n old seqno) seqno ≡ max old seqno
taken-more n old seqno = elim (cases_lt 0 n) [
  | inl l ↦ rw (lt-ltb 0 n l) (omega arith)
  | inr g ↦ rw (le-ltb 0 n g) refl
]

-- nothing is filled yet
pub Fills-none : (from seqno : ℕ) (c : CellValue) (old : LineValue) → Fills old 0 from c seqno old
Fills-none from seqno c old = record { cells = refl; number = refl; flags = refl; vector = λ v. v }

pub Fills-more : {n m from i seqno : ℕ} {c d : CellValue} {old now new : LineValue} → m ≡ suc n → i ≡ from + n → d ≡ c → Fills old n from c seqno now → IsEdited now (set_cell i d now.cells) seqno new → Fills old m from c seqno new
Fills-more {n} {m} {from} {i} {seqno} {c} {d} {old} {now} {new} e f same h t = record {
  cells = t.cells_are ∙ rw (h.cells, e, f, same) (sym (fill-more n from c old.cells));
  number = (let some : nat_lt 0 m ≡ true = lt-ltb 0 m (omega arith) in t.number ∙ rw (h.number, some) (taken-more n old.seqno seqno));
  flags = t.flags ∙ h.flags;
  vector = λ v. t.vector (h.vector v);
}

-- as far as it was filled, where nothing changed since
pub Fills-unchanged : {n from seqno : ℕ} {c : CellValue} {old now new : LineValue} → Fills old n from c seqno now → IsUnchanged now new → Fills old n from c seqno new
Fills-unchanged h t = record { cells = t.cells ∙ h.cells; number = t.number ∙ h.number; flags = t.flags ∙ h.flags; vector = λ v. t.vector (h.vector v) }

pub Fills-all : {n m from seqno : ℕ} {c : CellValue} {old now : LineValue} → n ≡ m → Fills old n from c seqno now → Fills old m from c seqno now
Fills-all {n} {m} {from} {seqno} {c} {old} {now} e h = subst (λ k. Fills old k from c seqno now) e h

pub partly_filled : {n a b seqno : ℕ} {c : CellValue} {old new : LineValue} → n ≤ b - a → Fills old n a c seqno new → IsPartlyFilled old a b c seqno new
partly_filled {n} l h = record { count = n; within = l; fills = h }

pub on_err : {T E P : Type 0} (r : Result T E) → P → OnErr r P
on_err (Ok x) p = tt
on_err (Err e) p = p

-- ---- the form that is left

-- narrow cells after the last one end where they were set
length-appended : (n from : ℕ) (c : CellValue) (cs : List CellValue) → from ≡ length cs → (0 < n → is_wide c ≡ false) → from + n ≡ length (fill n from c cs)
length-appended zero from c cs e w = let same : from + 0 ≡ from = omega arith in same ∙ e
length-appended (suc n) from c cs e w =
    let one : columns c ≡ 1 = columns-narrow c (w (omega arith)) in
    let l : length (fill (suc n) from c cs) ≡ max (length cs) (from + n + columns c) = length-fill n from c cs in
    omega arith

-- the half of a wide cell stands in the next column
longer-wide : (from : ℕ) (c : CellValue) (cs : List CellValue) → is_wide c ≡ true → suc from < length (fill 1 from c cs)
longer-wide from c cs w =
    let two : columns c ≡ 2 = columns-wide c w in
    let l : length (fill 1 from c cs) ≡ max (length cs) (from + 0 + columns c) = length-fill 0 from c cs in
    omega arith

-- the form of a line in which n columns were set, from a column on
pub record HasForm (old : LineValue) (n from : ℕ) (c : CellValue) (now : LineValue) : Type 0 where
  pub text : old.is_vector ≡ false → from ≡ length old.cells → (is_wide c ≡ true → n ≤ 1) → now.is_vector ≡ false
  pub elsewhere : 0 < n → from ≢ length old.cells → now.is_vector ≡ true
  pub wide : 1 < n → is_wide c ≡ true → now.is_vector ≡ true

pub HasForm-none : {n from : ℕ} (c : CellValue) (old : LineValue) → n ≡ 0 → HasForm old n from c old
HasForm-none c old e = record { text = λ t p w. t; elsewhere = λ l p. absurd (omega arith); wide = λ l w. absurd (omega arith) }

pub HasForm-more : {n m from i seqno : ℕ} {c d : CellValue} {old now new : LineValue} → m ≡ suc n → i ≡ from + n → d ≡ c → Fills old n from c seqno now → HasForm old n from c now
    → IsEdited now (set_cell i d now.cells) seqno new → (now.is_vector ≡ false → i ≡ length now.cells → new.is_vector ≡ false) → (i ≢ length now.cells → new.is_vector ≡ true)
    → HasForm old m from c new
HasForm-more {n} {m} {from} {i} {seqno} {c} {d} {old} {now} {new} e f same_cell fills h t appended made = record {
  text = λ v p w. appended (h.text v p (λ u. let few : m ≤ 1 = w u in omega arith)) (f ∙ length-appended n from c old.cells p (narrow_so_far w) ∙ sym (ap length fills.cells));
  elsewhere = λ l p. elim (cases_lt 0 n) [
    | inl some ↦ t.vector (h.elsewhere some p)
    | inr none ↦ made (λ q. p (first-is none q))
  ];
  wide = λ l w. elim (cases_lt 1 n) [
    | inl some ↦ t.vector (h.wide some w)
    | inr one ↦ made (λ q. second-is one l w q)
  ];
}
  where
    narrow_so_far : (is_wide c ≡ true → m ≤ 1) → 0 < n → is_wide c ≡ false
    narrow_so_far w l = elim (cases_Bool (is_wide c)) [
      | inl u ↦ let few : m ≤ 1 = w u in absurd (omega arith)
      | inr u ↦ u
    ]

    first-is : n ≤ 0 → i ≡ length now.cells → from ≡ length old.cells
    first-is none q =
        let z : n ≡ 0 = omega arith in
        let same : length now.cells ≡ length old.cells = ap length (fills.cells ∙ ap (λ k. fill k from c old.cells) z) in
        omega arith

    second-is : n ≤ 1 → 1 < m → is_wide c ≡ true → i ≡ length now.cells → ⊥
    second-is one l w q =
        let z : n ≡ 1 = omega arith in
        let same : length now.cells ≡ length (fill 1 from c old.cells) = ap length (fills.cells ∙ ap (λ k. fill k from c old.cells) z) in
        let long : suc from < length (fill 1 from c old.cells) = longer-wide from c old.cells w in
        absurd (omega arith)

pub HasForm-appended : {n a b : ℕ} {c : CellValue} {old new : LineValue} → n ≡ b - a → HasForm old n a c new → AppendsCells old a b c new
HasForm-appended m h = λ t e l w u. h.text t e (λ v. let one = w v in omega arith)

pub HasForm-elsewhere : {n a b : ℕ} {c : CellValue} {old new : LineValue} → n ≡ b - a → c ≢ blank → HasForm old n a c new → MakesVector old a b c new
HasForm-elsewhere e u h = record {
  blanks = λ z l s. absurd (u z);
  first = λ u' l p. h.elsewhere (omega arith) p;
  second = λ u' l w. h.wide (omega arith) w;
}
