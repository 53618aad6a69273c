-- The visible cell at a column: the stored one, unless that is hidden.
use Rattle.std.proofs.Common.{◌≡◌, ℕ, zero, suc, ◌+◌, ◌-◌, ◌<◌, ◌≤◌, inl, inr, Bool, true, false, cond, List, [], ◌∷◌, length, Some, None, refl, sym, ◌∙◌, ap, ap₂, arith}
use Rattle.std.proofs.lemmas.Bool.{cases_Bool, ne_eqb, eq-eqb}
use Rattle.std.proofs.lemmas.Option.{same_Some}
use Rattle.termwiz_cell.specs.CellValue.{CellValue, columns, is_wide}
use Rattle.termwiz_storage.specs.Stored.{cell_at, hides, stored, visible, visible_from}
use Rattle.termwiz_storage.proofs.Widths.{columns-narrow, columns-wide}
use Rattle.termwiz_storage.proofs.Wrapped.{hides-behind_narrow, hides-behind_wide}
use Rattle.termwiz_storage.specs.VisibleCell.{VisibleCell, at_column}

pub cell_at-before : (i s : ℕ) (cs : List CellValue) (x : ℕ) → x < i + s → cell_at (visible_from i s cs) x ≡ None
cell_at-before i s [] x l = refl
cell_at-before i zero (c ∷ cs) x l = rw (ne_eqb i x (omega arith)) (cell_at-before (i + 1) ((columns c) - 1) cs x (omega arith))
cell_at-before i (suc s) (c ∷ cs) x l = cell_at-before (i + 1) s cs x (omega arith)

pub cell_at-behind : (i s : ℕ) (cs : List CellValue) (x : ℕ) → i + length cs ≤ x → cell_at (visible_from i s cs) x ≡ None
cell_at-behind i s [] x l = refl
cell_at-behind i zero (c ∷ cs) x l = rw (ne_eqb i x (omega arith)) (cell_at-behind (i + 1) ((columns c) - 1) cs x (omega arith))
cell_at-behind i (suc s) (c ∷ cs) x l = cell_at-behind (i + 1) s cs x (omega arith)

pub cell_at-later : (i x : ℕ) (c : CellValue) (ps : List VisibleCell) → i < x → cell_at (at_column i c ∷ ps) x ≡ cell_at ps x
cell_at-later i x c ps l = rw (ne_eqb i x (omega arith)) refl

pub cell_at-first : (i : ℕ) (c : CellValue) (ps : List VisibleCell) → cell_at (at_column i c ∷ ps) i ≡ Some c
cell_at-first i c ps = rw (eq-eqb i i refl) refl

-- ---- at the columns that are stored

behind_narrow : (i x : ℕ) (c : CellValue) (cs : List CellValue) → is_wide c ≡ false → cell_at (visible_from (i + 1) 0 cs) (i + 1 + x) ≡ cond (hides cs x) None (Some (stored cs x)) → cell_at (visible_from i 0 (c ∷ cs)) (i + suc x) ≡ cond (hides (c ∷ cs) (suc x)) None (Some (stored cs x))
behind_narrow i x c cs w r =
    let skip : columns c - 1 ≡ 0 = omega (arith, columns-narrow c w) in
    let k : i + suc x ≡ i + 1 + x = omega arith in
    cell_at-later i (i + suc x) c (visible_from (i + 1) (columns c - 1) cs) (omega arith)
    ∙ ap₂ (λ (n m : ℕ). cell_at (visible_from (i + 1) n cs) m) skip k
    ∙ r
    ∙ ap (λ (b : Bool). cond b None (Some (stored cs x))) (sym (hides-behind_narrow c cs x w))

behind_wide : (i x : ℕ) (c d : CellValue) (cs : List CellValue) → is_wide c ≡ true → cell_at (visible_from (i + 1 + 1) 0 cs) (i + 1 + 1 + x) ≡ cond (hides cs x) None (Some (stored cs x)) → cell_at (visible_from i 0 (c ∷ d ∷ cs)) (i + suc (suc x)) ≡ cond (hides (c ∷ d ∷ cs) (suc (suc x))) None (Some (stored cs x))
behind_wide i x c d cs w r =
    let skip : columns c - 1 ≡ 1 = omega (arith, columns-wide c w) in
    let k : i + suc (suc x) ≡ i + 1 + 1 + x = omega arith in
    cell_at-later i (i + suc (suc x)) c (visible_from (i + 1) (columns c - 1) (d ∷ cs)) (omega arith)
    ∙ ap₂ (λ (n m : ℕ). cell_at (visible_from (i + 1) n (d ∷ cs)) m) skip k
    ∙ r
    ∙ ap (λ (b : Bool). cond b None (Some (stored cs x))) (sym (hides-behind_wide c d cs x w))

right_behind_wide : (i : ℕ) (c d : CellValue) (cs : List CellValue) → is_wide c ≡ true → cell_at (visible_from i 0 (c ∷ d ∷ cs)) (i + 1) ≡ cond (hides (c ∷ d ∷ cs) 1) None (Some d)
right_behind_wide i c d cs w =
    let skip : columns c - 1 ≡ 1 = omega (arith, columns-wide c w) in
    let hidden : hides (c ∷ d ∷ cs) 1 ≡ true = rw w refl in
    cell_at-later i (i + 1) c (visible_from (i + 1) (columns c - 1) (d ∷ cs)) (omega arith)
    ∙ ap (λ (n : ℕ). cell_at (visible_from (i + 1) n (d ∷ cs)) (i + 1)) skip
    ∙ cell_at-before (i + 1) 1 (d ∷ cs) (i + 1) (omega arith)
    ∙ ap (λ (b : Bool). cond b None (Some d)) (sym hidden)

stored_from : (i x : ℕ) (cs : List CellValue) → x < length cs → cell_at (visible_from i 0 cs) (i + x) ≡ cond (hides cs x) None (Some (stored cs x))
stored_from i x [] l = absurd (omega arith)
stored_from i zero (c ∷ cs) l = rw (eq-eqb i (i + 0) (omega arith)) refl
stored_from i (suc x) (c ∷ []) l = absurd (omega arith)
stored_from i (suc zero) (c ∷ d ∷ cs) l = elim (cases_Bool (is_wide c)) [
  | inl w ↦ right_behind_wide i c d cs w
  | inr w ↦ behind_narrow i 0 c (d ∷ cs) w (stored_from (i + 1) 0 (d ∷ cs) (omega arith))
]
stored_from i (suc (suc x)) (c ∷ d ∷ cs) l = elim (cases_Bool (is_wide c)) [
  | inl w ↦ behind_wide i x c d cs w (stored_from (i + 1 + 1) x cs (omega arith))
  | inr w ↦ behind_narrow i (suc x) c (d ∷ cs) w (stored_from (i + 1) (suc x) (d ∷ cs) (omega arith))
]

pub cell_at-stored : (cs : List CellValue) (x : ℕ) → x < length cs → cell_at (visible cs) x ≡ cond (hides cs x) None (Some (stored cs x))
cell_at-stored cs x l =
    let k : 0 + x ≡ x = omega arith in
    ap (cell_at (visible cs)) (sym k) ∙ stored_from 0 x cs l

pub cell_at-past : (cs : List CellValue) (x : ℕ) → length cs ≤ x → cell_at (visible cs) x ≡ None
cell_at-past cs x l = cell_at-behind 0 0 cs x (omega arith)

pub cell_at-hidden : (cs : List CellValue) (x : ℕ) → x < length cs → hides cs x ≡ true → cell_at (visible cs) x ≡ None
cell_at-hidden cs x l h = cell_at-stored cs x l ∙ ap (λ (b : Bool). cond b None (Some (stored cs x))) h

pub cell_at-shown : (cs : List CellValue) (x : ℕ) → x < length cs → hides cs x ≡ false → cell_at (visible cs) x ≡ Some (stored cs x)
cell_at-shown cs x l h = cell_at-stored cs x l ∙ ap (λ (b : Bool). cond b None (Some (stored cs x))) h

-- what is visible at a column is stored there
pub stored-visible : (cs : List CellValue) (x : ℕ) (c : CellValue) → x < length cs → cell_at (visible cs) x ≡ Some c → stored cs x ≡ c
stored-visible cs x c l e = elim (cases_Bool (hides cs x)) [
  | inl h ↦ let none : None ≡ Some c = sym (cell_at-hidden cs x l h) ∙ e in cc
  | inr h ↦ same_Some (stored cs x) c (sym (cell_at-shown cs x l h) ∙ e)
]
