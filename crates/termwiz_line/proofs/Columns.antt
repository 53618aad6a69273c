-- What the columns of a list of stored cells show.
use Rattle.std.proofs.Common.{◌≡◌, ℕ, zero, suc, ◌+◌, ◌-◌, ◌<◌, inl, inr, Bool, true, false, cond, ◌&&◌, List, [], ◌∷◌, length, get_or, Option, Some, None, refl, ◌∙◌, ap, arith, add-zero, zero-add}
use Rattle.std.proofs.lemmas.Bool.{cases_Bool, ne_eqb, eq-eqb, lt-ltb}
use Rattle.std.specs.Prelude.{nat_lt}
use Rattle.termwiz_cell.specs.CellValue.{columns, CellValue, half, is_wide}
use Rattle.termwiz_storage.specs.Stored.{visible_from, cell_at, visible, stored}
use Rattle.termwiz_storage.proofs.Widths.{columns-wide, columns-narrow}
use Rattle.termwiz_storage.specs.VisibleCell.{VisibleCell, at_column}

-- the columns of a list of stored cells: each shows a cell, or is covered by the cell to its left
abbrev pub columns_from : ℕ → List CellValue → List (Option CellValue)
columns_from skip [] = []
columns_from zero (c ∷ cs) = Some c ∷ columns_from (columns c - 1) cs
columns_from (suc k) (c ∷ cs) = None ∷ columns_from k cs

-- the cells that columns show, with their indices
abbrev pub shown_from : ℕ → List (Option CellValue) → List VisibleCell
shown_from i [] = []
shown_from i (Some c ∷ os) = at_column i c ∷ shown_from (i + 1) os
shown_from i (None ∷ os) = shown_from (i + 1) os

-- each stored cell after a wide one is its half
pub record IsFormed (cs : List CellValue) : Type 0 where
  pub halves : (x : ℕ) → suc x < length cs → is_wide (stored cs x) ≡ true → stored cs (suc x) ≡ half (stored cs x)

-- the visible cells are what the columns_from show
pub shown-columns : (i k : ℕ) (cs : List CellValue) → shown_from i (columns_from k cs) ≡ visible_from i k cs
shown-columns i k [] = refl
shown-columns i zero (c ∷ cs) = ap (λ t. at_column i c ∷ t) (shown-columns (i + 1) ((columns c) - 1) cs)
shown-columns i (suc k) (c ∷ cs) = shown-columns (i + 1) k cs

pub IsFormed-tail : (c : CellValue) (cs : List CellValue) → IsFormed (c ∷ cs) → IsFormed cs
IsFormed-tail c cs f = record {
  halves = λ x l w. f.halves (suc x) (omega arith) w;
}

-- columns by position: a column is covered exactly where the stored cell before it is wide
columns_narrow : (c : CellValue) (cs : List CellValue) → IsFormed (c ∷ cs) → is_wide c ≡ false → columns_from 0 (c ∷ cs) ≡ Some c ∷ columns_from 0 cs
columns_narrow c cs f n = let w : (columns c) ≡ 1 = columns-narrow c n in rw w refl

columns_wide : (c : CellValue) (cs : List CellValue) → IsFormed (c ∷ cs) → is_wide c ≡ true → columns_from 0 (c ∷ cs) ≡ Some c ∷ columns_from 1 cs
columns_wide c cs f n = let w : (columns c) ≡ 2 = columns-wide c n in rw w refl

pub columns_next : (cs : List CellValue) (x : ℕ) → IsFormed cs → suc x < length cs → get_or (columns_from 0 cs) (suc x) None ≡ cond (is_wide (stored cs x)) None (Some (stored cs (suc x)))
columns_next [] x f l = absurd (omega arith)
columns_next (c ∷ []) x f l = absurd (omega arith)
columns_next (c ∷ (h ∷ cs)) zero f l =
    elim (cases_Bool (is_wide c)) [
      | inl w ↦ rw (columns_wide c (h ∷ cs) f w, w) refl
      | inr n ↦ rw (columns_narrow c (h ∷ cs) f n, n) refl
    ]
columns_next (c ∷ (h ∷ [])) (suc x) f l = absurd (omega arith)
columns_next (c ∷ (h ∷ (d ∷ ds))) (suc zero) f l =
    elim (cases_Bool (is_wide c)) [
      | inl w ↦ let e : h ≡ half c = f.halves 0 (omega arith) w in rw (columns_wide c (h ∷ (d ∷ ds)) f w, e) refl
      | inr n ↦ rw (columns_narrow c (h ∷ (d ∷ ds)) f n) (columns_next (h ∷ (d ∷ ds)) zero (IsFormed-tail _ _ f) (omega arith))
    ]
columns_next (c ∷ (h ∷ (d ∷ ds))) (suc (suc y)) f l =
    elim (cases_Bool (is_wide c)) [
      | inl w ↦ rw (columns_wide c (h ∷ (d ∷ ds)) f w) (columns_next (d ∷ ds) y (IsFormed-tail _ _ (IsFormed-tail _ _ f)) (omega arith))
      | inr n ↦ rw (columns_narrow c (h ∷ (d ∷ ds)) f n) (columns_next (h ∷ (d ∷ ds)) (suc y) (IsFormed-tail _ _ f) (omega arith))
    ]

pub columns_first : (cs : List CellValue) → 0 < length cs → get_or (columns_from 0 cs) 0 None ≡ Some (stored cs 0)
columns_first [] l = absurd (omega arith)
columns_first (c ∷ cs) l = refl

-- the cell at a column, by position
pub cell_at-before : (i : ℕ) (os : List (Option CellValue)) (x : ℕ) → x < i → cell_at (shown_from i os) x ≡ None
cell_at-before i [] x l = refl
cell_at-before i (None ∷ os) x l = cell_at-before (i + 1) os x (omega arith)
cell_at-before i (Some c ∷ os) x l = rw (ne_eqb i x (omega arith)) (cell_at-before (i + 1) os x (omega arith))

pub cell_at-columns : (i : ℕ) (os : List (Option CellValue)) (x : ℕ) → cell_at (shown_from i os) (i + x) ≡ get_or os x None
cell_at-columns i [] x = refl
cell_at-columns i (None ∷ os) zero = rw add-zero (cell_at-before (i + 1) os i (omega arith))
cell_at-columns i (Some c ∷ os) zero = rw (eq-eqb i (i + 0) (omega arith)) refl
cell_at-columns i (None ∷ os) (suc x) = let h : i + suc x ≡ (i + 1) + x = omega arith in rw h (cell_at-columns (i + 1) os x)
cell_at-columns i (Some c ∷ os) (suc x) =
    let h : i + suc x ≡ (i + 1) + x = omega arith in
    rw (ne_eqb i (i + suc x) (omega arith), h) (cell_at-columns (i + 1) os x)

-- the column is covered by the wide cell stored before it
abbrev pub covered : List CellValue → ℕ → Bool
covered cs x = nat_lt 0 x && is_wide (stored cs (x - 1))

pub cell_at-columns_0 : (cs : List CellValue) (x : ℕ) → cell_at (visible cs) x ≡ get_or (columns_from 0 cs) x None
cell_at-columns_0 cs x = let h : cell_at (shown_from 0 (columns_from 0 cs)) (0 + x) ≡ get_or (columns_from 0 cs) x None = cell_at-columns 0 (columns_from 0 cs) x in
    rw (← shown-columns 0 0 cs) (rw zero-add at h)

pub cell_at-visible : (cs : List CellValue) (x : ℕ) → IsFormed cs → x < length cs → cell_at (visible cs) x ≡ cond (covered cs x) None (Some (stored cs x))
cell_at-visible cs zero f l = cell_at-columns_0 cs 0 ∙ columns_first cs l
cell_at-visible cs (suc x) f l =
    let n : suc x - 1 ≡ x = omega arith in
    let t : nat_lt 0 (suc x) ≡ true = lt-ltb 0 (suc x) (omega arith) in
    rw (cell_at-columns_0 cs (suc x), t, n) (columns_next cs x f l)
