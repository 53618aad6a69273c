-- Lists in which each wide cell is followed by its half: they are their visible cells with their halves.
use Rattle.std.proofs.Common.{◌≡◌, ℕ, zero, suc, ◌+◌, ◌-◌, ◌<◌, ◌≤◌, List, [], ◌∷◌, ◌++◌, length, get_or, drop, true, false, refl, ap, ap₂, sym, ◌∙◌, arith, subst, inl, inr}
use Rattle.std.proofs.lemmas.Bool.{cases_Bool, cond-true, cond-false}
use Rattle.termwiz_cell.specs.CellValue.{CellValue, half, is_wide, columns}
use Rattle.termwiz_storage.specs.Clustered.{IsWhole}
use Rattle.termwiz_storage.specs.Edits.{with_half, with_halves}
use Rattle.termwiz_storage.specs.Stored.{hides, stored, visible_from, visible}
use Rattle.termwiz_storage.proofs.Widths.{columns-narrow, columns-wide}
use Rattle.termwiz_storage.proofs.Wrapped.{hides-behind_narrow, hides-behind_wide}
use Rattle.termwiz_storage.specs.VisibleCell.{VisibleCell}

with_half-wide : (c : CellValue) → is_wide c ≡ true → with_half c ≡ c ∷ half c ∷ []
with_half-wide c w = cond-true (is_wide c) (c ∷ half c ∷ []) (c ∷ []) w

with_half-narrow : (c : CellValue) → is_wide c ≡ false → with_half c ≡ c ∷ []
with_half-narrow c w = cond-false (is_wide c) (c ∷ half c ∷ []) (c ∷ []) w

pub behind_narrow : (c : CellValue) (cs : List CellValue) → is_wide c ≡ false → IsWhole (c ∷ cs) → IsWhole cs
behind_narrow c cs w h = record {
  halves = λ k l e. h.halves (suc k) (omega arith) (hides-behind_narrow c cs (suc k) w ∙ e);
  complete = sym (hides-behind_narrow c cs (length cs) w) ∙ h.complete;
}

behind_wide : (c d : CellValue) (cs : List CellValue) → is_wide c ≡ true → IsWhole (c ∷ d ∷ cs) → IsWhole cs
behind_wide c d cs w h = record {
  halves = λ k l e. h.halves (suc (suc k)) (omega arith) (hides-behind_wide c d cs (suc k) w ∙ e);
  complete = sym (hides-behind_wide c d cs (length cs) w) ∙ h.complete;
}

lacks_half : (c : CellValue) → is_wide c ≡ true → hides (c ∷ []) 1 ≡ true
lacks_half c w = rw w refl

whole_from : (i : ℕ) (cs : List CellValue) → IsWhole cs → with_halves (visible_from i 0 cs) ≡ cs
whole_from i [] h = refl
whole_from i (c ∷ []) h = elim (cases_Bool (is_wide c)) [
  | inr w ↦ ap (λ (z : List CellValue). z ++ []) (with_half-narrow c w)
  | inl w ↦ let e : true ≡ false = sym (lacks_half c w) ∙ h.complete in cc
]
whole_from i (c ∷ d ∷ cs) h = elim (cases_Bool (is_wide c)) [
  | inr w ↦
      let skip : columns c - 1 ≡ 0 = omega (arith, columns-narrow c w) in
      ap₂ (λ (z : List CellValue) (n : ℕ). z ++ with_halves (visible_from (i + 1) n (d ∷ cs))) (with_half-narrow c w) skip
      ∙ ap (λ (z : List CellValue). c ∷ z) (whole_from (i + 1) (d ∷ cs) (behind_narrow c (d ∷ cs) w h))
  | inl w ↦
      let skip : columns c - 1 ≡ 1 = omega (arith, columns-wide c w) in
      let hidden : hides (c ∷ d ∷ cs) 1 ≡ true = lacks_half c w in
      let own : d ≡ half c = h.halves 0 (omega arith) hidden in
      ap₂ (λ (z : List CellValue) (n : ℕ). z ++ with_halves (visible_from (i + 1) n (d ∷ cs))) (with_half-wide c w) skip
      ∙ ap₂ (λ (x : CellValue) (z : List CellValue). c ∷ x ∷ z) (sym own) (whole_from (i + 1 + 1) cs (behind_wide c d cs w h))
]

pub whole-is : (cs : List CellValue) → IsWhole cs → with_halves (visible cs) ≡ cs
whole-is cs h = whole_from 0 cs h

narrow_before : (c : CellValue) (cs : List CellValue) → is_wide c ≡ false → IsWhole cs → IsWhole (c ∷ cs)
narrow_before c cs w h = record {
  halves = λ k. elim k as (λ (k : ℕ). suc k < length (c ∷ cs) → hides (c ∷ cs) (suc k) ≡ true → stored (c ∷ cs) (suc k) ≡ half (stored (c ∷ cs) k)) [
    | zero ↦ λ l e. let n : false ≡ true = sym (hides-behind_narrow c cs 0 w) ∙ e in cc
    | suc k ↦ λ l e. h.halves k (omega arith) (sym (hides-behind_narrow c cs (suc k) w) ∙ e)
  ];
  complete = hides-behind_narrow c cs (length cs) w ∙ h.complete;
}

wide_before : (c : CellValue) (cs : List CellValue) → is_wide c ≡ true → IsWhole cs → IsWhole (c ∷ half c ∷ cs)
wide_before c cs w h = record {
  halves = λ k. elim k as (λ (k : ℕ). suc k < length (c ∷ half c ∷ cs) → hides (c ∷ half c ∷ cs) (suc k) ≡ true → stored (c ∷ half c ∷ cs) (suc k) ≡ half (stored (c ∷ half c ∷ cs) k)) [
    | zero ↦ λ _ _. refl
    | suc k ↦ elim k as (λ (k : ℕ). suc (suc k) < length (c ∷ half c ∷ cs) → hides (c ∷ half c ∷ cs) (suc (suc k)) ≡ true → stored (c ∷ half c ∷ cs) (suc (suc k)) ≡ half (stored (c ∷ half c ∷ cs) (suc k))) [
      | zero ↦ λ l e. let n : false ≡ true = sym (hides-behind_wide c (half c) cs 0 w) ∙ e in cc
      | suc k ↦ λ l e. h.halves k (omega arith) (sym (hides-behind_wide c (half c) cs (suc k) w) ∙ e)
    ]
  ];
  complete = hides-behind_wide c (half c) cs (length cs) w ∙ h.complete;
}

whole-with_halves : (ps : List VisibleCell) → IsWhole (with_halves ps)
whole-with_halves [] = record { halves = λ k l e. absurd (omega arith); complete = refl }
whole-with_halves (p ∷ ps) = elim (cases_Bool (is_wide p.cell)) [
  | inl w ↦ subst (λ (z : List CellValue). IsWhole (z ++ with_halves ps)) (sym (with_half-wide p.cell w)) (wide_before p.cell (with_halves ps) w (whole-with_halves ps))
  | inr w ↦ subst (λ (z : List CellValue). IsWhole (z ++ with_halves ps)) (sym (with_half-narrow p.cell w)) (narrow_before p.cell (with_halves ps) w (whole-with_halves ps))
]

pub whole-from : (cs : List CellValue) → with_halves (visible cs) ≡ cs → IsWhole cs
whole-from cs e = subst IsWhole e (whole-with_halves (visible cs))

-- what a list that isn't empty begins with, and what is left after it
pub record BeginsWhole (cs : List CellValue) (c : CellValue) : Type 0 where
  pub fits : columns c ≤ length cs
  pub some : 0 < columns c
  pub same : with_half c ++ drop (columns c) cs ≡ cs
  pub whole : IsWhole (drop (columns c) cs)

begins_narrow : (c : CellValue) (cs : List CellValue) → is_wide c ≡ false → IsWhole (c ∷ cs) → BeginsWhole (c ∷ cs) c
begins_narrow c cs w h =
    let one : columns c ≡ 1 = columns-narrow c w in
    record {
      fits = omega arith;
      some = omega arith;
      same = rw (with_half-narrow c w, one) refl;
      whole = rw one (behind_narrow c cs w h);
    }

begins_wide : (c d : CellValue) (cs : List CellValue) → is_wide c ≡ true → IsWhole (c ∷ d ∷ cs) → BeginsWhole (c ∷ d ∷ cs) c
begins_wide c d cs w h =
    let two : columns c ≡ 2 = columns-wide c w in
    let own : d ≡ half c = h.halves 0 (omega arith) (lacks_half c w) in
    record {
      fits = omega arith;
      some = omega arith;
      same = rw (with_half-wide c w, two, ← own) refl;
      whole = rw two (behind_wide c d cs w h);
    }

pub begins-whole : (cs : List CellValue) (c : CellValue) → 0 < length cs → c ≡ get_or cs 0 c → IsWhole cs → BeginsWhole cs c
begins-whole [] c l e h = absurd (omega arith)
begins-whole (x ∷ []) c l e h = elim (cases_Bool (is_wide x)) [
  | inr w ↦ subst (BeginsWhole (x ∷ [])) (sym e) (begins_narrow x [] w h)
  | inl w ↦ let no : true ≡ false = sym (lacks_half x w) ∙ h.complete in cc
]
begins-whole (x ∷ y ∷ cs) c l e h = elim (cases_Bool (is_wide x)) [
  | inr w ↦ subst (BeginsWhole (x ∷ y ∷ cs)) (sym e) (begins_narrow x (y ∷ cs) w h)
  | inl w ↦ subst (BeginsWhole (x ∷ y ∷ cs)) (sym e) (begins_wide x y cs w h)
]
