-- Pruning is not seen.
use Rattle.std.proofs.Common.{◌≡◌, ◌≢◌, ℕ, zero, suc, ◌+◌, ◌-◌, ◌<◌, ◌≤◌, max, Bool, true, false, ◌&&◌, not, refl, inl, inr, List, [], ◌∷◌, length, get_or, take, Some, None, sym, ◌∙◌, ap, arith}
use Rattle.std.proofs.lemmas.Bool.{cases_Bool, cases_lt}
use Rattle.std.proofs.lemmas.List.{get_or-take, get_or_past, length-take}
use Rattle.termwiz_cell.specs.CellValue.{CellValue, blank, columns, is_wide}
use Rattle.termwiz_storage.specs.FilledAs.{IsFilledAs}
use Rattle.termwiz_storage.specs.Stored.{cell_at, hides, visible, stored, IsPruned}
use Rattle.termwiz_storage.proofs.VisibleAt.{cell_at-hidden}
use Rattle.termwiz_storage.proofs.Widths.{columns-narrow, columns-wide}
use Rattle.termwiz_line.proofs.Columns.{columns_from, cell_at-columns_0}

columns-stored : (k : ℕ) (cs : List CellValue) (x : ℕ) (e : CellValue) → get_or (columns_from k cs) x None ≡ Some e → stored cs x ≡ e
columns-stored k [] x e h = absurd (cc)
columns-stored zero (c ∷ cs) zero e h = (cc)
columns-stored zero (c ∷ cs) (suc x) e h = columns-stored _ cs x e h
columns-stored (suc k) (c ∷ cs) zero e h = absurd (cc)
columns-stored (suc k) (c ∷ cs) (suc x) e h = columns-stored k cs x e h

-- what is visible at a column is stored there
pub visible-stored : (cs : List CellValue) (x : ℕ) (e : CellValue) → cell_at (visible cs) x ≡ Some e → stored cs x ≡ e
visible-stored cs x e h = columns-stored 0 cs x e (sym (cell_at-columns_0 cs x) ∙ h)

-- pruning is not seen
pub stored-pruned : (old new : List CellValue) → IsPruned old new → (x : ℕ) → stored new x ≡ stored old x
stored-pruned old new p x = elim (cases_lt 0 p.kept) [
  | inr z ↦ ap (λ (t : List CellValue). stored t x) (p.nothing_left (omega arith))
  | inl pos ↦ ap (λ (t : List CellValue). stored t x) (p.cut pos) ∙ elim (cases_lt x p.kept) [
    | inl l ↦ get_or-take p.kept old x blank l
    | inr g ↦
        let short : length (take p.kept old) ≡ p.kept = let b : p.kept ≤ length old = p.is_kept.within in rw length-take (omega arith) in
        get_or_past (take p.kept old) x blank (omega arith) ∙ elim (cases_lt x (length old)) [
          | inl l ↦ sym (visible-stored old x blank (p.is_kept.blank_after x g l))
          | inr past ↦ sym (get_or_past old x blank past)
        ]
  ]
]

-- a last cell that isn't a default blank stays
pub length-pruned : (n : ℕ) (old new : List CellValue) → length old ≡ suc n → stored old n ≢ blank → IsPruned old new → length new ≡ length old
length-pruned n old new e used p = elim (cases_lt p.kept (length old)) [
  | inl l ↦ absurd (used (visible-stored old n blank (p.is_kept.blank_after n (omega arith) (omega arith))))
  | inr g ↦ elim (cases_lt 0 p.kept) [
    | inr z ↦ ap length (p.nothing_left (omega arith))
    | inl pos ↦ ap length (p.cut pos) ∙ rw length-take (omega arith)
  ]
]

-- narrow cells that are set after the last one stay
length-pruned_narrow : (a b : ℕ) (c : CellValue) (old full new : List CellValue) → a < b → a ≡ length old → is_wide c ≡ false → c ≢ blank
    → IsFilledAs a b c old full → IsPruned full new → length new ≡ length full
length-pruned_narrow a b c old full new l e narrow used f p =
    let one : columns c ≡ 1 = columns-narrow c narrow in
    let len : length full ≡ max (length old) (b - 1 + columns c) = f.len in
    let last : suc (b - 1) ≡ b = omega arith in
    length-pruned (b - 1) full new (omega arith) (λ s. used (sym (f.last (b - 1) last) ∙ s)) p

-- no cell that was set is hidden by the one before it
shown-first : (a b : ℕ) (c : CellValue) (old full : List CellValue) → IsFilledAs a b c old full → hides full a ≡ false
shown-first zero b c old full f = refl
shown-first (suc a) b c old full f =
    let before : is_wide (stored full a) ≡ false = elim (cases_Bool (is_wide (stored old a))) [
      | inl w ↦ ap is_wide (f.torn a refl w)
      | inr w ↦ ap is_wide (f.kept a refl w) ∙ w
    ] in
    ap (λ (v : Bool). v && not (hides full a)) before

-- a wide cell that is set after the last one stays, with its half, which is hidden
length-pruned_wide : (a b : ℕ) (c : CellValue) (old full new : List CellValue) → b ≡ suc a → a ≡ length old → is_wide c ≡ true
    → IsFilledAs a b c old full → IsPruned full new → length new ≡ length full
length-pruned_wide a b c old full new one e wide f p =
    let two : columns c ≡ 2 = columns-wide c wide in
    let len : length full ≡ max (length old) (b - 1 + columns c) = f.len in
    let set : stored full a ≡ c = f.last a (sym one) in
    let hidden : hides full (suc a) ≡ true = rw (ap is_wide set ∙ wide, shown-first a b c old full f) refl in
    elim (cases_lt p.kept (length full)) [
      | inl l ↦
          let none : None ≡ Some blank = sym (cell_at-hidden full (suc a) (omega arith) hidden) ∙ p.is_kept.blank_after (suc a) (omega arith) (omega arith) in
          absurd (cc)
      | inr g ↦ elim (cases_lt 0 p.kept) [
        | inr z ↦ ap length (p.nothing_left (omega arith))
        | inl pos ↦ ap length (p.cut pos) ∙ rw length-take (omega arith)
      ]
    ]

-- cells that aren't default blanks stay after the last one, and of wide ones a single one
pub length-pruned_fill : (a b : ℕ) (c : CellValue) (old full new : List CellValue) → a < b → a ≡ length old → (is_wide c ≡ true → b ≡ suc a) → c ≢ blank
    → IsFilledAs a b c old full → IsPruned full new → length new ≡ length full
length-pruned_fill a b c old full new l e single used f p = elim (cases_Bool (is_wide c)) [
  | inl w ↦ length-pruned_wide a b c old full new (single w) e w f p
  | inr w ↦ length-pruned_narrow a b c old full new l e w used f p
]
