-- Filling and pruning a stored row clears its row.
use Rattle.std.proofs.Common.{◌≡◌, ℕ, zero, suc, ◌+◌, ◌-◌, ◌<◌, ◌≤◌, ◌⊎◌, inl, inr, true, false, cond, not, ◌&&◌, eqb, leb, List, length, Some, None, refl, sym, ◌∙◌, ap, subst, arith, Decides}
use Rattle.std.specs.Prelude.{nat_lt}
use Rattle.std.proofs.lemmas.List.{get_or_past, length-take, take_all}
use Rattle.std.proofs.lemmas.Bool.{cases_Bool, cases_eq, cases_lt, ne_eqb, eq-eqb, and_parts, and_from, and_left, and_right, true≢false, not_from_false, not-true, lt-ltb, le-ltb, le-leb}
use Rattle.std.proofs.lemmas.Bool.Decides.{nat_tests}
use Rattle.termwiz_cell.specs.Attributes.{Attributes}
use Rattle.termwiz_cell.specs.CellValue.{CellValue, blank, blank_of, half, is_wide, cell_eq-Decides}
use Rattle.termwiz_storage.specs.Stored.{stored, set_cell, fill, cell_at, visible, IsKept, IsPruned}
use Rattle.termwiz_line.proofs.Columns.{IsFormed, covered, cell_at-visible}
use Rattle.termwiz_storage.proofs.Fill.{IsFilledFrom, IsFilledFrom-fill, length-fill}
use Rattle.termwiz_line.proofs.Pruned.{stored-pruned}
use Rattle.termwiz_line.specs.Row.{row_of, is_hidden, cleared, clear}
use Rattle.termwiz_screen.specs.Measured.{IsMeasured, IsStored}
use Rattle.termwiz_screen.specs.Clear.{is_blank, ends, pruned_length}
use Rattle.termwiz_line.proofs.StoredRows.{row_stored, row_ext}
use Rattle.termwiz_line.proofs.RowOf.{length-row_of}
use Rattle.termwiz_line.proofs.RowPainting.{length-clear, clear_at, clear_none}
use Rattle.termwiz_storage.proofs.SetCell.{length-set_cell}
use Rattle.termwiz_screen.proofs.Stored.{IsLawful, IsMeasured-blank, halved, IsStored-painted_in}

-- a fill with blanks keeps the form
module _ (f : List ℕ → ℕ) (w : ℕ) (a : Attributes) (h : IsLawful f) where
  one : (c : ℕ) (cs : List CellValue) → IsStored f w cs → c < w → IsStored f w (set_cell c (blank_of a) cs)
  one c cs s l =
      let p : length cs ≤ w = s.within in
      let len : length (set_cell c (blank_of a) cs) ≤ w = omega (arith, length-set_cell c (blank_of a) cs) in
      subst (IsStored f w) (take_all w (set_cell c (blank_of a) cs) len) (IsStored-painted_in f w c (blank_of a) cs h s (IsMeasured-blank f a h) l)

  pub IsStored-fill : (n c : ℕ) (cs : List CellValue) → IsStored f w cs → c + n ≤ w → IsStored f w (fill n c (blank_of a) cs)
  IsStored-fill zero c cs s l = s
  IsStored-fill (suc n) c cs s l = IsStored-fill n (c + 1) (set_cell c (blank_of a) cs) (one c cs s (omega arith)) (omega arith)

pub length-filled : (w c : ℕ) (a : Attributes) (cs : List CellValue) → length cs ≤ w → length (fill (w - c) c (blank_of a) cs) ≡ cond (nat_lt c w) w (length cs)
length-filled w c a cs l = elim (cases_lt c w) [
  | inl q ↦
      let n : w - c ≡ suc (w - c - 1) = omega arith in
      rw (lt-ltb c w q, n) (length-fill (w - c - 1) c (blank_of a) cs ∙ omega arith)
  | inr q ↦
      let n : w - c ≡ 0 = omega arith in
      rw (le-ltb c w q, n) refl
]

-- and clears the row
pub row-fill : (f : List ℕ → ℕ) (w c : ℕ) (a : Attributes) (cs : List CellValue) → IsLawful f → IsStored f w cs → c ≤ w → row_of w (fill (w - c) c (blank_of a) cs) ≡ clear (row_of w cs) c (blank_of a)
row-fill f w c a cs h s le = elim (cases_lt c w) [
  | inr q ↦ (let n : w - c ≡ 0 = omega arith in rw n (sym (clear_none (row_of w cs) c (blank_of a) (rw length-row_of (omega arith)))))
  | inl q ↦ row_ext w (fill (w - c) c (blank_of a) cs) (clear (row_of w cs) c (blank_of a)) (halved f w _ (IsStored-fill f w a h (w - c) c cs s (omega arith)))
      (length-clear (row_of w cs) c (blank_of a) ∙ length-row_of w cs)
      (λ k l.
      let e : stored (clear (row_of w cs) c (blank_of a)) k ≡ cleared (row_of w cs) c (blank_of a) k = clear_at (row_of w cs) c (blank_of a) k (rw length-row_of q) (rw length-row_of l) in
      let same : stored (row_of w cs) k ≡ stored cs k = row_stored w cs k (halved f w cs s) l in
      at k l q ∙ sym (e ∙ rw same refl))
]
  where
    at : (k : ℕ) → k < w → c < w → stored (fill (w - c) c (blank_of a) cs) k ≡ cond (leb c k) (blank_of a) (cond (eqb (suc k) c && is_wide (stored cs k)) (half (stored cs k)) (stored cs k))
    at k l q =
        let n : w - c ≡ suc (w - c - 1) = omega arith in
        let g : IsFilledFrom (stored cs) c (w - c - 1) (blank_of a) (stored (fill (w - c) c (blank_of a) cs)) = subst (λ (z : ℕ). IsFilledFrom (stored cs) c (w - c - 1) (blank_of a) (stored (fill z c (blank_of a) cs))) (sym n) (IsFilledFrom-fill (w - c - 1) c (blank_of a) cs) in
        elim (cases_lt k c) [
          | inr u ↦ (let t : leb c k ≡ true = le-leb c k u in rw t (elim (cases_lt k (c + (w - c - 1))) [
            | inl v ↦ g.narrow k refl u v
            | inr v ↦ (let z : k ≡ c + (w - c - 1) = omega arith in ap (stored (fill (w - c) c (blank_of a) cs)) z ∙ g.last)
          ]))
          | inl u ↦ (let t : leb c k ≡ false = lt_leb c k u in rw t (elim (cases_eq (suc k) c) [
            | inr v ↦ (let no : (eqb (suc k) c && is_wide (stored cs k)) ≡ false = and_left _ _ (ne_eqb (suc k) c v) in rw no (g.below k (omega arith)))
            | inl v ↦ elim (cases_Bool (is_wide (stored cs k))) [
              | inl y ↦ (let yes : (eqb (suc k) c && is_wide (stored cs k)) ≡ true = and_from _ _ (eq-eqb (suc k) c v) y in rw yes (g.torn k (omega arith) y))
              | inr y ↦ (let no : (eqb (suc k) c && is_wide (stored cs k)) ≡ false = and_right _ _ y in rw no (g.kept k (omega arith) y))
            ]
          ]))
        ]
      where
        lt_leb : (m n : ℕ) → n < m → leb m n ≡ false
        lt_leb m n q = grind (arith, nat_tests)

-- pruning
is_blank-Decides : (c : CellValue) → Decides (is_blank c) (c ≡ blank)
is_blank-Decides c = cell_eq-Decides c blank

-- the row shows a default blank at column x
record ShowsBlank (r : List CellValue) (x : ℕ) : Type 0 where
  is : stored r x ≡ blank
  shown : is_hidden r x ≡ false

tested : (r : List CellValue) (x : ℕ) → ShowsBlank r x → (is_blank (stored r x) && not (is_hidden r x)) ≡ true
tested r x s = and_from _ _ ((is_blank-Decides (stored r x)).1 s.is) (not_from_false _ s.shown)

test_means : (r : List CellValue) (x : ℕ) → (is_blank (stored r x) && not (is_hidden r x)) ≡ true → ShowsBlank r x
test_means r x t = let p = and_parts _ _ t in record { is = (is_blank-Decides (stored r x)).0 p.0; shown = not-true _ p.1 }

ends_le : (r : List CellValue) (n : ℕ) → ends r n ≤ n
ends_le r zero = omega arith
ends_le r (suc n) = elim (cases_Bool (is_blank (stored r n) && not (is_hidden r n))) [ inl t ↦ (let i : ends r n ≤ n = ends_le r n in rw t (omega arith)) | inr t ↦ rw t (omega arith) ]

ends_after : (r : List CellValue) (n x : ℕ) → ends r n ≤ x → x < n → ShowsBlank r x
ends_after r zero x u l = absurd (omega arith)
ends_after r (suc n) x u l = go (ends_after r n x) (cases_Bool (is_blank (stored r n) && not (is_hidden r n)))
  where
    go : (ends r n ≤ x → x < n → ShowsBlank r x) → ((is_blank (stored r n) && not (is_hidden r n)) ≡ true) ⊎ ((is_blank (stored r n) && not (is_hidden r n)) ≡ false) → ShowsBlank r x
    go rec (inl t) = (let v : ends r n ≤ x = rw t at u in elim (cases_eq x n) [ inl z ↦ subst (ShowsBlank r) (sym z) (test_means r n t) | inr z ↦ rec v (omega arith) ])
    go rec (inr t) = (let v : suc n ≤ x = rw t at u in absurd (omega arith))

ends_least : (r : List CellValue) (n j : ℕ) → ((x : ℕ) → j ≤ x → x < n → ShowsBlank r x) → ends r n ≤ j
ends_least r zero j h = omega arith
ends_least r (suc n) j h = elim (cases_lt n j) [
  | inl u ↦ (let i : ends r (suc n) ≤ suc n = ends_le r (suc n) in omega arith)
  | inr u ↦ (let t = tested r n (h n u (omega arith)) in rw t (ends_least r n j (λ x v l. h x v (omega arith))))
]

formed : (f : List ℕ → ℕ) (w : ℕ) (cs : List CellValue) → IsStored f w cs → IsFormed cs
formed f w cs s = record { halves = λ x l t. let p : length cs ≤ w = s.within in s.halves x (omega arith) t }

module _ (f : List ℕ → ℕ) (w : ℕ) (cs : List CellValue) (s : IsStored f w cs) where
  p : length cs ≤ w
  p = s.within

  row_at_ : (x : ℕ) → x < w → stored (row_of w cs) x ≡ stored cs x
  row_at_ x l = row_stored w cs x (halved f w cs s) l

  hidden_is : (x : ℕ) → x < length cs → is_hidden (row_of w cs) x ≡ covered cs x
  hidden_is zero l = refl
  hidden_is (suc x) l = (let n : suc x - 1 ≡ x = omega arith in rw (lt-ltb 0 (suc x) (omega arith), n) (ap is_wide (row_at_ x (omega arith))))

  -- the row shows a blank where the stored list does, and past its end
  shows_stored : (x : ℕ) → x < length cs → cell_at (visible cs) x ≡ Some blank → ShowsBlank (row_of w cs) x
  shows_stored x l e = (
      let c : cond (covered cs x) None (Some (stored cs x)) ≡ Some blank = sym (cell_at-visible cs x (formed f w cs s) l) ∙ e in
      elim (cases_Bool (covered cs x)) [
        | inl t ↦ (let bad : None ≡ Some blank = rw t at c in absurd (cc))
        | inr t ↦ (let good : Some (stored cs x) ≡ Some blank = rw t at c in record { is = row_at_ x (omega arith) ∙ (cc); shown = hidden_is x l ∙ t })
      ])

  shows_past : (x : ℕ) → length cs ≤ x → x < w → ShowsBlank (row_of w cs) x
  shows_past zero g l = (let q : 0 < length cs = s.some in absurd (omega arith))
  shows_past (suc x) g l = record {
    is = row_at_ (suc x) l ∙ get_or_past cs (suc x) blank g;
    shown = ap is_wide (row_at_ x (omega arith)) ∙ elim (cases_Bool (is_wide (stored cs x))) [ inr t ↦ t | inl t ↦ (let q : suc x < length cs = s.closed x l t in absurd (omega arith)) ];
  }

  stored_shows : (x : ℕ) → x < length cs → ShowsBlank (row_of w cs) x → cell_at (visible cs) x ≡ Some blank
  stored_shows x l b = (let t : covered cs x ≡ false = sym (hidden_is x l) ∙ b.shown in cell_at-visible cs x (formed f w cs s) l ∙ rw t (ap Some (sym (row_at_ x (omega arith)) ∙ b.is)))

  ends_kept : (k : ℕ) → IsKept cs k → ends (row_of w cs) w ≡ k
  ends_kept k h =
      let above : ends (row_of w cs) w ≤ k = ends_least (row_of w cs) w k (λ x u l. elim (cases_lt x (length cs)) [ inl v ↦ shows_stored x v (h.blank_after x u v) | inr v ↦ shows_past x v l ]) in
      let below : k ≤ ends (row_of w cs) w = h.least (ends (row_of w cs) w) (λ x u v. stored_shows x v (ends_after (row_of w cs) w x u (omega (arith, p)))) in
      omega arith

  module _ (new : List CellValue) (pr : IsPruned cs new) where
    kept_in : pr.kept ≤ length cs
    kept_in = pr.is_kept.within

    same : (x : ℕ) → stored new x ≡ stored cs x
    same = stored-pruned cs new pr

    length-new : ((0 < pr.kept) × (length new ≡ pr.kept)) ⊎ ((pr.kept ≡ 0) × (length new ≡ length cs))
    length-new = elim (cases_lt 0 pr.kept) [
      | inl q ↦ inl (q, ap length (pr.cut q) ∙ length-take pr.kept cs ∙ omega (arith, kept_in))
      | inr q ↦ inr (omega arith, ap length (pr.nothing_left (omega arith)))
    ]

    pub row-pruned : row_of w new ≡ row_of w cs
    row-pruned = row_ext w new (row_of w cs) (record { halves = λ k l t. same (suc k) ∙ s.halves k l (sym (ap is_wide (same k)) ∙ t) ∙ ap half (sym (same k)) }) (length-row_of w cs) (λ k l. same k ∙ sym (row_at_ k l))

    pub length-pruned : length new ≡ pruned_length (row_of w cs) (length cs)
    length-pruned =
        let e : ends (row_of w cs) (length (row_of w cs)) ≡ pr.kept = ap (ends (row_of w cs)) (length-row_of w cs) ∙ ends_kept pr.kept pr.is_kept in
        rw e (elim length-new [
          | inl q ↦ elim (cases_lt pr.kept (length cs)) [
            | inl l ↦ rw (lt-ltb 0 pr.kept q.0, lt-ltb pr.kept (length cs) l) q.1
            | inr l ↦ rw (lt-ltb 0 pr.kept q.0, le-ltb pr.kept (length cs) l) (q.1 ∙ omega (arith, kept_in))
          ]
          | inr q ↦ rw (q.0) q.1
        ])

    pruned_closed : (k : ℕ) → suc k < w → is_wide (stored new k) ≡ true → suc k < length new
    pruned_closed k l t =
        let old : is_wide (stored cs k) ≡ true = sym (ap is_wide (same k)) ∙ t in
        let in_old : suc k < length cs = s.closed k l old in
        elim length-new [
          | inr q ↦ omega (arith, q.1)
          | inl q ↦ elim (cases_lt (suc k) pr.kept) [
            | inl u ↦ omega (arith, q.1)
            | inr u ↦ (let b = shows_stored (suc k) in_old (pr.is_kept.blank_after (suc k) u in_old) in absurd (true≢false (sym old ∙ sym (ap is_wide (row_at_ k (omega arith))) ∙ b.shown)))
          ]
        ]

    pub IsStored-pruned : IsStored f w new
    IsStored-pruned = record {
      some = let q : 0 < length cs = s.some in elim length-new [ inl v ↦ omega (arith, v.0, v.1) | inr v ↦ omega (arith, v.1) ];
      within = elim length-new [ inl v ↦ omega (arith, v.1, kept_in, p) | inr v ↦ omega (arith, v.1, p) ];
      halves = λ k l t. same (suc k) ∙ s.halves k l (sym (ap is_wide (same k)) ∙ t) ∙ ap half (sym (same k));
      closed = pruned_closed;
      measured = λ k. subst (IsMeasured f) (sym (same k)) (s.measured k);
    }
