-- Rows of stored cells, read column by column: what setting a cell and pruning do to them.
use Rattle.std.proofs.Common.{◌≡◌, ◌≢◌, ℕ, zero, suc, ◌+◌, ◌<◌, ◌≤◌, ◌⊎◌, inl, inr, true, false, cond, not, ◌&&◌, eqb, List, length, replicate, refl, sym, ◌∙◌, ap, subst, arith}
use Rattle.std.proofs.lemmas.List.{ext_get_or, get_or_past, get_or-replicate, length-replicate}
use Rattle.std.proofs.lemmas.List.FromFn.{get_or-map-range_with_len, length-map-range_with_len}
use Rattle.std.proofs.lemmas.Bool.{cases_Bool, cases_eq, cases_lt, cases_order, ne_eqb, eq-eqb, and_parts, and_right, and_from, true≢false}
use Rattle.termwiz_cell.specs.Attributes.{Attributes}
use Rattle.termwiz_cell.specs.CellValue.{CellValue, blank, blank_of, half, is_wide, columns}
use Rattle.termwiz_storage.specs.Stored.{stored, set_cell, hides, IsPruned}
use Rattle.termwiz_storage.proofs.Widths.{columns-wide, columns-narrow, wide_from, columns_bounds}
use Rattle.termwiz_storage.proofs.SetCell.{IsSet, IsSet-set_cell}
use Rattle.termwiz_line.specs.Row.{settled_at, row_of, painted, paint}
use Rattle.termwiz_line.proofs.Pruned.{stored-pruned}
use Rattle.termwiz_line.proofs.RowOf.{length-row_of, row_of_at}

-- each cell after a wide one is its half
pub record IsHalved (w : ℕ) (f : ℕ → CellValue) : Type 0 where
  pub halves : (k : ℕ) → suc k < w → is_wide (f k) ≡ true → f (suc k) ≡ half (f k)

settled_stored : (w : ℕ) (cs : List CellValue) (k : ℕ) → IsHalved w (stored cs) → k < w → settled_at cs k ≡ stored cs k
settled_stored w cs zero h l = refl
settled_stored w cs (suc k) h l = elim (cases_Bool (hides cs (suc k))) [
  | inl t ↦ rw t (sym (h.halves k l (and_parts (is_wide (stored cs k)) (not (hides cs k)) t).0))
  | inr t ↦ rw t refl
]

-- the row has what is stored
pub row_stored : (w : ℕ) (cs : List CellValue) (k : ℕ) → IsHalved w (stored cs) → k < w → stored (row_of w cs) k ≡ stored cs k
row_stored w cs k h l = row_of_at w cs k l ∙ settled_stored w cs k h l

-- rows are equal where the same is stored
pub row_ext : (w : ℕ) (cs : List CellValue) (r : List CellValue) → IsHalved w (stored cs) → length r ≡ w → ((k : ℕ) → k < w → stored cs k ≡ stored r k) → row_of w cs ≡ r
row_ext w cs r h e f = ext_get_or blank (row_of w cs) r (length-row_of w cs ∙ sym e) (λ k l.
    let m : k < w = rw length-row_of at l in
    row_stored w cs k h m ∙ f k m)

pub stored-replicate : (n x : ℕ) → stored (replicate n blank) x ≡ blank
stored-replicate n x = elim (cases_lt x n) [
  | inl l ↦ get_or-replicate n x blank blank l
  | inr g ↦ get_or_past (replicate n blank) x blank (rw length-replicate g)
]

pub row_blank : (w : ℕ) → row_of w (replicate w blank) ≡ replicate w blank
row_blank w = row_ext w (replicate w blank) (replicate w blank) (record { halves = λ k l t. absurd (true≢false (sym t ∙ ap is_wide (stored-replicate w k))) }) (length-replicate w blank) (λ k l. refl)

-- what is set is painted
pub set_painted : (f g : ℕ → CellValue) (i : ℕ) (c : CellValue) → IsSet f i c g → (k : ℕ) → g k ≡ cond (eqb k i) c (cond (is_wide c && eqb k (suc i)) (half c) (cond (eqb (suc k) i && is_wide (f k)) (half (f k)) (f k)))
set_painted f g i c s k = elim (cases_eq k i) [
  | inl e ↦ rw (eq-eqb k i e) (ap g e ∙ s.at)
  | inr n ↦ rw (ne_eqb k i n) (elim (cases_eq k (suc i)) [
    | inl e ↦ elim (cases_Bool (is_wide c)) [
      | inl v ↦
          let z : k ≡ i + 1 = omega arith in
          rw (eq-eqb k (suc i) e, v) (ap g z ∙ s.next v)
      | inr v ↦
          let one : columns c ≡ 1 = columns-narrow c v in
          let m : suc k ≢ i = omega arith in
          rw (v, ne_eqb (suc k) i m) (s.above k (omega arith))
    ]
    | inr m ↦
        let no : (is_wide c && eqb k (suc i)) ≡ false = and_right _ _ (ne_eqb k (suc i) m) in
        rw no (elim (cases_eq (suc k) i) [
          | inl e ↦
              let z : k + 1 ≡ i = omega arith in
              elim (cases_Bool (is_wide (f k))) [
                | inl v ↦ let yes : (eqb (suc k) i && is_wide (f k)) ≡ true = and_from _ _ (eq-eqb (suc k) i e) v in rw yes (s.torn k z v)
                | inr v ↦ let not_so : (eqb (suc k) i && is_wide (f k)) ≡ false = and_right _ _ v in rw not_so (s.narrow k z v)
              ]
          | inr q ↦ rw (ne_eqb (suc k) i q) (elim (cases_lt k i) [
            | inl u ↦ s.below k (omega arith)
            | inr u ↦ let two : columns c ≤ 2 = (columns_bounds c).1 in s.above k (omega arith)
          ])
        ])
  ])
]

-- what holds of a set cell, of its half and of what was there holds of what is there
pub set_keeps : (P : CellValue → Type 0) (f g : ℕ → CellValue) (i : ℕ) (c : CellValue) → IsSet f i c g → P c → ((a : Attributes) → P (blank_of a)) → ((k : ℕ) → P (f k)) → (k : ℕ) → P (g k)
set_keeps P f g i c s here blanks old k = elim (cases_order (suc k) i) [
  | inl e ↦ elim (cases_Bool (is_wide (f k))) [
    | inl t ↦ subst P (sym (s.torn k (omega arith) t)) (blanks (f k).attrs)
    | inr t ↦ subst P (sym (s.narrow k (omega arith) t)) (old k)
  ]
  | inr r ↦ elim r [
    | inl q ↦ subst P (sym (s.below k (omega arith))) (old k)
    | inr q ↦ elim (cases_lt k (i + columns c)) [
      | inl u ↦ elim (cases_eq k i) [
        | inl z ↦ subst P (sym (ap g z ∙ s.at)) here
        | inr z ↦
            let two : columns c ≤ 2 = (columns_bounds c).1 in
            let m : k ≡ i + 1 = omega arith in
            let v : is_wide c ≡ true = wide_from c (omega arith) in
            subst P (sym (ap g m ∙ s.next v)) (blanks c.attrs)
      ]
      | inr u ↦ subst P (sym (s.above k u)) (old k)
    ]
  ]
]

-- a wide cell is the one that is set, or was there before, away from it
pub wide_after : (f g : ℕ → CellValue) (i : ℕ) (c : CellValue) → IsSet f i c g → (k : ℕ) → is_wide (g k) ≡ true → ((k ≡ i) × (is_wide c ≡ true)) ⊎ ((is_wide (f k) ≡ true) × (g k ≡ f k) × (suc k ≢ i) × (k ≢ i) × (k ≡ i + 1 → is_wide c ≡ false))
wide_after f g i c s k t = elim (cases_order (suc k) i) [
  | inl e ↦ elim (cases_Bool (is_wide (f k))) [
    | inl v ↦ absurd (true≢false (sym t ∙ ap is_wide (s.torn k (omega arith) v)))
    | inr v ↦ absurd (true≢false (sym t ∙ ap is_wide (s.narrow k (omega arith) v) ∙ v))
  ]
  | inr r ↦ elim r [
    | inl q ↦
        let same : g k ≡ f k = s.below k (omega arith) in
        inr (sym (ap is_wide same) ∙ t, same, omega arith, omega arith, λ e. absurd (omega arith))
    | inr q ↦ elim (cases_lt k (i + columns c)) [
      | inl u ↦ elim (cases_eq k i) [
        | inl z ↦ inl (z, sym (ap is_wide (ap g z ∙ s.at)) ∙ t)
        | inr z ↦
            let two : columns c ≤ 2 = (columns_bounds c).1 in
            let m : k ≡ i + 1 = omega arith in
            let v : is_wide c ≡ true = wide_from c (omega arith) in
            absurd (true≢false (sym t ∙ ap is_wide (ap g m ∙ s.next v)))
      ]
      | inr u ↦
          let same : g k ≡ f k = s.above k u in
          let pos : 0 < columns c = (columns_bounds c).0 in
          inr (sym (ap is_wide same) ∙ t, same, omega arith, omega arith, λ e. elim (cases_Bool (is_wide c)) [ inl v ↦ let two : columns c ≡ 2 = columns-wide c v in absurd (omega arith) | inr v ↦ v ])
    ]
  ]
]

-- setting keeps the halves
pub set_halves : (w : ℕ) (f g : ℕ → CellValue) (i : ℕ) (c : CellValue) → IsSet f i c g → IsHalved w f → (k : ℕ) → suc k < w → is_wide (g k) ≡ true → g (suc k) ≡ half (g k)
set_halves w f g i c s h k l t = elim (wide_after f g i c s k t) [
  | inl p ↦
      let e : suc k ≡ i + 1 = let q : k ≡ i = p.0 in omega arith in
      ap g e ∙ s.next p.1 ∙ ap half (sym (ap g p.0 ∙ s.at))
  | inr p ↦
      let old : f (suc k) ≡ half (f k) = h.halves k l p.0 in
      let n1 : suc k ≢ i = p.2 in
      let n2 : k ≢ i = p.3 in
      let two : columns c ≤ 2 = (columns_bounds c).1 in
      let same : g (suc k) ≡ f (suc k) = elim (cases_order (suc (suc k)) i) [
        | inl e ↦ s.narrow (suc k) (omega arith) (ap is_wide old)
        | inr r ↦ elim r [
          | inl q ↦ s.below (suc k) (omega arith)
          | inr q ↦ s.above (suc k) (elim (cases_Bool (is_wide c)) [
            | inl v ↦ let n3 : k ≢ i + 1 = λ e. true≢false (sym v ∙ p.4 e) in omega arith
            | inr v ↦ let one : columns c ≡ 1 = columns-narrow c v in omega arith
          ])
        ]
      ] in
      same ∙ old ∙ ap half (sym p.1)
]

-- setting a cell paints it in the row
pub row-set_cell : (w c : ℕ) (x : CellValue) (cs : List CellValue) → IsHalved w (stored cs) → c < w → row_of w (set_cell c x cs) ≡ paint (row_of w cs) c x
unfolding paint
row-set_cell w c x cs h l =
    let s : IsSet (stored cs) c x (stored (set_cell c x cs)) = IsSet-set_cell c x cs in
    row_ext w (set_cell c x cs) (paint (row_of w cs) c x)
    (record { halves = λ k q t. set_halves w (stored cs) (stored (set_cell c x cs)) c x s h k q t })
    (length-map-range_with_len (painted (row_of w cs) c x) 0 (length (row_of w cs)) ∙ length-row_of w cs)
    (λ k q.
    let e : stored (paint (row_of w cs) c x) k ≡ painted (row_of w cs) c x k = get_or-map-range_with_len (painted (row_of w cs) c x) 0 (length (row_of w cs)) k k blank (rw length-row_of q) (omega arith) in
    set_painted (stored cs) (stored (set_cell c x cs)) c x s k ∙ sym (e ∙ rw (row_stored w cs k h q) refl))

-- stored cells that read alike have the same row
hides_alike : (cs ds : List CellValue) → ((x : ℕ) → stored cs x ≡ stored ds x) → (k : ℕ) → hides cs k ≡ hides ds k
hides_alike cs ds e zero = refl
hides_alike cs ds e (suc k) = ap (λ (c : CellValue). is_wide c && not (hides cs k)) (e k) ∙ ap (λ b. is_wide (stored ds k) && not b) (hides_alike cs ds e k)

settled_alike : (cs ds : List CellValue) → ((x : ℕ) → stored cs x ≡ stored ds x) → (k : ℕ) → settled_at cs k ≡ settled_at ds k
settled_alike cs ds e zero = e 0
settled_alike cs ds e (suc k) =
    ap (λ b. cond b (half (stored cs k)) (stored cs (suc k))) (hides_alike cs ds e (suc k))
    ∙ ap (λ (c : CellValue). cond (hides ds (suc k)) (half c) (stored cs (suc k))) (e k)
    ∙ ap (λ (c : CellValue). cond (hides ds (suc k)) (half (stored ds k)) c) (e (suc k))

pub row_alike : (w : ℕ) (cs ds : List CellValue) → ((x : ℕ) → stored cs x ≡ stored ds x) → row_of w cs ≡ row_of w ds
row_alike w cs ds e = ext_get_or blank (row_of w cs) (row_of w ds) (length-row_of w cs ∙ sym (length-row_of w ds)) (λ k l.
    let m : k < w = rw length-row_of at l in
    row_of_at w cs k m ∙ settled_alike cs ds e k ∙ sym (row_of_at w ds k m))

-- pruning is not seen
pub row-pruned : (w : ℕ) (old new : List CellValue) → IsPruned old new → row_of w new ≡ row_of w old
row-pruned w old new p = row_alike w new old (stored-pruned old new p)
