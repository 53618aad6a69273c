-- Painting and clearing a row by what is shown.
use Rattle.std.proofs.Common.{◌≡◌, ℕ, zero, suc, ◌<◌, ◌≤◌, true, false, List, arith, ◌≢◌, inl, inr, ◌⊎◌, refl, sym, ap, ◌∙◌, subst}
use Rattle.std.proofs.lemmas.Bool.{cases_lt, cases_eq, cases_Bool, false≢true}
use Rattle.termwiz_cell.specs.Attributes.{Attributes}
use Rattle.termwiz_cell.specs.CellValue.{CellValue, blank_of, half, is_wide}
use Rattle.termwiz_storage.specs.Stored.{stored}
use Rattle.termwiz_line.specs.Row.{IsRow, is_hidden, paint, clear}
use Rattle.termwiz_line.specs.Shows.{Shows, Covers, Stays, Remains, IsPainted, IsCleared}
use Rattle.termwiz_line.proofs.RowPainting.{length-paint, paint_here, paint_second, paint_other, paint_before, paint_broken, length-clear, clear_from, clear_left, clear_broken}
use Rattle.termwiz_line.proofs.RowVisible.{hidden_narrow}

pub hidden_at : (r : List CellValue) (j k : ℕ) → suc j ≡ k → is_hidden r k ≡ is_wide (stored r j)
hidden_at r j k e = ap (is_hidden r) (sym e)

pub paint_settled : (w : ℕ) (r : List CellValue) (c : ℕ) (x : CellValue) → IsRow w r → c < w → (k : ℕ) → suc k < w → is_wide (stored (paint r c x) k) ≡ true →
    stored (paint r c x) (suc k) ≡ half (stored (paint r c x) k)
paint_settled w r c x rr l k m h =
    elim (cases_eq k c) [
      | inl e ↦ here e
      | inr n ↦ elim (cases_eq (suc k) c) [
        | inl e ↦ absurd (false≢true (sym (paint_before r c x k e (omega (arith, rr.width))) ∙ h))
        | inr p ↦ elim (cases_eq k (suc c)) [
          | inl e ↦ elim (cases_Bool (is_wide x)) [
            | inl t ↦ absurd (false≢true (sym (ap is_wide (paint_second r c x k e (omega (arith, rr.width)) t)) ∙ h))
            | inr f ↦ else n p (λ q. f)
          ]
          | inr q ↦ else n p (λ z. absurd (q z))
        ]
      ]
    ]
  where
    here : k ≡ c → stored (paint r c x) (suc k) ≡ half (stored (paint r c x) k)
    here e =
        let s : stored (paint r c x) k ≡ x = paint_here r c x k e (omega (arith, rr.width)) in
        paint_second r c x (suc k) (ap suc e) (omega (arith, rr.width)) (sym (ap is_wide s) ∙ h) ∙ ap half (sym s)

    else : k ≢ c → suc k ≢ c → (k ≡ suc c → is_wide x ≡ false) → stored (paint r c x) (suc k) ≡ half (stored (paint r c x) k)
    else n p q =
        let s : stored (paint r c x) k ≡ stored r k = paint_other r c x k n q (λ e. absurd (p e)) in
        let old : stored r (suc k) ≡ half (stored r k) = rr.settled k m (sym (ap is_wide s) ∙ h) in
        paint_other r c x (suc k) p (λ e. absurd (omega arith)) (λ e. ap is_wide old) ∙ old ∙ ap half (sym s)

pub paint_row : (w : ℕ) (r : List CellValue) (c : ℕ) (x : CellValue) → IsRow w r → c < w → IsRow w (paint r c x)
paint_row w r c x rr l = record { width = length-paint r c x ∙ rr.width; settled = paint_settled w r c x rr l }

-- a wide cell is visible
pub wide_shows : (w : ℕ) (r : List CellValue) (k : ℕ) → IsRow w r → k < w → is_wide (stored r k) ≡ true → Shows w r k (stored r k)
wide_shows w r k rr l h = record {
  inside = l;
  visible = elim (cases_Bool (is_hidden r k)) [ inr f ↦ f | inl t ↦ absurd (false≢true (sym (hidden_narrow w r k rr l t) ∙ h)) ];
  same = refl;
}

module _ (w : ℕ) (r : List CellValue) (c : ℕ) (x : CellValue) (rr : IsRow w r) (lc : c < w) where
  -- is a column hidden after the paint: the one after a wide x, and those that were, unless their cell was broken
  hidden_same : (k : ℕ) → k ≢ c → k ≢ suc c → (k ≡ suc (suc c) → is_wide x ≡ false) → is_hidden (paint r c x) k ≡ is_hidden r k
  hidden_same zero n m o = refl
  hidden_same (suc k) n m o = ap is_wide (paint_other r c x k (λ e. m (ap suc e)) (λ e. o (ap suc e)) (λ e. absurd (n e)))

  hidden_here : is_hidden (paint r c x) c ≡ false
  hidden_here = go c refl
    where
      go : (k : ℕ) → k ≡ c → is_hidden (paint r c x) k ≡ false
      go zero e = refl
      go (suc k) e = paint_before r c x k e (omega (arith, rr.width))

  hidden_second : is_hidden (paint r c x) (suc c) ≡ is_wide x
  hidden_second = ap is_wide (paint_here r c x c refl (omega (arith, rr.width)))

  hidden_third : suc c < w → is_wide x ≡ true → is_hidden (paint r c x) (suc (suc c)) ≡ false
  hidden_third l h = ap is_wide (paint_second r c x (suc c) refl (omega (arith, rr.width)) h)

  covers_start : Covers w c x c
  covers_start = record { inside = lc; reaches = inl refl }

  shown_from : (k : ℕ) (y : CellValue) → Shows w (paint r c x) k y → ((k ≡ c) × (y ≡ x)) ⊎ (Stays w r (Covers w c x) k y ⊎ Remains w r (Covers w c x) k y)
  shown_from k y s = by (cases_eq k c) (cases_eq k (suc c)) (cases_eq (suc k) c)
    where
      Goal : Type 0
      Goal = ((k ≡ c) × (y ≡ x)) ⊎ (Stays w r (Covers w c x) k y ⊎ Remains w r (Covers w c x) k y)

      -- the cell stood there, and x covers neither of its columns
      stays : is_hidden r k ≡ false → stored r k ≡ y → ((j : ℕ) → Covers w k y j → Covers w c x j → ⊥) → ((k ≡ c) × (y ≡ x)) ⊎ (Stays w r (Covers w c x) k y ⊎ Remains w r (Covers w c x) k y)
      stays h e n = inr (inl (record { shown = record { inside = s.inside; visible = h; same = e }; apart = n }))

      -- a wide cell at place d stood there, and x covers its other column
      remains : (d : ℕ) → d < w → is_wide (stored r d) ≡ true → (k ≡ d) ⊎ (k ≡ suc d) → (Covers w c x k → ⊥) → (j : ℕ) → (j ≡ d) ⊎ (j ≡ suc d) → Covers w c x j → y ≡ half (stored r d) →
          ((k ≡ c) × (y ≡ x)) ⊎ (Stays w r (Covers w c x) k y ⊎ Remains w r (Covers w c x) k y)
      remains d l h p f j q m e = inr (inr (record {
        place = d;
        old = stored r d;
        shown = wide_shows w r d rr l h;
        wide = h;
        here = covers k p s.inside;
        free = f;
        lost = (j, covers j q m.inside, m);
        blank = e;
      }))
        where
          covers : (j : ℕ) → (j ≡ d) ⊎ (j ≡ suc d) → j < w → Covers w d (stored r d) j
          covers j (inl o) i = record { inside = i; reaches = inl o }
          covers j (inr o) i = record { inside = i; reaches = inr (o, h) }

      by : (k ≡ c) ⊎ (k ≢ c) → (k ≡ suc c) ⊎ (k ≢ suc c) → (suc k ≡ c) ⊎ (suc k ≢ c) → ((k ≡ c) × (y ≡ x)) ⊎ (Stays w r (Covers w c x) k y ⊎ Remains w r (Covers w c x) k y)
      by (inl e) b d = inl (e, sym s.same ∙ paint_here r c x k e (omega (arith, rr.width)))
      by (inr a) (inl e) d = after (cases_Bool (is_wide x)) (cases_Bool (is_wide (stored r c)))
        where
          after : (is_wide x ≡ true) ⊎ (is_wide x ≡ false) → (is_wide (stored r c) ≡ true) ⊎ (is_wide (stored r c) ≡ false) → ((k ≡ c) × (y ≡ x)) ⊎ (Stays w r (Covers w c x) k y ⊎ Remains w r (Covers w c x) k y)
          after (inl t) o = absurd (false≢true (sym s.visible ∙ ap (is_hidden (paint r c x)) e ∙ hidden_second ∙ t))
          after (inr f) (inl t) =
              let kept : stored (paint r c x) k ≡ stored r k = paint_other r c x k a (λ z. f) (λ z. absurd (omega arith)) in
              remains c lc t (inr e) (λ v. elim v.reaches [ inl z ↦ a z | inr z ↦ absurd (false≢true (sym f ∙ z.1)) ]) c (inl refl) covers_start
              (sym s.same ∙ kept ∙ ap (stored r) e ∙ rr.settled c (omega (arith, s.inside)) t)
          after (inr f) (inr g) =
              stays (hidden_at r c k (sym e) ∙ g) (sym (paint_other r c x k a (λ z. f) (λ z. absurd (omega arith))) ∙ s.same)
              (λ j p q. apart j p.reaches q.reaches)
            where
              apart : (j : ℕ) → (j ≡ k) ⊎ ((j ≡ suc k) × (is_wide y ≡ true)) → (j ≡ c) ⊎ ((j ≡ suc c) × (is_wide x ≡ true)) → ⊥
              apart j p (inr q) = false≢true (sym f ∙ q.1)
              apart j (inl p) (inl q) = omega arith
              apart j (inr p) (inl q) = omega (arith, p.0)
      by (inr a) (inr b) (inl e) = before (cases_Bool (is_wide (stored r k)))
        where
          before : (is_wide (stored r k) ≡ true) ⊎ (is_wide (stored r k) ≡ false) → ((k ≡ c) × (y ≡ x)) ⊎ (Stays w r (Covers w c x) k y ⊎ Remains w r (Covers w c x) k y)
          before (inl t) = remains k s.inside t (inl refl) (λ v. elim v.reaches [ inl z ↦ a z | inr z ↦ b z.0 ]) c (inr (sym e)) covers_start
              (sym s.same ∙ paint_broken r c x k e (omega (arith, rr.width)) t)
          before (inr f) =
              let kept : stored (paint r c x) k ≡ stored r k = paint_other r c x k a (λ z. absurd (b z)) (λ z. f) in
              stays (sym (hidden_same k a b (λ z. absurd (omega arith))) ∙ s.visible) (sym kept ∙ s.same)
              (λ j p q. apart j (ap is_wide (sym s.same ∙ kept) ∙ f) p.reaches q.reaches)
            where
              apart : (j : ℕ) → is_wide y ≡ false → (j ≡ k) ⊎ ((j ≡ suc k) × (is_wide y ≡ true)) → (j ≡ c) ⊎ ((j ≡ suc c) × (is_wide x ≡ true)) → ⊥
              apart j n (inr p) q = false≢true (sym n ∙ p.1)
              apart j n (inl p) (inl q) = omega arith
              apart j n (inl p) (inr q) = omega (arith, q.0)
      by (inr a) (inr b) (inr d) = away (cases_eq k (suc (suc c))) (cases_Bool (is_wide x)) (cases_Bool (is_wide (stored r (suc c))))
        where
          kept : stored (paint r c x) k ≡ stored r k
          kept = paint_other r c x k a (λ z. absurd (b z)) (λ z. absurd (d z))

          apart : (j : ℕ) → (j ≡ k) ⊎ ((j ≡ suc k) × (is_wide y ≡ true)) → (j ≡ c) ⊎ ((j ≡ suc c) × (is_wide x ≡ true)) → ⊥
          apart j (inl p) (inl q) = omega arith
          apart j (inl p) (inr q) = omega (arith, q.0)
          apart j (inr p) (inl q) = omega (arith, p.0)
          apart j (inr p) (inr q) = omega (arith, p.0, q.0)

          away : (k ≡ suc (suc c)) ⊎ (k ≢ suc (suc c)) → (is_wide x ≡ true) ⊎ (is_wide x ≡ false) → (is_wide (stored r (suc c)) ≡ true) ⊎ (is_wide (stored r (suc c)) ≡ false) →
              ((k ≡ c) × (y ≡ x)) ⊎ (Stays w r (Covers w c x) k y ⊎ Remains w r (Covers w c x) k y)
          away (inl e) (inl t) (inl u) =
              remains (suc c) (omega (arith, s.inside)) u (inr e) (λ v. elim v.reaches [ inl z ↦ a z | inr z ↦ b z.0 ]) (suc c) (inl refl)
              (record { inside = omega (arith, s.inside); reaches = inr (refl, t) }) (sym s.same ∙ kept ∙ ap (stored r) e ∙ rr.settled (suc c) (omega (arith, s.inside)) u)
          away (inl e) (inl t) (inr g) = stays (hidden_at r (suc c) k (sym e) ∙ g) (sym kept ∙ s.same) (λ j p q. apart j p.reaches q.reaches)
          away (inl e) (inr f) o = stays (sym (hidden_same k a b (λ z. f)) ∙ s.visible) (sym kept ∙ s.same) (λ j p q. apart j p.reaches q.reaches)
          away (inr e) t o = stays (sym (hidden_same k a b (λ z. absurd (e z))) ∙ s.visible) (sym kept ∙ s.same) (λ j p q. apart j p.reaches q.reaches)

  shown_to : (k : ℕ) (y : CellValue) → ((k ≡ c) × (y ≡ x)) ⊎ (Stays w r (Covers w c x) k y ⊎ Remains w r (Covers w c x) k y) → Shows w (paint r c x) k y
  shown_to k y (inl e) = record { inside = omega (arith, e.0); visible = ap (is_hidden (paint r c x)) e.0 ∙ hidden_here; same = paint_here r c x k e.0 (omega (arith, rr.width)) ∙ sym e.1 }
  shown_to k y (inr (inl s)) = record { inside = s.shown.inside; visible = visible (cases_eq k (suc c)); same = paint_other r c x k a b d ∙ s.shown.same }
    where
      own : Covers w k y k
      own = record { inside = s.shown.inside; reaches = inl refl }

      a : k ≢ c
      a e = s.apart k own (record { inside = s.shown.inside; reaches = inl e })

      b : k ≡ suc c → is_wide x ≡ false
      b e = elim (cases_Bool (is_wide x)) [ inr f ↦ f | inl t ↦ absurd (s.apart k own (record { inside = s.shown.inside; reaches = inr (e, t) })) ]

      d : suc k ≡ c → is_wide (stored r k) ≡ false
      d e = elim (cases_Bool (is_wide (stored r k))) [
        | inr f ↦ f
        | inl t ↦ absurd (s.apart c (record { inside = lc; reaches = inr (sym e, ap is_wide (sym s.shown.same) ∙ t) }) covers_start)
      ]

      visible : (k ≡ suc c) ⊎ (k ≢ suc c) → is_hidden (paint r c x) k ≡ false
      visible (inl e) = ap (is_hidden (paint r c x)) e ∙ hidden_second ∙ b e
      visible (inr n) = elim (cases_Bool (is_wide x)) [
        | inr f ↦ hidden_same k a n (λ z. f) ∙ s.shown.visible
        | inl t ↦ elim (cases_eq k (suc (suc c))) [
          | inl e ↦ ap (is_hidden (paint r c x)) e ∙ hidden_third (omega (arith, s.shown.inside)) t
          | inr m ↦ hidden_same k a n (λ z. absurd (m z)) ∙ s.shown.visible
        ]
      ]
  shown_to k y (inr (inr m)) = by m.here.reaches m.lost.1.reaches m.lost.2.reaches
    where
      lk : k < w
      lk = m.here.inside

      wide_there : is_wide (stored r m.place) ≡ true
      wide_there = ap is_wide m.shown.same ∙ m.wide

      half_is : half (stored r m.place) ≡ y
      half_is = ap half m.shown.same ∙ sym m.blank

      a : k ≢ c
      a e = m.free (record { inside = lk; reaches = inl e })

      b : k ≡ suc c → is_wide x ≡ false
      b e = elim (cases_Bool (is_wide x)) [ inr f ↦ f | inl t ↦ absurd (m.free (record { inside = lk; reaches = inr (e, t) })) ]

      by : (k ≡ m.place) ⊎ ((k ≡ suc m.place) × (is_wide m.old ≡ true)) → (m.lost.0 ≡ m.place) ⊎ ((m.lost.0 ≡ suc m.place) × (is_wide m.old ≡ true)) →
          (m.lost.0 ≡ c) ⊎ ((m.lost.0 ≡ suc c) × (is_wide x ≡ true)) → Shows w (paint r c x) k y
      by (inl e) (inl f) q = absurd (m.free (subst (Covers w c x) (f ∙ sym e) m.lost.2))
      by (inl e) (inr f) (inr q) = absurd (a (omega (arith, f.0, q.0)))
      by (inl e) (inr f) (inl q) =
          let o : suc k ≡ c = omega (arith, f.0) in
          record {
            inside = lk;
            visible = hidden_same k a (λ z. absurd (omega arith)) (λ z. absurd (omega arith)) ∙ ap (is_hidden r) e ∙ m.shown.visible;
            same = paint_broken r c x k o (omega (arith, rr.width)) (ap (λ n. is_wide (stored r n)) e ∙ wide_there) ∙ ap (λ n. half (stored r n)) e ∙ half_is;
          }
      by (inr e) (inr f) q = absurd (m.free (subst (Covers w c x) (f.0 ∙ sym e.0) m.lost.2))
      by (inr e) (inl f) (inl q) =
          let o : k ≡ suc c = omega (arith, e.0) in
          record {
            inside = lk;
            visible = ap (is_hidden (paint r c x)) o ∙ hidden_second ∙ b o;
            same = paint_other r c x k a b (λ z. absurd (omega arith)) ∙ ap (stored r) e.0 ∙ rr.settled m.place (omega (arith, lk, e.0)) wide_there ∙ half_is;
          }
      by (inr e) (inl f) (inr q) =
          let o : k ≡ suc (suc c) = omega (arith, e.0, q.0) in
          record {
            inside = lk;
            visible = ap (is_hidden (paint r c x)) o ∙ hidden_third (omega (arith, lk)) q.1;
            same = paint_other r c x k a b (λ z. absurd (omega arith)) ∙ ap (stored r) e.0 ∙ rr.settled m.place (omega (arith, lk, e.0)) wide_there ∙ half_is;
          }

  pub paint_is_painted : IsPainted w r c x (paint r c x)
  paint_is_painted = λ k y. (shown_from k y, shown_to k y)

-- clearing, likewise
module _ (w : ℕ) (r : List CellValue) (c : ℕ) (a : Attributes) (rr : IsRow w r) (lc : c < w) where
  left_same : (k : ℕ) → suc k < c → stored (clear r c (blank_of a)) k ≡ stored r k
  left_same k l = clear_left r c (blank_of a) k (omega (arith, rr.width)) (omega arith) (λ e. absurd (omega arith))

  -- the column before c holds nothing wide
  edge_narrow : (k : ℕ) → suc k ≡ c → is_wide (stored (clear r c (blank_of a)) k) ≡ false
  edge_narrow k e = elim (cases_Bool (is_wide (stored r k))) [
    | inl t ↦ ap is_wide (clear_broken r c (blank_of a) k (omega (arith, rr.width)) e t)
    | inr f ↦ ap is_wide (clear_left r c (blank_of a) k (omega (arith, rr.width)) (omega arith) (λ z. f)) ∙ f
  ]

  visible_from : (k : ℕ) → c ≤ k → k < w → is_hidden (clear r c (blank_of a)) k ≡ false
  visible_from zero l m = refl
  visible_from (suc k) l m = elim (cases_eq (suc k) c) [
    | inl e ↦ edge_narrow k e
    | inr n ↦ ap is_wide (clear_from r c (blank_of a) k (omega (arith, rr.width)) (omega arith))
  ]

  hidden_left : (k : ℕ) → k < c → is_hidden (clear r c (blank_of a)) k ≡ is_hidden r k
  hidden_left zero l = refl
  hidden_left (suc k) l = ap is_wide (left_same k l)

  cleared_shown_from : (k : ℕ) (y : CellValue) → Shows w (clear r c (blank_of a)) k y → ((c ≤ k) × (k < w) × (y ≡ blank_of a)) ⊎ (Stays w r (λ j. c ≤ j) k y ⊎ Remains w r (λ j. c ≤ j) k y)
  cleared_shown_from k y s = by (cases_lt k c) (cases_eq (suc k) c) (cases_Bool (is_wide (stored r k)))
    where
      stays : k < c → stored (clear r c (blank_of a)) k ≡ stored r k → (is_wide y ≡ true → suc k < c) → ((c ≤ k) × (k < w) × (y ≡ blank_of a)) ⊎ (Stays w r (λ j. c ≤ j) k y ⊎ Remains w r (λ j. c ≤ j) k y)
      stays l e n = inr (inl (record {
        shown = record { inside = s.inside; visible = sym (hidden_left k l) ∙ s.visible; same = sym e ∙ s.same };
        apart = λ j p q. elim p.reaches [ inl o ↦ omega arith | inr o ↦ omega (arith, o.0, n o.1) ];
      }))

      by : (k < c) ⊎ (c ≤ k) → (suc k ≡ c) ⊎ (suc k ≢ c) → (is_wide (stored r k) ≡ true) ⊎ (is_wide (stored r k) ≡ false) → ((c ≤ k) × (k < w) × (y ≡ blank_of a)) ⊎ (Stays w r (λ j. c ≤ j) k y ⊎ Remains w r (λ j. c ≤ j) k y)
      by (inr l) e t = inl (l, s.inside, sym s.same ∙ clear_from r c (blank_of a) k (omega (arith, rr.width, s.inside)) l)
      by (inl l) (inr n) t = stays l (left_same k (omega arith)) (λ z. omega arith)
      by (inl l) (inl e) (inr f) =
          let kept : stored (clear r c (blank_of a)) k ≡ stored r k = clear_left r c (blank_of a) k (omega (arith, rr.width)) l (λ z. f) in
          stays l kept (λ z. absurd (false≢true (sym (ap is_wide (sym s.same ∙ kept) ∙ f) ∙ z)))
      by (inl l) (inl e) (inl t) = inr (inr (record {
        place = k;
        old = stored r k;
        shown = record { inside = s.inside; visible = sym (hidden_left k l) ∙ s.visible; same = refl };
        wide = t;
        here = record { inside = s.inside; reaches = inl refl };
        free = λ z. omega arith;
        lost = (c, record { inside = lc; reaches = inr (sym e, t) }, omega arith);
        blank = sym s.same ∙ clear_broken r c (blank_of a) k (omega (arith, rr.width)) e t;
      }))

  cleared_shown_to : (k : ℕ) (y : CellValue) → ((c ≤ k) × (k < w) × (y ≡ blank_of a)) ⊎ (Stays w r (λ j. c ≤ j) k y ⊎ Remains w r (λ j. c ≤ j) k y) → Shows w (clear r c (blank_of a)) k y
  cleared_shown_to k y (inl e) = record { inside = e.1; visible = visible_from k e.0 e.1; same = clear_from r c (blank_of a) k (omega (arith, rr.width, e.1)) e.0 ∙ sym e.2 }
  cleared_shown_to k y (inr (inl s)) = elim (cases_lt k c) [
    | inr l ↦ absurd (s.apart k (record { inside = s.shown.inside; reaches = inl refl }) l)
    | inl l ↦ record { inside = s.shown.inside; visible = hidden_left k l ∙ s.shown.visible; same = clear_left r c (blank_of a) k (omega (arith, rr.width)) l narrow ∙ s.shown.same }
  ]
    where
      narrow : suc k ≡ c → is_wide (stored r k) ≡ false
      narrow e = elim (cases_Bool (is_wide (stored r k))) [
        | inr f ↦ f
        | inl t ↦ absurd (s.apart c (record { inside = lc; reaches = inr (sym e, ap is_wide (sym s.shown.same) ∙ t) }) (omega arith))
      ]
  cleared_shown_to k y (inr (inr m)) = by m.here.reaches m.lost.1.reaches (cases_lt k c)
    where
      by : (k ≡ m.place) ⊎ ((k ≡ suc m.place) × (is_wide m.old ≡ true)) → (m.lost.0 ≡ m.place) ⊎ ((m.lost.0 ≡ suc m.place) × (is_wide m.old ≡ true)) → (k < c) ⊎ (c ≤ k) → Shows w (clear r c (blank_of a)) k y
      by h o (inr l) = absurd (m.free l)
      by (inl e) (inl o) (inl l) = absurd (m.free (omega (arith, o, m.lost.2)))
      by (inr e) (inl o) (inl l) = absurd (m.free (omega (arith, e.0, o, m.lost.2)))
      by (inr e) (inr o) (inl l) = absurd (m.free (omega (arith, e.0, o.0, m.lost.2)))
      by (inl e) (inr o) (inl l) =
          let z : suc k ≡ c = omega (arith, o.0, m.lost.2) in
          record {
            inside = m.here.inside;
            visible = hidden_left k l ∙ ap (is_hidden r) e ∙ m.shown.visible;
            same = clear_broken r c (blank_of a) k (omega (arith, rr.width)) z (ap (λ n. is_wide (stored r n)) e ∙ ap is_wide m.shown.same ∙ m.wide)
                ∙ ap (λ n. half (stored r n)) e ∙ ap half m.shown.same ∙ sym m.blank;
          }

  pub clear_is_cleared : IsCleared w r c (blank_of a) (clear r c (blank_of a))
  clear_is_cleared = λ k y. (cleared_shown_from k y, cleared_shown_to k y)

  -- a cleared row is a row
  pub clear_row : IsRow w (clear r c (blank_of a))
  clear_row = record { width = length-clear r c (blank_of a) ∙ rr.width; settled = λ k l h. second k l h (cases_lt k c) (cases_eq (suc k) c) }
    where
      second : (k : ℕ) → suc k < w → is_wide (stored (clear r c (blank_of a)) k) ≡ true → (k < c) ⊎ (c ≤ k) → (suc k ≡ c) ⊎ (suc k ≢ c) → stored (clear r c (blank_of a)) (suc k) ≡ half (stored (clear r c (blank_of a)) k)
      second k l h (inr m) e = absurd (false≢true (sym (ap is_wide (clear_from r c (blank_of a) k (omega (arith, rr.width)) m)) ∙ h))
      second k l h (inl m) (inl e) = absurd (false≢true (sym (edge_narrow k e) ∙ h))
      second k l h (inl m) (inr n) =
          let s : stored (clear r c (blank_of a)) k ≡ stored r k = left_same k (omega arith) in
          let old : stored r (suc k) ≡ half (stored r k) = rr.settled k l (sym (ap is_wide s) ∙ h) in
          clear_left r c (blank_of a) (suc k) (omega (arith, rr.width)) (omega arith) (λ e. ap is_wide old) ∙ old ∙ ap half (sym s)
