-- Painting what is needed of a region shows the region, where no wide cell crosses its edges. A whole row is the region at 0 of its width.
use Rattle.std.proofs.Common.{◌≡◌, ℕ, zero, suc, ◌+◌, ◌-◌, ◌<◌, ◌≤◌, true, false, not, cond, List, [], ◌∷◌, length, arith, ◌≢◌, inl, inr, ◌⊎◌, ◌↔◌, append-nil, le_refl, add-zero, refl, sym, ap, ◌∙◌, subst}
use Rattle.std.proofs.lemmas.List.{get_or_past}
use Rattle.std.proofs.lemmas.List.Sums.{fold-append}
use Rattle.std.proofs.lemmas.Bool.{cases_lt, cases_eq, cases_order, cases_Bool, and_parts, false≢true}
use Rattle.termwiz_line.specs.Row.{IsRow, is_hidden, paint}
use Rattle.termwiz_cell.specs.CellValue.{CellValue, blank, half, is_wide, cell_eq, cell_eq-Decides}
use Rattle.termwiz_storage.specs.Stored.{stored}
use Rattle.termwiz_storage.specs.VisibleCell.{at_column}
use Rattle.termwiz_screen.specs.Diff.{shows, row_need}
use Rattle.termwiz_screen.specs.DiffRegions.{IsIn, NoneCrosses, BothEnd, CrossesNone, HasRegion}
use Rattle.termwiz_line.proofs.RowPainting.{length-paint, paint_here, paint_second, paint_other}
use Rattle.termwiz_line.proofs.RowShows.{hidden_at, wide_shows}
use Rattle.termwiz_line.proofs.RowVisible.{paint_all, hidden_narrow}

-- what the walk over a region needs of its edges
record EdgesFree (v w : ℕ) (a : List CellValue) (p : ℕ) (b : List CellValue) (q n : ℕ) : Type 0 where
  pub own_start : is_hidden a p ≡ false
  pub other_start : is_hidden b q ≡ false
  pub ends : ((is_hidden a (p + n) ≡ false) × (is_hidden b (q + n) ≡ false)) ⊎ ((p + n ≡ v) × (q + n ≡ w))

-- how far the region's walk has settled
abbrev span : List CellValue → ℕ → ℕ → ℕ
span b q k = cond (is_hidden b (q + k)) (suc k) k

record RegionUpto (v : ℕ) (a : List CellValue) (p : ℕ) (b : List CellValue) (q k : ℕ) (s : List CellValue) : Type 0 where
  pub width : length s ≡ v
  pub inside : (i : ℕ) → i < span b q k → stored s (p + i) ≡ stored b (q + i)
  pub outside : (j : ℕ) → (j < p) ⊎ (p + span b q k ≤ j) → stored s j ≡ stored a j

span_hidden : (b : List CellValue) (q k : ℕ) → is_hidden b (q + k) ≡ true → span b q k ≡ suc k
span_hidden b q k h = rw h

span_visible : (b : List CellValue) (q k : ℕ) → is_hidden b (q + k) ≡ false → span b q k ≡ k
span_visible b q k h = rw h

-- the next span, by the cell that stands here
span_wide : (b : List CellValue) (q k : ℕ) → is_wide (stored b (q + k)) ≡ true → span b q (suc k) ≡ suc (suc k)
span_wide b q k h = span_hidden b q (suc k) (hidden_at b (q + k) (q + suc k) (omega arith) ∙ h)

span_narrow : (b : List CellValue) (q k : ℕ) → is_wide (stored b (q + k)) ≡ false → span b q (suc k) ≡ suc k
span_narrow b q k h = span_visible b q (suc k) (hidden_at b (q + k) (q + suc k) (omega arith) ∙ h)

-- what a shows at k is its cell there
pub shows_is : (a : List CellValue) (k : ℕ) (x : CellValue) → shows a k x ≡ true → stored a k ≡ x
shows_is a k x h = (cell_eq-Decides (stored a k) x).0 ((and_parts (not (is_hidden a k)) (cell_eq (stored a k) x) h).1)

-- past its end a row reads the default
get_past : (r : List CellValue) (u j : ℕ) → length r ≡ u → u ≤ j → stored r j ≡ blank
get_past r u j x y = get_or_past r j blank (omega arith)

-- what stands after a wide cell of the region is fixed by it, in a and in b
region_next : (v w : ℕ) (a : List CellValue) (p : ℕ) (b : List CellValue) (q n k : ℕ) → IsRow v a → IsRow w b → p + n ≤ v → q + n ≤ w → EdgesFree v w a p b q n → k < n →
    stored a (p + k) ≡ stored b (q + k) → is_wide (stored b (q + k)) ≡ true → stored a (p + suc k) ≡ stored b (q + suc k)
region_next v w a p b q n k ra rb la lb cr l e h = elim (cases_lt (suc k) n) [
  | inl m ↦ inner m
  | inr m ↦ last (omega arith) cr.ends
]
  where
    sa : suc (p + k) ≡ p + suc k
    sa = omega arith

    sb : suc (q + k) ≡ q + suc k
    sb = omega arith

    inner : suc k < n → stored a (p + suc k) ≡ stored b (q + suc k)
    inner m = subst (λ x. stored a x ≡ half (stored a (p + k))) sa (ra.settled (p + k) (omega arith) (ap is_wide e ∙ h))
        ∙ ap half e ∙ sym (subst (λ x. stored b x ≡ half (stored b (q + k))) sb (rb.settled (q + k) (omega arith) h))

    last : suc k ≡ n → ((is_hidden a (p + n) ≡ false) × (is_hidden b (q + n) ≡ false)) ⊎ ((p + n ≡ v) × (q + n ≡ w)) → stored a (p + suc k) ≡ stored b (q + suc k)
    last o (inl f) = absurd (false≢true (sym f.1 ∙ hidden_at b (q + k) (q + n) (omega (arith, o)) ∙ h))
    last o (inr f) = get_past a v (p + suc k) ra.width (omega (arith, o, f.0)) ∙ sym (get_past b w (q + suc k) rb.width (omega (arith, o, f.1)))

region_hidden : (v w : ℕ) (a : List CellValue) (p : ℕ) (b : List CellValue) (q k : ℕ) (s : List CellValue) → IsRow w b → q + k < w → is_hidden b (q + k) ≡ true → RegionUpto v a p b q k s → RegionUpto v a p b q (suc k) s
region_hidden v w a p b q k s rb l h i =
    record { width = i.width; inside = λ j m. i.inside j (omega (arith, e, f)); outside = λ j m. i.outside j (side j m) }
  where
    e : span b q k ≡ suc k
    e = span_hidden b q k h

    f : span b q (suc k) ≡ suc k
    f = span_narrow b q k (hidden_narrow w b (q + k) rb l h)

    side : (j : ℕ) → (j < p) ⊎ (p + span b q (suc k) ≤ j) → (j < p) ⊎ (p + span b q k ≤ j)
    side j (inl m) = inl m
    side j (inr m) = inr (omega (arith, e, f))

region_shown : (v w : ℕ) (a : List CellValue) (p : ℕ) (b : List CellValue) (q n k : ℕ) (s : List CellValue) → IsRow v a → IsRow w b → p + n ≤ v → q + n ≤ w → EdgesFree v w a p b q n → k < n →
    is_hidden b (q + k) ≡ false → stored a (p + k) ≡ stored b (q + k) → RegionUpto v a p b q k s → RegionUpto v a p b q (suc k) s
region_shown v w a p b q n k s ra rb la lb cr l h e i =
    record { width = i.width; inside = λ j m. left j m (cases_order j k); outside = λ j m. i.outside j (side j m (cases_Bool (is_wide (stored b (q + k))))) }
  where
    c : span b q k ≡ k
    c = span_visible b q k h

    side : (j : ℕ) → (j < p) ⊎ (p + span b q (suc k) ≤ j) → (is_wide (stored b (q + k)) ≡ true) ⊎ (is_wide (stored b (q + k)) ≡ false) → (j < p) ⊎ (p + span b q k ≤ j)
    side j (inl m) t = inl m
    side j (inr m) (inl t) = inr (omega (arith, c, span_wide b q k t))
    side j (inr m) (inr t) = inr (omega (arith, c, span_narrow b q k t))

    second : (j : ℕ) → j < span b q (suc k) → k < j → (is_wide (stored b (q + k)) ≡ true) ⊎ (is_wide (stored b (q + k)) ≡ false) → stored s (p + j) ≡ stored b (q + j)
    second j m g (inr t) = absurd (omega (arith, span_narrow b q k t))
    second j m g (inl t) =
        let o : suc k ≡ j = omega (arith, span_wide b q k t) in
        subst (λ x. stored s (p + x) ≡ stored b (q + x)) o (i.outside (p + suc k) (inr (omega (arith, c))) ∙ region_next v w a p b q n k ra rb la lb cr l e t)

    left : (j : ℕ) → j < span b q (suc k) → (j ≡ k) ⊎ ((j < k) ⊎ (k < j)) → stored s (p + j) ≡ stored b (q + j)
    left j m (inl o) = subst (λ x. stored s (p + x) ≡ stored b (q + x)) (sym o) (i.outside (p + k) (inr (omega (arith, c))) ∙ e)
    left j m (inr (inl o)) = i.inside j (omega (arith, c))
    left j m (inr (inr o)) = second j m o (cases_Bool (is_wide (stored b (q + k))))

region_painted : (v w : ℕ) (a : List CellValue) (p : ℕ) (b : List CellValue) (q n k : ℕ) (s : List CellValue) → IsRow v a → IsRow w b → p + n ≤ v → q + n ≤ w → EdgesFree v w a p b q n → k < n →
    is_hidden b (q + k) ≡ false → RegionUpto v a p b q k s → RegionUpto v a p b q (suc k) (paint s (p + k) (stored b (q + k)))
region_painted v w a p b q n k s ra rb la lb cr l h i =
    record {
      width = length-paint s (p + k) (stored b (q + k)) ∙ i.width;
      inside = λ j m. left j m (cases_order j k);
      outside = λ j m. right j m (cases_Bool (is_wide (stored b (q + k))));
    }
  where
    c : span b q k ≡ k
    c = span_visible b q k h

    -- the column before holds nothing wide: inside it is b's, at the start a's
    narrow_before : (j : ℕ) → suc j ≡ p + k → is_wide (stored s j) ≡ false
    narrow_before j e = go k (λ m o. i.inside m (omega (arith, c, o))) e h (cases_eq k 0)
      where
        go : (k' : ℕ) → ((m : ℕ) → suc m ≡ k → stored s (p + m) ≡ stored b (q + m)) → suc j ≡ p + k → is_hidden b (q + k) ≡ false → (k ≡ 0) ⊎ (k ≢ 0) → is_wide (stored s j) ≡ false
        go k' f e g (inl z) = ap is_wide (i.outside j (inl (omega arith))) ∙ sym (hidden_at a j p (omega arith)) ∙ cr.own_start
        go k' f e g (inr z) =
            let o : suc (k - 1) ≡ k = omega arith in
            let x : p + (k - 1) ≡ j = omega arith in
            ap (λ y. is_wide (stored s y)) (sym x) ∙ ap is_wide (f (k - 1) o) ∙ sym (hidden_at b (q + (k - 1)) (q + k) (omega arith)) ∙ g

    left : (j : ℕ) → j < span b q (suc k) → (j ≡ k) ⊎ ((j < k) ⊎ (k < j)) → stored (paint s (p + k) (stored b (q + k))) (p + j) ≡ stored b (q + j)
    left j m (inl o) = paint_here s (p + k) (stored b (q + k)) (p + j) (omega arith) (omega (arith, i.width)) ∙ ap (λ x. stored b (q + x)) (sym o)
    left j m (inr (inl o)) = paint_other s (p + k) (stored b (q + k)) (p + j) (omega arith) (λ x. absurd (omega arith)) (narrow_before (p + j)) ∙ i.inside j (omega (arith, c))
    left j m (inr (inr o)) = second (cases_Bool (is_wide (stored b (q + k)))) (cases_lt (suc k) n) cr.ends
      where
        second : (is_wide (stored b (q + k)) ≡ true) ⊎ (is_wide (stored b (q + k)) ≡ false) → (suc k < n) ⊎ (n ≤ suc k) →
            ((is_hidden a (p + n) ≡ false) × (is_hidden b (q + n) ≡ false)) ⊎ ((p + n ≡ v) × (q + n ≡ w)) → stored (paint s (p + k) (stored b (q + k))) (p + j) ≡ stored b (q + j)
        second (inr t) x y = absurd (omega (arith, span_narrow b q k t))
        second (inl t) (inl x) y =
            let j_is : j ≡ suc k = omega (arith, span_wide b q k t) in
            let sb : suc (q + k) ≡ q + j = omega arith in
            paint_second s (p + k) (stored b (q + k)) (p + j) (omega arith) (omega (arith, i.width)) t
            ∙ sym (subst (λ z. stored b z ≡ half (stored b (q + k))) sb (rb.settled (q + k) (omega arith) t))
        second (inl t) (inr x) (inl f) = absurd (false≢true (sym f.1 ∙ hidden_at b (q + k) (q + n) (omega arith) ∙ t))
        second (inl t) (inr x) (inr f) =
            let j_is : j ≡ suc k = omega (arith, span_wide b q k t) in
            get_past (paint s (p + k) (stored b (q + k))) v (p + j) (length-paint s (p + k) (stored b (q + k)) ∙ i.width) (omega arith) ∙ sym (get_past b w (q + j) rb.width (omega arith))

    right : (j : ℕ) → (j < p) ⊎ (p + span b q (suc k) ≤ j) → (is_wide (stored b (q + k)) ≡ true) ⊎ (is_wide (stored b (q + k)) ≡ false) → stored (paint s (p + k) (stored b (q + k))) j ≡ stored a j
    right j (inl m) t = paint_other s (p + k) (stored b (q + k)) j (omega arith) (λ x. absurd (omega arith)) (narrow_before j) ∙ i.outside j (inl m)
    right j (inr m) (inl t) = paint_other s (p + k) (stored b (q + k)) j (omega (arith, span_wide b q k t)) (λ x. absurd (omega (arith, span_wide b q k t))) (λ x. absurd (omega (arith, span_wide b q k t)))
        ∙ i.outside j (inr (omega (arith, c, span_wide b q k t)))
    right j (inr m) (inr t) = paint_other s (p + k) (stored b (q + k)) j (omega (arith, span_narrow b q k t)) (λ x. t) (λ x. absurd (omega (arith, span_narrow b q k t)))
        ∙ i.outside j (inr (omega (arith, c, span_narrow b q k t)))

region_upto : (v w : ℕ) (a : List CellValue) (p : ℕ) (b : List CellValue) (q n : ℕ) → IsRow v a → IsRow w b → p + n ≤ v → q + n ≤ w → EdgesFree v w a p b q n →
    (k : ℕ) → k ≤ n → RegionUpto v a p b q k (paint_all a (row_need a p b q k))
region_upto v w a p b q n ra rb la lb cr zero l =
    let e : span b q 0 ≡ 0 = span_visible b q 0 (ap (is_hidden b) (add-zero q) ∙ cr.other_start) in
    record { width = ra.width; inside = λ i m. absurd (omega arith); outside = λ j m. refl }
region_upto v w a p b q n ra rb la lb cr (suc k) l = step (region_upto v w a p b q n ra rb la lb cr k (omega arith))
  where
    s : List CellValue
    s = paint_all a (row_need a p b q k)

    step : RegionUpto v a p b q k (paint_all a (row_need a p b q k)) → RegionUpto v a p b q (suc k) (paint_all a (row_need a p b q (suc k)))
    step i = elim (cases_Bool (is_hidden b (q + k))) [
      | inl t ↦ rw (t, append-nil) (region_hidden v w a p b q k (paint_all a (row_need a p b q k)) rb (omega arith) t i)
      | inr f ↦ elim (cases_Bool (shows a (p + k) (stored b (q + k)))) [
        | inl t ↦ rw (f, t, append-nil) (region_shown v w a p b q n k (paint_all a (row_need a p b q k)) ra rb la lb cr l f (shows_is a (p + k) (stored b (q + k)) t) i)
        | inr g ↦ rw (f, g) (subst (RegionUpto v a p b q (suc k)) (sym (fold-append (λ s p. paint s p.column p.cell) a (row_need a p b q k) (at_column (p + k) (stored b (q + k)) ∷ [])))
            (region_painted v w a p b q n k (paint_all a (row_need a p b q k)) ra rb la lb cr l f i))
      ]
    ]

region_gives : (v w : ℕ) (a : List CellValue) (p : ℕ) (b : List CellValue) (q n : ℕ) → IsRow v a → IsRow w b → p + n ≤ v → q + n ≤ w → EdgesFree v w a p b q n → HasRegion v (paint_all a (row_need a p b q n)) a p b q n
region_gives v w a p b q n ra rb la lb cr = from (region_upto v w a p b q n ra rb la lb cr n (le_refl n))
  where
    from : RegionUpto v a p b q n (paint_all a (row_need a p b q n)) → HasRegion v (paint_all a (row_need a p b q n)) a p b q n
    from i = record { inside = λ j l. (i.inside j (in_span j l), hidden_inside j l (cases_eq j 0)); outside = λ j l m. (i.outside j (out j l m), hidden_outside j l m (cases_eq j 0)) }
      where
        t : List CellValue
        t = paint_all a (row_need a p b q n)

        in_span : (j : ℕ) → j < n → j < span b q n
        in_span j l = elim (cases_Bool (is_hidden b (q + n))) [ inl e ↦ omega (arith, span_hidden b q n e) | inr e ↦ omega (arith, span_visible b q n e) ]

        out : (j : ℕ) → j < v → (j < p) ⊎ (p + n ≤ j) → (j < p) ⊎ (p + span b q n ≤ j)
        out j l (inl m) = inl m
        out j l (inr m) = elim cr.ends [ inl f ↦ inr (omega (arith, span_visible b q n f.1)) | inr f ↦ absurd (omega (arith, f.0)) ]

        hidden_inside : (j : ℕ) → j < n → (j ≡ 0) ⊎ (j ≢ 0) → is_hidden (paint_all a (row_need a p b q n)) (p + j) ≡ is_hidden b (q + j)
        hidden_inside j l (inr z) =
            hidden_at t (p + (j - 1)) (p + j) (omega arith) ∙ ap is_wide (i.inside (j - 1) (in_span (j - 1) (omega arith))) ∙ sym (hidden_at b (q + (j - 1)) (q + j) (omega arith))
        hidden_inside j l (inl z) =
            let x : p + j ≡ p = omega arith in let y : q + j ≡ q = omega arith in
            ap (is_hidden t) x ∙ start (cases_eq p 0) ∙ sym cr.other_start ∙ ap (is_hidden b) (sym y)
          where
            start : (p ≡ 0) ⊎ (p ≢ 0) → is_hidden t p ≡ false
            start (inl e) = ap (is_hidden t) e
            start (inr e) = hidden_at t (p - 1) p (omega arith) ∙ ap is_wide (i.outside (p - 1) (inl (omega arith))) ∙ sym (hidden_at a (p - 1) p (omega arith)) ∙ cr.own_start

        hidden_outside : (j : ℕ) → j < v → (j < p) ⊎ (p + n ≤ j) → (j ≡ 0) ⊎ (j ≢ 0) → is_hidden (paint_all a (row_need a p b q n)) j ≡ is_hidden a j
        hidden_outside j l m (inl z) = ap (is_hidden t) z ∙ sym (ap (is_hidden a) z)
        hidden_outside j l (inl m) (inr z) = hidden_at t (j - 1) j (omega arith) ∙ ap is_wide (i.outside (j - 1) (inl (omega arith))) ∙ sym (hidden_at a (j - 1) j (omega arith))
        hidden_outside j l (inr m) (inr z) = elim (cases_eq j (p + n)) [
          | inr e ↦ hidden_at t (j - 1) j (omega arith) ∙ ap is_wide (i.outside (j - 1) (out (j - 1) (omega arith) (inr (omega arith)))) ∙ sym (hidden_at a (j - 1) j (omega arith))
          | inl e ↦ edge e cr.ends
        ]
          where
            edge : j ≡ p + n → ((is_hidden a (p + n) ≡ false) × (is_hidden b (q + n) ≡ false)) ⊎ ((p + n ≡ v) × (q + n ≡ w)) → is_hidden t j ≡ is_hidden a j
            edge e (inr f) = absurd (omega (arith, f.0))
            edge e (inl f) = elim (cases_eq n 0) [
              | inl o ↦ (let x : j ≡ p = omega arith in
                  hidden_at t (j - 1) j (omega arith) ∙ ap is_wide (i.outside (j - 1) (inl (omega arith))) ∙ sym (hidden_at a (j - 1) j (omega arith)))
              | inr o ↦ (let x : p + (n - 1) ≡ j - 1 = omega arith in
                  hidden_at t (j - 1) j (omega arith) ∙ ap (λ y. is_wide (stored t y)) (sym x) ∙ ap is_wide (i.inside (n - 1) (in_span (n - 1) (omega arith)))
                  ∙ sym (hidden_at b (q + (n - 1)) (q + n) (omega arith)) ∙ f.1 ∙ sym f.0 ∙ ap (is_hidden a) (sym e))
            ]

-- no wide cell crosses the first edge, nor the last one
start_free : (v : ℕ) (a : List CellValue) (p n : ℕ) (Cut : Type 0) → IsRow v a → 0 < n → p + n ≤ v → NoneCrosses v a p n Cut → is_hidden a p ≡ false
start_free v a zero n Cut z s l c = refl
start_free v a (suc k) n Cut z s l c = elim (cases_Bool (is_wide (stored a k))) [
  | inr f ↦ f
  | inl t ↦ absurd (go (c.none k (stored a k) (wide_shows v a k z (omega arith) t) t))
]
  where
    go : (IsIn (suc k) n k ↔ IsIn (suc k) n (suc k)) ⊎ ((suc k ≡ v) × Cut) → ⊥
    go (inl e) = let i : IsIn (suc k) n k = e.1 (record { from = omega arith; before = omega arith }) in omega (arith, i.from)
    go (inr e) = omega (arith, e.0)

end_free : (v : ℕ) (a : List CellValue) (p n : ℕ) (Cut : Type 0) → IsRow v a → 0 < n → p + n ≤ v → NoneCrosses v a p n Cut → (Cut → ⊥) → is_hidden a (p + n) ≡ false
end_free v a p n Cut z s l c not_cut = elim (cases_Bool (is_wide (stored a (p + (n - 1))))) [
  | inr f ↦ hidden_at a (p + (n - 1)) (p + n) (omega arith) ∙ f
  | inl t ↦ absurd (go (c.none (p + (n - 1)) (stored a (p + (n - 1))) (wide_shows v a (p + (n - 1)) z (omega arith) t) t))
]
  where
    go : (IsIn p n (p + (n - 1)) ↔ IsIn p n (suc (p + (n - 1)))) ⊎ ((suc (p + (n - 1)) ≡ v) × Cut) → ⊥
    go (inl e) = let i : IsIn p n (suc (p + (n - 1))) = e.0 (record { from = omega arith; before = omega arith }) in omega (arith, i.before)
    go (inr e) = not_cut e.1

edges_free : (v w : ℕ) (a : List CellValue) (p : ℕ) (b : List CellValue) (q n : ℕ) → IsRow v a → IsRow w b → 0 < n → p + n ≤ v → q + n ≤ w → CrossesNone v w a p b q n → EdgesFree v w a p b q n
edges_free v w a p b q n ra rb s la lb c = record {
  own_start = start_free v a p n (BothEnd v w p q n) ra s la c.own;
  other_start = start_free w b q n (BothEnd v w p q n) rb s lb c.other;
  ends = elim (cases_eq (p + n) v) [
    | inr x ↦ inl (free (λ z. x z.own))
    | inl x ↦ elim (cases_eq (q + n) w) [ inr y ↦ inl (free (λ z. y z.other)) | inl y ↦ inr (x, y) ]
  ];
}
  where
    free : (BothEnd v w p q n → ⊥) → (is_hidden a (p + n) ≡ false) × (is_hidden b (q + n) ≡ false)
    free x = (end_free v a p n (BothEnd v w p q n) ra s la c.own x, end_free w b q n (BothEnd v w p q n) rb s lb c.other x)

-- a region of columns that both rows have
pub row_region : (v w : ℕ) (a : List CellValue) (p : ℕ) (b : List CellValue) (q n : ℕ) → IsRow v a → IsRow w b → ((k : ℕ) → k < n → p + k < v) → ((k : ℕ) → k < n → q + k < w) → CrossesNone v w a p b q n →
    HasRegion v (paint_all a (row_need a p b q n)) a p b q n
row_region v w a p b q zero ra rb la lb c = record { inside = λ i l. absurd (omega arith); outside = λ j l m. (refl, refl) }
row_region v w a p b q (suc n) ra rb la lb c =
    let x : p + suc n ≤ v = omega (arith, la n (omega arith)) in
    let y : q + suc n ≤ w = omega (arith, lb n (omega arith)) in
    region_gives v w a p b q (suc n) ra rb x y (edges_free v w a p b q (suc n) ra rb (omega arith) x y c)
