-- Regions of whole screens: what is needed, painted row by row.
use Rattle.std.proofs.Common.{◌≡◌, ℕ, zero, suc, ◌+◌, ◌<◌, ◌≤◌, true, false, ◌||◌, ◌↔◌, List, [], ◌∷◌, ◌++◌, map, length, set, arith, ◌≢◌, inl, inr, ◌⊎◌, append-nil, le_refl, zero-add, refl, sym, ap, ap₂, ◌∙◌, subst}
use Rattle.std.proofs.lemmas.List.{length-set, set-set, set-get_or, get_or-set_same, get_or-set_other, ext_get_or, map-append}
use Rattle.std.proofs.lemmas.List.Sums.{fold-append}
use Rattle.std.proofs.lemmas.Bool.{cases_lt, cases_eq, cases_Bool}
use Rattle.termwiz_cell.specs.CellValue.{CellValue, blank, cell_eq-Decides}
use Rattle.termwiz_storage.specs.Stored.{stored}
use Rattle.termwiz_storage.specs.VisibleCell.{VisibleCell, at_column}
use Rattle.termwiz_line.specs.Row.{is_hidden, paint}
use Rattle.termwiz_screen.specs.Screen.{row_at}
use Rattle.termwiz_screen.specs.Prints.{Print, print_on, print_all}
use Rattle.termwiz_screen.specs.Printable.{IsPrintableRow}
use Rattle.termwiz_screen.specs.Diff.{shows, row_need, Region, fitting, in_row, need_upto, need, whole, band}
use Rattle.termwiz_screen.specs.DiffLaws.{CanPrint, CutIsInside}
use Rattle.termwiz_screen.specs.DiffRegions.{IsIn, BothEnd, CrossesNone, HasRegion, AreRows, IsInside, CrossNone, HaveRegion}
use Rattle.termwiz_line.proofs.RowPainting.{length-paint}
use Rattle.termwiz_line.proofs.RowVisible.{paint_all}
use Rattle.termwiz_screen.proofs.Diffs.Rows.{row_region}

length_paints : (s : List CellValue) (ps : List VisibleCell) → length (paint_all s ps) ≡ length s
length_paints s [] = refl
length_paints s (p ∷ ps) = length_paints (paint s p.column p.cell) ps ∙ length-paint s p.column p.cell

-- prints in one row
row_prints : (i : ℕ) (ps : List VisibleCell) (s : List (List CellValue)) → i < length s → print_all s (map (in_row i) ps) ≡ set s i (paint_all (row_at s i) ps)
row_prints i [] s l = sym (set-get_or s i [])
row_prints i (p ∷ ps) s l =
    let again : i < length (set s i (paint (row_at s i) p.column p.cell)) = omega (arith, length-set s i (paint (row_at s i) p.column p.cell)) in
    row_prints i ps (set s i (paint (row_at s i) p.column p.cell)) again
    ∙ set-set s i (paint (row_at s i) p.column p.cell) (paint_all (row_at (set s i (paint (row_at s i) p.column p.cell)) i) ps)
    ∙ ap (λ t. set s i (paint_all t ps)) (get_or-set_same s i (paint (row_at s i) p.column p.cell) [] l)

module _ (a b : List (List CellValue)) (r : Region) where
  -- the cells that row i of the region needs
  abbrev row_i : ℕ → List VisibleCell
  row_i i = row_need (row_at a (r.y + i)) r.x (row_at b (r.other_y + i)) r.other_x r.width

  -- the region's rows above its row i are painted, and all others are a's
  record PaintedUpto (i : ℕ) (t : List (List CellValue)) : Type 0 where
    pub full : length t ≡ length a
    pub done : (k : ℕ) → k < i → row_at t (r.y + k) ≡ paint_all (row_at a (r.y + k)) (row_i k)
    pub rest : (j : ℕ) → (j < r.y) ⊎ (r.y + i ≤ j) → row_at t j ≡ row_at a j

  painted_upto : ((k : ℕ) → k < r.height → r.y + k < length a) → (i : ℕ) → i ≤ r.height → PaintedUpto i (print_all a (need_upto a b r i))
  painted_upto inside zero l = record { full = refl; done = λ k m. absurd (omega arith); rest = λ j m. refl }
  painted_upto inside (suc i) l =
      subst (PaintedUpto (suc i)) (sym together) (next (painted_upto inside i (omega arith)))
    where
      s : List (List CellValue)
      s = print_all a (need_upto a b r i)

      new : List CellValue
      new = paint_all (row_at a (r.y + i)) (row_i i)

      together : print_all a (need_upto a b r (suc i)) ≡ print_all (print_all a (need_upto a b r i)) (map (in_row (r.y + i)) (row_i i))
      together = fold-append print_on a (need_upto a b r i) (map (in_row (r.y + i)) (row_i i))

      next : PaintedUpto i s → PaintedUpto (suc i) (print_all s (map (in_row (r.y + i)) (row_i i)))
      next m =
          let here : r.y + i < length s = omega (arith, m.full, inside i l) in
          subst (PaintedUpto (suc i))
          (sym (row_prints (r.y + i) (row_i i) s here ∙ ap (λ t. set s (r.y + i) (paint_all t (row_i i))) (m.rest (r.y + i) (inr (omega arith)))))
          (record {
            full = length-set s (r.y + i) new ∙ m.full;
            done = λ k q. elim (cases_eq k i) [
              | inl e ↦ ap (λ n. row_at (set s (r.y + i) new) (r.y + n)) e ∙ get_or-set_same s (r.y + i) new [] here ∙ sym (ap (λ n. paint_all (row_at a (r.y + n)) (row_i n)) e)
              | inr n ↦ get_or-set_other s (r.y + i) (r.y + k) new [] (omega arith) ∙ m.done k (omega arith)
            ];
            rest = λ j q. get_or-set_other s (r.y + i) j new [] (other j q) ∙ m.rest j (wider j q);
          })
        where
          other : (j : ℕ) → (j < r.y) ⊎ (r.y + suc i ≤ j) → j ≢ r.y + i
          other j (inl q) = omega arith
          other j (inr q) = omega arith

          wider : (j : ℕ) → (j < r.y) ⊎ (r.y + suc i ≤ j) → (j < r.y) ⊎ (r.y + i ≤ j)
          wider j (inl q) = inl q
          wider j (inr q) = inr (omega arith)

  -- where no wide cell crosses an edge, the region is the other's, and all else stays
  pub have_region : (v h w g : ℕ) → AreRows v h a → AreRows w g b → IsInside r v h w g → CrossNone v w a b r → HaveRegion v (print_all a (need a b r)) a b r
  have_region v h w g ra rb z c = from (painted_upto (λ k l. omega (arith, ra.full, z.own_rows k l)) r.height (le_refl r.height))
    where
      from : PaintedUpto r.height (print_all a (need a b r)) → HaveRegion v (print_all a (need a b r)) a b r
      from m = record {
        inside = λ i l. subst (λ t. HasRegion v t (row_at a (r.y + i)) r.x (row_at b (r.other_y + i)) r.other_x r.width) (sym (m.done i l))
            (row_region v w (row_at a (r.y + i)) r.x (row_at b (r.other_y + i)) r.other_x r.width (ra.each (r.y + i) (z.own_rows i l)) (rb.each (r.other_y + i) (z.other_rows i l)) z.own_columns z.other_columns (c.each i l));
        outside = m.rest;
      }

-- whole rows cross nothing
uncut : (w : ℕ) (r : List CellValue) (k : ℕ) → k < w → (IsIn 0 w k ↔ IsIn 0 w (suc k)) ⊎ ((suc k ≡ w) × BothEnd w w 0 0 w)
uncut w r k l = elim (cases_lt (suc k) w) [
  | inl m ↦ inl ((λ e. record { from = omega arith; before = omega arith }), (λ e. record { from = omega arith; before = omega arith }))
  | inr m ↦ inr (omega arith, record { own = omega arith; other = omega arith })
]

whole_crosses : (w : ℕ) (a b : List CellValue) → CrossesNone w w a 0 b 0 w
whole_crosses w a b = record { own = record { none = λ k y s h. uncut w a k s.inside }; other = record { none = λ k y s h. uncut w b k s.inside } }

-- rows of the region that are as wide as both screens become the other's
module _ (w h g : ℕ) (a b : List (List CellValue)) (y z n : ℕ) (ra : AreRows w h a) (rb : AreRows w g b) (inside : IsInside (band w y z n) w h w g) where
  own_inside : (k : ℕ) → k < n → y + k < length a
  own_inside k l = omega (arith, ra.full, inside.own_rows k l)

  band_full : length (print_all a (need a b (band w y z n))) ≡ h
  band_full = (painted_upto a b (band w y z n) own_inside n (le_refl n)).full ∙ ra.full

  pub band_outside : (j : ℕ) → (j < y) ⊎ (y + n ≤ j) → row_at (print_all a (need a b (band w y z n))) j ≡ row_at a j
  band_outside = (painted_upto a b (band w y z n) own_inside n (le_refl n)).rest

  pub band_rows : (i : ℕ) → i < n → row_at (print_all a (need a b (band w y z n))) (y + i) ≡ row_at b (z + i)
  band_rows i l = row (painted_upto a b (band w y z n) own_inside n (le_refl n)) (have_region a b (band w y z n) w h w g ra rb inside (record { each = λ k m. whole_crosses w (row_at a (y + k)) (row_at b (z + k)) }))
    where
      row : PaintedUpto a b (band w y z n) n (print_all a (need a b (band w y z n))) → HaveRegion w (print_all a (need a b (band w y z n))) a b (band w y z n) →
          row_at (print_all a (need a b (band w y z n))) (y + i) ≡ row_at b (z + i)
      row m q =
          let t : List CellValue = row_at (print_all a (need a b (band w y z n))) (y + i) in
          let e : length t ≡ w = ap length (m.done i l) ∙ length_paints (row_at a (y + i)) (row_i a b (band w y z n) i) ∙ (ra.each (y + i) (inside.own_rows i l)).width in
          ext_get_or blank t (row_at b (z + i)) (e ∙ sym (rb.each (z + i) (inside.other_rows i l)).width)
          (λ k v. ap (stored t) (sym (zero-add k)) ∙ ((q.inside i l).inside k (omega (arith, e))).0 ∙ ap (stored (row_at b (z + i))) (zero-add k))

pub band_inside : (w h g y z n : ℕ) → ((k : ℕ) → k < n → y + k < h) → ((k : ℕ) → k < n → z + k < g) → IsInside (band w y z n) w h w g
band_inside w h g y z n own other = record { own_columns = λ k l. omega arith; own_rows = own; other_columns = λ k l. omega arith; other_rows = other }

-- two screens of one size
pub whole_gives : (w h : ℕ) (a b : List (List CellValue)) → AreRows w h a → AreRows w h b → print_all a (need a b (whole w h)) ≡ b
whole_gives w h a b ra rb =
    let inside : IsInside (whole w h) w h w h = band_inside w h h 0 0 h (λ k l. omega arith) (λ k l. omega arith) in
    let full = band_full w h h a b 0 0 h ra rb inside in
    ext_get_or [] (print_all a (need a b (whole w h))) b (full ∙ sym rb.full)
    (λ k l. ap (row_at (print_all a (need a b (whole w h)))) (sym (zero-add k)) ∙ band_rows w h h a b 0 0 h ra rb inside k (omega (arith, full)) ∙ ap (row_at b) (zero-add k))

-- nothing is needed of what is there
shown_here : (r : List CellValue) (k : ℕ) → (is_hidden r (0 + k) || shows r (0 + k) (stored r (0 + k))) ≡ true
shown_here r n = at (0 + n)
  where
    at : (k : ℕ) → (is_hidden r k || shows r k (stored r k)) ≡ true
    at k = elim (cases_Bool (is_hidden r k)) [
      | inl t ↦ rw t refl
      | inr f ↦ rw f ((cell_eq-Decides (stored r k) (stored r k)).1 refl)
    ]

nothing_needed : (r : List CellValue) (n : ℕ) → row_need r 0 r 0 n ≡ []
nothing_needed r zero = refl
nothing_needed r (suc n) = rw (shown_here r n) (append-nil _ ∙ nothing_needed r n)

nothing_upto : (w h : ℕ) (a : List (List CellValue)) (i : ℕ) → need_upto a a (whole w h) i ≡ []
nothing_upto w h a zero = refl
nothing_upto w h a (suc i) = ap₂ (λ x y. x ++ map (in_row (0 + i)) y) (nothing_upto w h a i) (nothing_needed (row_at a (0 + i)) w)

pub need_nothing : (w h : ℕ) (a b : List (List CellValue)) → a ≡ b → need a b (whole w h) ≡ []
need_nothing w h a b e = subst (λ (c : List (List CellValue)). need a c (whole w h) ≡ []) e (nothing_upto w h a h)

-- what is needed of a printable screen is printable
printable-append : (f : List ℕ → ℕ) (w h : ℕ) (ps qs : List Print) → CanPrint f w h ps → CanPrint f w h qs → CanPrint f w h (ps ++ qs)
printable-append f w h [] qs a b = b
printable-append f w h (p ∷ ps) qs a b = (a.0, a.1, a.2, printable-append f w h ps qs a.3 b)

row_printable : (f : List ℕ → ℕ) (v h w i : ℕ) (a : List CellValue) (p : ℕ) (b : List CellValue) (q n : ℕ) → i < h → ((k : ℕ) → k < n → p + k < v) → ((k : ℕ) → k < n → q + k < w) → IsPrintableRow f w b →
    CanPrint f v h (map (in_row i) (row_need a p b q n))
row_printable f v h w i a p b q zero li lp lq z = tt
row_printable f v h w i a p b q (suc n) li lp lq z = go (cases_Bool (is_hidden b (q + n))) (cases_Bool (shows a (p + n) (stored b (q + n)))) (row_printable f v h w i a p b q n li (λ k l. lp k (omega arith)) (λ k l. lq k (omega arith)) z)
  where
    go : (is_hidden b (q + n) ≡ true) ⊎ (is_hidden b (q + n) ≡ false) → (shows a (p + n) (stored b (q + n)) ≡ true) ⊎ (shows a (p + n) (stored b (q + n)) ≡ false) →
        CanPrint f v h (map (in_row i) (row_need a p b q n)) → CanPrint f v h (map (in_row i) (row_need a p b q (suc n)))
    go (inl t) s x = rw (t, append-nil) x
    go (inr t) (inl s) x = rw (t, s, append-nil) x
    go (inr t) (inr s) x = rw (t, s)
        (subst (CanPrint f v h) (sym (map-append (in_row i) (row_need a p b q n) (at_column (p + n) (stored b (q + n)) ∷ [])))
        (printable-append f v h (map (in_row i) (row_need a p b q n)) (in_row i (at_column (p + n) (stored b (q + n))) ∷ []) x (li, lp n (omega arith), z.measured (q + n) (lq n (omega arith)) t, tt)))

pub need_printable : (f : List ℕ → ℕ) (v h w g : ℕ) (a b : List (List CellValue)) (r : Region) → IsInside r v h w g → ((j : ℕ) → j < g → IsPrintableRow f w (row_at b j)) →
    (i : ℕ) → i ≤ r.height → CanPrint f v h (need_upto a b r i)
need_printable f v h w g a b r z q zero l = tt
need_printable f v h w g a b r z q (suc i) l =
    printable-append f v h (need_upto a b r i) _ (need_printable f v h w g a b r z q i (omega arith))
    (row_printable f v h w (r.y + i) (row_at a (r.y + i)) r.x (row_at b (r.other_y + i)) r.other_x r.width (z.own_rows i l) z.own_columns z.other_columns (q (r.other_y + i) (z.other_rows i l)))

-- a region that is cut to what fits
fits : (n v p w q k : ℕ) → k < fitting n v p w q → (p + k < v) × (q + k < w)
fits n v p w q k l = (omega arith, omega arith)

pub cut_inside : CutIsInside
cut_inside r v h w g = record {
  own_columns = λ k l. (fits r.width v r.x w r.other_x k l).0;
  own_rows = λ k l. (fits r.height h r.y g r.other_y k l).0;
  other_columns = λ k l. (fits r.width v r.x w r.other_x k l).1;
  other_rows = λ k l. (fits r.height h r.y g r.other_y k l).1;
}
