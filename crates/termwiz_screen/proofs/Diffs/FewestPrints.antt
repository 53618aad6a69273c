-- How many cells one paint can settle: three, and one where nothing is wide. The count of needed cells obeys the triangle inequality.
use Rattle.std.proofs.Common.{◌≡◌, ℕ, zero, suc, ◌+◌, ◌-◌, ◌*◌, ◌<◌, ◌≤◌, min, Bool, true, false, cond, not, ◌&&◌, ◌||◌, List, [], ◌∷◌, ◌++◌, length, map, arith, ◌≢◌, inl, inr, zero-add, refl, sym, ap, ◌∙◌, subst}
use Rattle.std.proofs.lemmas.List.{length-append, length-map, length-set, get_or-set_same, get_or-set_other}
use Rattle.std.proofs.lemmas.Bool.{cases_eq, cases_lt, cases_Bool, false≢true, and_from, not_from_false}
use Rattle.termwiz_cell.specs.CellValue.{CellValue, is_wide, columns, cell_eq, cell_eq-Decides}
use Rattle.termwiz_storage.specs.Stored.{stored}
use Rattle.termwiz_storage.specs.VisibleCell.{VisibleCell, at_column}
use Rattle.termwiz_line.specs.Row.{IsRow, is_hidden, paint}
use Rattle.termwiz_screen.specs.Prints.{Print, print_on, print_all}
use Rattle.termwiz_screen.specs.Diff.{shows, row_need, in_row, need_upto, need, whole}
use Rattle.termwiz_screen.specs.Fewest.{IsNarrow, PrintsWithin, NarrowPrints, AreNarrowRows, FewestPrints, FewestNarrowPrints}
use Rattle.termwiz_screen.specs.Screen.{row_at}
use Rattle.termwiz_screen.specs.DiffRegions.{AreRows}
use Rattle.termwiz_line.proofs.RowPainting.{paint_here, paint_other}
use Rattle.termwiz_line.proofs.RowShows.{paint_row}
use Rattle.termwiz_screen.proofs.Diffs.Rows.{shows_is}

-- what is needed of the first n columns
abbrev first_need : List CellValue → List CellValue → ℕ → List VisibleCell
first_need a b n = row_need a 0 b 0 n

-- 1 where b's cell at column k is needed, else 0
needs : List CellValue → List CellValue → ℕ → ℕ
needs a b k = cond (is_hidden b k) 0 (cond (shows a k (stored b k)) 0 1)

needs_hidden : (a b : List CellValue) (k : ℕ) → is_hidden b k ≡ true → needs a b k ≡ 0
unfolding needs
needs_hidden a b k h = rw h

needs_shown : (a b : List CellValue) (k : ℕ) → shows a k (stored b k) ≡ true → needs a b k ≡ 0
unfolding needs
needs_shown a b k h = elim (cases_Bool (is_hidden b k)) [ inl t ↦ rw t | inr f ↦ rw (f, h) ]

needs_one : (a b : List CellValue) (k : ℕ) → is_hidden b k ≡ false → shows a k (stored b k) ≡ false → needs a b k ≡ 1
unfolding needs
needs_one a b k h g = rw (h, g)

needs_most : (a b : List CellValue) (k : ℕ) → needs a b k ≤ 1
needs_most a b k = elim (cases_Bool (is_hidden b k)) [
  | inl t ↦ omega (arith, needs_hidden a b k t)
  | inr f ↦ elim (cases_Bool (shows a k (stored b k))) [ inl t ↦ omega (arith, needs_shown a b k t) | inr g ↦ omega (arith, needs_one a b k f g) ]
]

length_need : (a b : List CellValue) (k : ℕ) → length (first_need a b (suc k)) ≡ length (first_need a b k) + needs a b k
unfolding needs
length_need a b k =
    length-append (first_need a b k) _
    ∙ ap (λ n. length (first_need a b k) + n) (ap (λ j. length {A = VisibleCell} (cond (is_hidden b j || shows a j (stored b j)) [] (at_column j (stored b j) ∷ []))) (zero-add k) ∙ one (is_hidden b k) (shows a k (stored b k)))
  where
    one : (h t : Bool) → length {A = VisibleCell} (cond (h || t) [] (at_column k (stored b k) ∷ [])) ≡ cond h 0 (cond t 0 1)
    one true t = refl
    one false true = refl
    one false false = refl

-- a row that shows this very cell
shows_from : (a : List CellValue) (k : ℕ) (x : CellValue) → is_hidden a k ≡ false → stored a k ≡ x → shows a k x ≡ true
shows_from a k x h e = and_from _ _ (not_from_false _ h) ((cell_eq-Decides (stored a k) x).1 e)

needs_same : (a : List CellValue) (k : ℕ) → needs a a k ≡ 0
needs_same a k = elim (cases_Bool (is_hidden a k)) [ inl t ↦ needs_hidden a a k t | inr f ↦ needs_shown a a k (shows_from a k (stored a k) f refl) ]

needs_through : (a b c : List CellValue) (k : ℕ) → needs a c k ≤ needs a b k + needs b c k
needs_through a b c k = elim (cases_Bool (is_hidden c k)) [
  | inl t ↦ omega (arith, needs_hidden a c k t)
  | inr f ↦ elim (cases_Bool (shows b k (stored c k))) [
    | inr g ↦ omega (arith, needs_one b c k f g, needs_most a c k)
    | inl t ↦ same t (shows_is b k (stored c k) t)
  ]
]
  where
    visible_there : (x y : Bool) → (not x && y) ≡ true → x ≡ false
    visible_there true y h = absurd (false≢true h)
    visible_there false y h = refl

    same : shows b k (stored c k) ≡ true → stored b k ≡ stored c k → needs a c k ≤ needs a b k + needs b c k
    same t e = elim (cases_Bool (shows a k (stored c k))) [
      | inl s ↦ omega (arith, needs_shown a c k s)
      | inr g ↦ omega (arith, needs_most a c k, needs_one a b k (visible_there (is_hidden b k) (cell_eq (stored b k) (stored c k)) t) (ap (shows a k) e ∙ g))
    ]

need_through : (a b c : List CellValue) (n : ℕ) → length (first_need a c n) ≤ length (first_need a b n) + length (first_need b c n)
need_through a b c zero = omega arith
need_through a b c (suc n) =
    omega (arith, need_through a b c n, length_need a c n, length_need a b n, length_need b c n, needs_through a b c n)

need_same : (a : List CellValue) (n : ℕ) → length (first_need a a n) ≡ 0
need_same a zero = refl
need_same a (suc n) = omega (arith, need_same a n, length_need a a n, needs_same a n)

-- away from three columns a paint leaves what the row shows
needs_elsewhere : (s : List CellValue) (c : ℕ) (x : CellValue) (k : ℕ) → c < length s → k ≢ c → suc k ≢ c → k ≢ c + columns x → needs s (paint s c x) k ≡ 0
needs_elsewhere s c x k l n m o = elim (cases_Bool (is_hidden (paint s c x) k)) [
  | inl t ↦ needs_hidden s (paint s c x) k t
  | inr f ↦ needs_shown s (paint s c x) k (shows_from s k (stored (paint s c x) k) (kept_before k n m o f) (sym (kept k n m o f)))
]
  where
    wide_columns : is_wide x ≡ true → columns x ≡ 2
    wide_columns w = rw w

    narrow_columns : is_wide x ≡ false → columns x ≡ 1
    narrow_columns w = rw w

    -- the second column of a wide x is hidden
    not_second : (k : ℕ) → k ≢ c + columns x → is_hidden (paint s c x) k ≡ false → k ≡ suc c → ⊥
    not_second k o f e = elim (cases_Bool (is_wide x)) [
      | inr g ↦ o (omega (arith, narrow_columns g))
      | inl w ↦ false≢true (sym f ∙ subst (λ j. is_hidden (paint s c x) j ≡ true) (sym e) (ap is_wide (paint_here s c x c refl l) ∙ w))
    ]

    kept : (k : ℕ) → k ≢ c → suc k ≢ c → k ≢ c + columns x → is_hidden (paint s c x) k ≡ false → stored (paint s c x) k ≡ stored s k
    kept k n m o f = paint_other s c x k n (λ e. absurd (not_second k o f e)) (λ e. absurd (m e))

    narrow_at : (k : ℕ) → suc k ≢ c + columns x → k ≡ suc c → is_wide x ≡ false
    narrow_at k o e = elim (cases_Bool (is_wide x)) [ inr g ↦ g | inl w ↦ absurd (o (omega (arith, wide_columns w))) ]

    kept_before : (k : ℕ) → k ≢ c → suc k ≢ c → k ≢ c + columns x → is_hidden (paint s c x) k ≡ false → is_hidden s k ≡ false
    kept_before zero n m o f = refl
    kept_before (suc k) n m o f =
        ap is_wide (sym (paint_other s c x k (λ e. not_second (suc k) o f (ap suc e)) (narrow_at k o) (λ e. absurd (n e)))) ∙ f

-- so one paint settles at most three cells
need_paint : (s : List CellValue) (c : ℕ) (x : CellValue) (n : ℕ) → c < length s → length (first_need s (paint s c x) n) ≤ min 1 (suc n - c) + (min 1 (n - c) + min 1 (n - (c + columns x)))
need_paint s c x zero l = omega arith
need_paint s c x (suc n) l =
    elim (cases_eq n c) [
      | inl e ↦ omega (arith, need_paint s c x n l, length_need s (paint s c x) n, needs_most s (paint s c x) n)
      | inr p ↦ elim (cases_eq (suc n) c) [
        | inl e ↦ omega (arith, need_paint s c x n l, length_need s (paint s c x) n, needs_most s (paint s c x) n)
        | inr q ↦ elim (cases_eq n (c + columns x)) [
          | inl e ↦ omega (arith, need_paint s c x n l, length_need s (paint s c x) n, needs_most s (paint s c x) n)
          | inr r ↦ omega (arith, need_paint s c x n l, length_need s (paint s c x) n, needs_elsewhere s c x n l p q r)
        ]
      ]
    ]

need_paint_three : (s : List CellValue) (c : ℕ) (x : CellValue) (n : ℕ) → c < length s → length (first_need s (paint s c x) n) ≤ 3
need_paint_three s c x n l = omega (arith, need_paint s c x n l)

-- with nothing wide a paint settles one cell
paint_narrow : (s : List CellValue) (c : ℕ) (x : CellValue) → c < length s → is_wide x ≡ false → IsNarrow s → IsNarrow (paint s c x)
paint_narrow s c x l f h k = elim (cases_eq k c) [
  | inl e ↦ ap is_wide (paint_here s c x k e l) ∙ f
  | inr n ↦ ap is_wide (paint_other s c x k n (λ e. f) (λ e. h k)) ∙ h k
]

none_hidden : (s : List CellValue) (k : ℕ) → IsNarrow s → is_hidden s k ≡ false
none_hidden s zero h = refl
none_hidden s (suc k) h = h k

need_paint_one : (s : List CellValue) (c : ℕ) (x : CellValue) (n : ℕ) → c < length s → is_wide x ≡ false → IsNarrow s → length (first_need s (paint s c x) n) ≤ min 1 (n - c)
need_paint_one s c x zero l f h = omega arith
need_paint_one s c x (suc n) l f h =
    elim (cases_eq n c) [
      | inl e ↦ omega (arith, need_paint_one s c x n l f h, length_need s (paint s c x) n, needs_most s (paint s c x) n)
      | inr p ↦ omega (
        arith,
        need_paint_one s c x n l f h,
        length_need s (paint s c x) n,
        needs_shown s (paint s c x) n (shows_from s n (stored (paint s c x) n) (none_hidden s n h) (sym (paint_other s c x n p (λ e. f) (λ e. h n)))),
      )
    ]

-- the count over the rows
abbrev screen_need : ℕ → List (List CellValue) → List (List CellValue) → ℕ → List Print
screen_need w a b i = need_upto a b (whole w 0) i

any_height : (w h : ℕ) (a b : List (List CellValue)) (i : ℕ) → need_upto a b (whole w h) i ≡ screen_need w a b i
any_height w h a b zero = refl
any_height w h a b (suc i) = ap (λ l. l ++ map (in_row (0 + i)) (row_need (row_at a (0 + i)) 0 (row_at b (0 + i)) 0 w)) (any_height w h a b i)

screen_length : (w : ℕ) (a b : List (List CellValue)) (i : ℕ) → length (screen_need w a b (suc i)) ≡ length (screen_need w a b i) + length (first_need (row_at a i) (row_at b i) w)
screen_length w a b i =
    length-append (screen_need w a b i) _
    ∙ ap (λ n. length (screen_need w a b i) + n) (length-map (first_need (row_at a (0 + i)) (row_at b (0 + i)) w) (in_row (0 + i)) ∙ ap (λ j. length (first_need (row_at a j) (row_at b j) w)) (zero-add i))

screen_through : (w : ℕ) (a b c : List (List CellValue)) (i : ℕ) → length (screen_need w a c i) ≤ length (screen_need w a b i) + length (screen_need w b c i)
screen_through w a b c zero = omega arith
screen_through w a b c (suc i) =
    omega (arith, screen_through w a b c i, screen_length w a c i, screen_length w a b i, screen_length w b c i, need_through (row_at a i) (row_at b i) (row_at c i) w)

screen_same : (w : ℕ) (a : List (List CellValue)) (i : ℕ) → length (screen_need w a a i) ≡ 0
screen_same w a zero = refl
screen_same w a (suc i) = omega (arith, screen_same w a i, screen_length w a a i, need_same (row_at a i) w)

-- one print settles at most d cells, where the paint of its row does
screen_print : (w d : ℕ) (s : List (List CellValue)) (p : Print) → p.row < length s → length (first_need (row_at s p.row) (paint (row_at s p.row) p.column p.cell) w) ≤ d → (i : ℕ) → length (screen_need w s (print_on s p) i) ≤ d * min 1 (i - p.row)
screen_print w d s p l h zero = omega arith
screen_print w d s p l h (suc i) = elim (cases_eq i p.row) [ inl e ↦ here e | inr n ↦ other n (screen_print w d s p l h i) ]
  where
    before : (i : ℕ) → i ≤ p.row → length (screen_need w s (print_on s p) i) ≡ 0
    before zero m = refl
    before (suc i) m =
        omega (
          arith,
          before i (omega arith),
          screen_length w s (print_on s p) i,
          need_same (row_at s i) w,
          ap (λ r. length (first_need (row_at s i) r w)) (get_or-set_other s p.row i (paint (row_at s p.row) p.column p.cell) [] (omega arith)),
        )

    here : i ≡ p.row → length (screen_need w s (print_on s p) (suc i)) ≤ d * min 1 (suc i - p.row)
    here e =
        let k : min 1 (suc i - p.row) ≡ 1 = omega arith in
        let same : length (first_need (row_at s i) (row_at (print_on s p) i) w) ≡ length (first_need (row_at s p.row) (paint (row_at s p.row) p.column p.cell) w) =
        ap (λ j. length (first_need (row_at s j) (row_at (print_on s p) j) w)) e ∙ ap (λ r. length (first_need (row_at s p.row) r w)) (get_or-set_same s p.row (paint (row_at s p.row) p.column p.cell) [] l) in
        rw k (omega (arith, h, same, before i (omega arith), screen_length w s (print_on s p) i))

    other : i ≢ p.row → length (screen_need w s (print_on s p) i) ≤ d * min 1 (i - p.row) → length (screen_need w s (print_on s p) (suc i)) ≤ d * min 1 (suc i - p.row)
    other n before_it =
        let k : min 1 (suc i - p.row) ≡ min 1 (i - p.row) = omega arith in
        rw k (omega (
          arith,
          before_it,
          screen_length w s (print_on s p) i,
          need_same (row_at s i) w,
          ap (λ r. length (first_need (row_at s i) r w)) (get_or-set_other s p.row i (paint (row_at s p.row) p.column p.cell) [] n),
        ))

screen_print_at_most : (w d : ℕ) (s : List (List CellValue)) (p : Print) → p.row < length s → length (first_need (row_at s p.row) (paint (row_at s p.row) p.column p.cell) w) ≤ d → (i : ℕ) → length (screen_need w s (print_on s p) i) ≤ d
screen_print_at_most w d s p l h i = elim (cases_lt p.row i) [
  | inl m ↦ (let k : min 1 (i - p.row) ≡ 1 = omega arith in omega (arith, screen_print w d s p l h i, ap (λ n. d * n) k))
  | inr m ↦ (let k : min 1 (i - p.row) ≡ 0 = omega arith in omega (arith, screen_print w d s p l h i, ap (λ n. d * n) k))
]

-- a print leaves rows
print_rows : (w h : ℕ) (s : List (List CellValue)) (p : Print) → AreRows w h s → p.row < h → p.column < w → AreRows w h (print_on s p)
print_rows w h s p z l m = record {
  full = length-set s p.row (paint (row_at s p.row) p.column p.cell) ∙ z.full;
  each = λ i n. elim (cases_eq i p.row) [
    | inl e ↦ subst (λ j. IsRow w (row_at (print_on s p) j)) (sym e)
        (subst (IsRow w) (sym (get_or-set_same s p.row (paint (row_at s p.row) p.column p.cell) [] (omega (arith, z.full)))) (paint_row w (row_at s p.row) p.column p.cell (z.each p.row l) m))
    | inr o ↦ subst (IsRow w) (sym (get_or-set_other s p.row i (paint (row_at s p.row) p.column p.cell) [] o)) (z.each i n)
  ];
}

screen_third : (w h n : ℕ) (ps : List Print) (a : List (List CellValue)) → AreRows w h a → PrintsWithin w h ps → length (screen_need w a (print_all a ps) n) ≤ 3 * length ps
screen_third w h n [] a z q = omega (arith, screen_same w a n)
screen_third w h n (p ∷ ps) a z q =
    omega (
      arith,
      screen_through w a (print_on a p) (print_all (print_on a p) ps) n,
      screen_print_at_most w 3 a p (omega (arith, z.full, q.0)) (need_paint_three (row_at a p.row) p.column p.cell w (omega (arith, (z.each p.row q.0).width, q.1))) n,
      screen_third w h n ps (print_on a p) (print_rows w h a p z q.0 q.1) q.2,
    )

print_narrow : (w h : ℕ) (s : List (List CellValue)) (p : Print) → AreRows w h s → p.row < h → p.column < w → is_wide p.cell ≡ false → AreNarrowRows s → AreNarrowRows (print_on s p)
print_narrow w h s p z l m f n i k = elim (cases_eq i p.row) [
  | inl e ↦ ap (λ r. is_wide (stored r k)) (ap (row_at (print_on s p)) e ∙ get_or-set_same s p.row (paint (row_at s p.row) p.column p.cell) [] (omega (arith, z.full)))
      ∙ paint_narrow (row_at s p.row) p.column p.cell (omega (arith, (z.each p.row l).width)) f (n p.row) k
  | inr o ↦ ap (λ r. is_wide (stored r k)) (get_or-set_other s p.row i (paint (row_at s p.row) p.column p.cell) [] o) ∙ n i k
]

screen_each : (w h n : ℕ) (ps : List Print) (a : List (List CellValue)) → AreRows w h a → PrintsWithin w h ps → AreNarrowRows a → NarrowPrints ps → length (screen_need w a (print_all a ps) n) ≤ length ps
screen_each w h n [] a z q m f = omega (arith, screen_same w a n)
screen_each w h n (p ∷ ps) a z q m f =
    let l : p.column < length (row_at a p.row) = omega (arith, (z.each p.row q.0).width, q.1) in
    omega (
      arith,
      screen_through w a (print_on a p) (print_all (print_on a p) ps) n,
      screen_print_at_most w 1 a p (omega (arith, z.full, q.0)) (one l) n,
      screen_each w h n ps (print_on a p) (print_rows w h a p z q.0 q.1) q.2 (print_narrow w h a p z q.0 q.1 f.0 m) f.1,
    )
  where
    one : p.column < length (row_at a p.row) → length (first_need (row_at a p.row) (paint (row_at a p.row) p.column p.cell) w) ≤ 1
    one l = omega (arith, need_paint_one (row_at a p.row) p.column p.cell w l f.0 (m p.row))

pub fewest_prints : FewestPrints
fewest_prints w h a b ps ra q e =
    subst (λ t. length (need a t (whole w h)) ≤ 3 * length ps) e
    (subst (λ l. length l ≤ 3 * length ps) (sym (any_height w h a (print_all a ps) h)) (screen_third w h h ps a ra q))

pub fewest_narrow : FewestNarrowPrints
fewest_narrow w h a b ps ra q m f e =
    subst (λ t. length (need a t (whole w h)) ≤ length ps) e
    (subst (λ l. length l ≤ length ps) (sym (any_height w h a (print_all a ps) h)) (screen_each w h h ps a ra q m f))
