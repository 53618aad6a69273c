-- A walk of the other row's visible cells, column by column: what it has still to meet, and what was needed so far.
use Rattle.std.proofs.Common.{◌≡◌, ℕ, zero, suc, ◌+◌, ◌-◌, ◌<◌, ◌≤◌, ◌||◌, ◌&&◌, inl, inr, Bool, true, false, not, cond, min, List, [], ◌∷◌, ◌++◌, length, drop, get_or, map, fold, arith, refl, sym, ap, ap₂, ◌∙◌, subst}
use Rattle.std.proofs.Math.Seq.{drop-cons}
use Rattle.std.proofs.lemmas.List.{drop_all, get_or_past, map-append, append-nil}
use Rattle.std.proofs.lemmas.List.Sums.{fold-append}
use Rattle.std.proofs.lemmas.Bool.{cases_lt, and_from, and_left, not_from_false, false≢true}
use Rattle.termwiz_cell.specs.CellValue.{CellValue, blank, cell_eq, cell_eq-Decides, columns, is_wide}
use Rattle.termwiz_storage.specs.Stored.{stored, visible, visible_from, hides}
use Rattle.termwiz_storage.specs.VisibleCell.{VisibleCell, at_column}
use Rattle.termwiz_line.specs.Row.{is_hidden, row_of}
use Rattle.termwiz_line.proofs.RowOf.{hidden_row, row_of_at, settled_visible}
use Rattle.termwiz_screen.specs.Diff.{shows, row_need, in_row, PrintedOut, print_out}
use Rattle.termwiz_screen.specs.Walked.{EndsBlank, IsPrintedTo}

-- a walk of stored cells stands at the start of a cell at column k, and has this left
pub record IsAt (cs : List CellValue) (k : ℕ) (left : List VisibleCell) : Type 0 where
  pub rest : left ≡ visible_from k 0 (drop k cs)
  pub starts : hides cs k ≡ false

pub at_start : (cs : List CellValue) (left : List VisibleCell) → left ≡ visible cs → IsAt cs 0 left
at_start cs left e = record { rest = e; starts = refl }

skip_one : (i : ℕ) (l : List CellValue) → visible_from i 1 l ≡ visible_from (i + 1) 0 (drop 1 l)
skip_one i [] = refl
skip_one i (c ∷ cs) = refl

drop_one : (k : ℕ) (cs : List CellValue) → drop 1 (drop k cs) ≡ drop (suc k) cs
drop_one k cs = elim (cases_lt k (length cs)) [
  | inl l ↦ ap (drop 1) (drop-cons cs k blank l)
  | inr l ↦ ap (drop 1) (drop_all k cs l) ∙ sym (drop_all (suc k) cs (omega arith))
]

-- after a cell that starts, the next one starts
starts_over : (cs : List CellValue) (k : ℕ) (wide : Bool) → is_wide (stored cs k) ≡ wide → hides cs k ≡ false → hides cs (k + cond {A = ℕ} wide 2 1) ≡ false
starts_over cs k true w h = ap (hides cs) (sym next) ∙ rw hidden (no_and (is_wide (stored cs (suc k))))
  where
    next : suc (suc k) ≡ k + 2
    next = omega arith

    hidden : hides cs (suc k) ≡ true
    hidden = and_from _ _ w (not_from_false _ h)

    no_and : (b : Bool) → (b && false) ≡ false
    no_and true = refl
    no_and false = refl
starts_over cs k false w h = ap (hides cs) (sym next) ∙ and_left _ (not (hides cs k)) w
  where
    next : suc k ≡ k + 1
    next = omega arith

pub starts_behind : (cs : List CellValue) (k : ℕ) → hides cs k ≡ false → hides cs (k + columns (stored cs k)) ≡ false
starts_behind cs k h = starts_over cs k (is_wide (stored cs k)) refl h

-- between them is at most its half
hidden_over : (cs : List CellValue) (k j : ℕ) (wide : Bool) → is_wide (stored cs k) ≡ wide → hides cs k ≡ false → k < j → j < k + cond {A = ℕ} wide 2 1 → hides cs j ≡ true
hidden_over cs k j true w h a b =
    let same : j ≡ suc k = omega (arith, a, b) in
    ap (hides cs) same ∙ and_from _ _ w (not_from_false _ h)
hidden_over cs k j false w h a b = absurd (omega (arith, a, b))

pub hidden_behind : (cs : List CellValue) (k j : ℕ) → hides cs k ≡ false → k < j → j < k + columns (stored cs k) → hides cs j ≡ true
hidden_behind cs k j h a b = hidden_over cs k j (is_wide (stored cs k)) refl h a b

-- what follows the first cell
behind : (cs : List CellValue) (k : ℕ) (wide : Bool) (more : List VisibleCell) → is_wide (stored cs k) ≡ wide → hides cs k ≡ false →
    more ≡ visible_from (k + 1) (cond {A = ℕ} wide 2 1 - 1) (drop (suc k) cs) → IsAt cs (k + cond wide 2 1) more
behind cs k true more w h e = record {
  rest = e ∙ skip_one (k + 1) (drop (suc k) cs) ∙ ap₂ (λ i l. visible_from i 0 l) two (drop_one (suc k) cs ∙ ap (λ i. drop i cs) next);
  starts = starts_over cs k true w h;
}
  where
    two : k + 1 + 1 ≡ k + 2
    two = omega arith

    next : suc (suc k) ≡ k + 2
    next = omega arith
behind cs k false more w h e = record {
  rest = e ∙ ap (λ i. visible_from (k + 1) 0 (drop i cs)) next;
  starts = starts_over cs k false w h;
}
  where
    next : suc k ≡ k + 1
    next = omega arith

-- one more cell
pub record IsNext (cs : List CellValue) (k : ℕ) (p : VisibleCell) (more : List VisibleCell) : Type 0 where
  pub within : k < length cs
  pub cell : p.cell ≡ stored cs k
  pub at : IsAt cs (k + columns p.cell) more

pub at_next : (cs : List CellValue) (k : ℕ) (left : List VisibleCell) (p : VisibleCell) (more : List VisibleCell) → IsAt cs k left → left ≡ p ∷ more → IsNext cs k p more
at_next cs k left p more z e = elim (cases_lt k (length cs)) [
  | inr l ↦ absurd (none (sym e ∙ z.rest ∙ ap (visible_from k 0) (drop_all k cs l)))
  | inl l ↦
      let same : p ∷ more ≡ at_column k (stored cs k) ∷ visible_from (k + 1) (columns (stored cs k) - 1) (drop (suc k) cs) = sym e ∙ z.rest ∙ ap (visible_from k 0) (drop-cons cs k blank l) in
      let cell : p.cell ≡ stored cs k = ap (λ (q : VisibleCell). q.cell) (ap (λ ps. get_or ps 0 p) same) in
      record {
        within = l;
        cell = cell;
        at = subst (λ c. IsAt cs (k + columns c) more) (sym cell) (behind cs k (is_wide (stored cs k)) more refl z.starts (ap (drop 1) same));
      }
]
  where
    none : p ∷ more ≡ [] → ⊥
    none h = false≢true (ap (λ (l : List VisibleCell). is_none l) (sym h))
      where
        is_none : List VisibleCell → Bool
        is_none [] = false
        is_none (x ∷ xs) = true

-- after all stored cells each column starts a blank
pub starts_past : (cs : List CellValue) (k j : ℕ) → length cs ≤ k → hides cs k ≡ false → k ≤ j → hides cs j ≡ false
starts_past cs k j over h a = elim (cases_lt k j) [
  | inl l ↦
      let same : j ≡ suc (j - 1) = omega arith in
      ap (hides cs) same ∙ and_left (is_wide (stored cs (j - 1))) (not (hides cs (j - 1))) (ap is_wide (get_or_past cs (j - 1) blank (omega (arith, over))))
  | inr l ↦
      let same : j ≡ k = omega arith in
      ap (hides cs) same ∙ h
]

pub ends_blank : (w : ℕ) (cs : List CellValue) (k : ℕ) → length cs ≤ k → hides cs k ≡ false → EndsBlank w (row_of w cs) k
ends_blank w cs k over h = record {
  blanks = λ j a b. row_of_at w cs j b ∙ settled_visible cs j (starts_past cs k j over h a) ∙ get_or_past cs j blank (omega (arith, over));
  starts = λ j a b. hidden_row w cs j (omega arith) ∙ starts_past cs k j over h a;
}

-- nothing is left: what follows is blank
pub at_end : (w : ℕ) (cs : List CellValue) (k : ℕ) (left : List VisibleCell) → IsAt cs k left → left ≡ [] → EndsBlank w (row_of w cs) k
at_end w cs k left z e = ends_blank w cs k over z.starts
  where
    over : length cs ≤ k
    over = elim (cases_lt k (length cs)) [
      | inr l ↦ l
      | inl l ↦ absurd (some (sym e ∙ z.rest ∙ ap (visible_from k 0) (drop-cons cs k blank l)))
    ]
      where
        is_some : List VisibleCell → Bool
        is_some [] = false
        is_some (x ∷ xs) = true

        some : {p : VisibleCell} {ps : List VisibleCell} → [] ≡ p ∷ ps → ⊥
        some h = false≢true (ap is_some h)

-- one more column of what is needed
module _ (own : List CellValue) (x : ℕ) (b : List CellValue) (q : ℕ) where
  pub needed_shown : (m k : ℕ) (c : CellValue) → q + m ≡ k → is_hidden b k ≡ false → stored b k ≡ c → row_need own x b q (suc m) ≡ row_need own x b q m ++ cond (shows own (x + m) c) [] (at_column (x + m) c ∷ [])
  needed_shown m k c e h s = λ i. row_need own x b q m ++ cond (hidden i || shows own (x + m) (cell i)) [] (at_column (x + m) (cell i) ∷ [])
    where
      hidden : is_hidden b (q + m) ≡ false
      hidden = ap (is_hidden b) e ∙ h

      cell : stored b (q + m) ≡ c
      cell = ap (stored b) e ∙ s

  needed_hidden : (m : ℕ) → is_hidden b (q + m) ≡ true → row_need own x b q (suc m) ≡ row_need own x b q m
  needed_hidden m h = (λ i. row_need own x b q m ++ cond (h i || shows own (x + m) (stored b (q + m))) [] (at_column (x + m) (stored b (q + m)) ∷ [])) ∙ append-nil (row_need own x b q m)

-- more cells are printed
pub one_more : (row : ℕ) (d e g : PrintedOut) (ps last all : List VisibleCell) → all ≡ ps ++ last → e ≡ fold print_out d (map (in_row row) ps) → g ≡ fold print_out e (map (in_row row) last) →
    g ≡ fold print_out d (map (in_row row) all)
one_more row d e g ps last all h u v =
    v ∙ ap (λ y. fold print_out y (map (in_row row) last)) u
    ∙ sym (fold-append print_out d (map (in_row row) ps) (map (in_row row) last))
    ∙ ap (fold print_out d) (sym (map-append (in_row row) ps last) ∙ ap (map (in_row row)) (sym h))

hidden_nothing : (k : ℕ) → is_hidden [] k ≡ false
hidden_nothing zero = refl
hidden_nothing (suc k) = ap is_wide (get_or_past [] k blank (omega arith))

pub needed_nothing : (own : List CellValue) (p m : ℕ) → row_need own p [] 0 (suc m) ≡ row_need own p [] 0 m ++ cond (shows own (p + m) blank) [] (at_column (p + m) blank ∷ [])
needed_nothing own p m =
    let same : 0 + m ≡ m = omega arith in
    needed_shown own p [] 0 m m blank same (hidden_nothing m) (get_or_past [] m blank (omega arith))

-- one more default blank
pub blank_next : (own : List CellValue) (from k row : ℕ) (c : CellValue) (d e g : PrintedOut) → c ≡ blank → e ≡ fold print_out d (map (in_row row) (row_need own from [] 0 k)) →
    g ≡ fold print_out e (map (in_row row) (cond (shows own (from + k) c) [] (at_column (from + k) c ∷ []))) → g ≡ fold print_out d (map (in_row row) (row_need own from [] 0 (k + 1)))
blank_next own from k row c d e g s u v =
    let next : k + 1 ≡ suc k = omega arith in
    one_more row d e g (row_need own from [] 0 k) (cond (shows own (from + k) c) [] (at_column (from + k) c ∷ [])) (row_need own from [] 0 (k + 1))
    (ap (row_need own from [] 0) next ∙ needed_nothing own from k ∙ ap (λ e. row_need own from [] 0 k ++ cond (shows own (from + k) e) [] (at_column (from + k) e ∷ [])) (sym s)) u v

-- the cells so far, and the next one
module _ (own : List CellValue) (x : ℕ) (cs : List CellValue) (q n w row : ℕ) where
  next_hidden : (k : ℕ) → hides cs k ≡ false → is_wide (stored cs k) ≡ true → suc k ≤ w → is_hidden (row_of w cs) (suc k) ≡ true
  next_hidden k h s l = hidden_row w cs (suc k) l ∙ and_from _ _ s (not_from_false _ h)

  needed_two : (k : ℕ) (wide : Bool) → is_wide (stored cs k) ≡ wide → hides cs k ≡ false → q ≤ k → k < q + n → q + n ≤ w →
      row_need own x (row_of w cs) q (min n (k + cond wide 2 1 - q)) ≡ row_need own x (row_of w cs) q (suc (k - q))
  needed_two k false s h a b l =
      let same : min n (k + 1 - q) ≡ suc (k - q) = omega arith in
      ap (row_need own x (row_of w cs) q) same
  needed_two k true s h a b l = elim (cases_lt (suc (k - q)) n) [
    | inl m ↦
        let same : min n (k + 2 - q) ≡ suc (suc (k - q)) = omega arith in
        let there : suc k ≡ q + suc (k - q) = omega arith in
        ap (row_need own x (row_of w cs) q) same ∙ needed_hidden own x (row_of w cs) q (suc (k - q)) (ap (is_hidden (row_of w cs)) (sym there) ∙ next_hidden k h s (omega arith))
    | inr m ↦
        let same : min n (k + 2 - q) ≡ suc (k - q) = omega arith in
        ap (row_need own x (row_of w cs) q) same
  ]

  pub printed_next : (d e g : PrintedOut) (k : ℕ) (c : CellValue) → c ≡ stored cs k → hides cs k ≡ false → q ≤ k → k < q + n → q + n ≤ w →
      e ≡ fold print_out d (map (in_row row) (row_need own x (row_of w cs) q (min n (k - q)))) → g ≡ fold print_out e (map (in_row row) (cond (shows own (x + (k - q)) c) [] (at_column (x + (k - q)) c ∷ []))) →
      g ≡ fold print_out d (map (in_row row) (row_need own x (row_of w cs) q (min n (k + columns c - q))))
  printed_next d e g k c s h a b l u v =
      let there : q + (k - q) ≡ k = omega arith in
      let before : k - q ≡ min n (k - q) = omega arith in
      let inside : k < w = omega arith in
      let last : List VisibleCell = cond (shows own (x + (k - q)) c) [] (at_column (x + (k - q)) c ∷ []) in
      one_more row d e g (row_need own x (row_of w cs) q (min n (k - q))) last (row_need own x (row_of w cs) q (min n (k + columns c - q)))
      (ap (λ (y : CellValue). row_need own x (row_of w cs) q (min n (k + columns y - q))) s
      ∙ needed_two k (is_wide (stored cs k)) refl h a b l
      ∙ needed_shown own x (row_of w cs) q (k - q) k c there (hidden_row w cs k (omega arith) ∙ h) (row_of_at w cs k inside ∙ settled_visible cs k h ∙ sym s)
      ∙ ap (λ m. row_need own x (row_of w cs) q m ++ last) before) u v

  before_region : (k : ℕ) (wide : Bool) → is_wide (stored cs k) ≡ wide → hides cs k ≡ false → k < q → q + n ≤ w → row_need own x (row_of w cs) q (min n (k + cond wide 2 1 - q)) ≡ []
  before_region k false s h a l =
      let same : min n (k + 1 - q) ≡ 0 = omega arith in
      ap (row_need own x (row_of w cs) q) same
  before_region k true s h a l = elim (cases_lt 0 (min n (k + 2 - q))) [
    | inr m ↦
        let same : min n (k + 2 - q) ≡ 0 = omega arith in
        ap (row_need own x (row_of w cs) q) same
    | inl m ↦
        let same : min n (k + 2 - q) ≡ 1 = omega arith in
        let there : suc k ≡ q + 0 = omega arith in
        ap (row_need own x (row_of w cs) q) same ∙ needed_hidden own x (row_of w cs) q 0 (ap (is_hidden (row_of w cs)) (sym there) ∙ next_hidden k h s (omega arith))
  ]

  pub skipped_next : (d e : PrintedOut) (k : ℕ) (c : CellValue) → c ≡ stored cs k → hides cs k ≡ false → k < q → q + n ≤ w →
      e ≡ fold print_out d (map (in_row row) (row_need own x (row_of w cs) q (min n (k - q)))) → e ≡ fold print_out d (map (in_row row) (row_need own x (row_of w cs) q (min n (k + columns c - q))))
  skipped_next d e k c s h a l u =
      let nothing : min n (k - q) ≡ 0 = omega arith in
      u ∙ ap (λ ps. fold print_out d (map (in_row row) ps)) (ap (row_need own x (row_of w cs) q) nothing
      ∙ sym (before_region k (is_wide (stored cs k)) refl h a l)
      ∙ ap (λ (y : CellValue). row_need own x (row_of w cs) q (min n (k + columns y - q))) (sym s))

  -- hidden columns need nothing
  nothing_hidden : (m : ℕ) → ((j : ℕ) → q ≤ j → j < q + m → hides cs j ≡ true) → q + m ≤ w → row_need own x (row_of w cs) q m ≡ []
  nothing_hidden zero h l = refl
  nothing_hidden (suc m) h l =
      needed_hidden own x (row_of w cs) q m (hidden_row w cs (q + m) (omega (arith, l)) ∙ h (q + m) (omega arith) (omega arith))
      ∙ nothing_hidden m (λ j a b. h j a (omega (arith, b))) (omega (arith, l))

  -- before the first cell that starts in the region
  pub printed_start : (d : PrintedOut) (k : ℕ) → ((j : ℕ) → q ≤ j → j < k → hides cs j ≡ true) → q + n ≤ w → d ≡ fold print_out d (map (in_row row) (row_need own x (row_of w cs) q (min n (k - q))))
  printed_start d k h l = sym (ap (λ ps. fold print_out d (map (in_row row) ps)) (nothing_hidden (min n (k - q)) (λ j a b. h j a (omega (arith, b))) (omega (arith, l))))

-- how far a row is printed
module _ (own : List CellValue) (x : ℕ) (cs : List CellValue) (q n row : ℕ) (d : PrintedOut) where
  pub printed_to_start : (k : ℕ) → q ≤ k → hides cs k ≡ false → ((j : ℕ) → q ≤ j → j < k → hides cs j ≡ true) → IsPrintedTo own x cs q n row d d k
  printed_to_start k a v h = record { within = a; visible = v; printed = λ w l. printed_start own x cs q n w row d k h l }

  pub printed_to_next : (e g : PrintedOut) (k : ℕ) (c : CellValue) → IsPrintedTo own x cs q n row d e k → c ≡ stored cs k → k < q + n →
      g ≡ fold print_out e (map (in_row row) (cond (shows own (x + (k - q)) c) [] (at_column (x + (k - q)) c ∷ []))) → IsPrintedTo own x cs q n row d g (k + columns c)
  printed_to_next e g k c z s b u = record {
    within = omega (arith, z.within);
    visible = ap (λ (y : CellValue). hides cs (k + columns y)) s ∙ starts_behind cs k z.visible;
    printed = λ w l. printed_next own x cs q n w row d e g k c s z.visible z.within b l (z.printed w l) u;
  }

  -- narrow cells that are the same in both, of which the first stands where the own row has no half
  pub printed_to_run : (e : PrintedOut) (k m p : ℕ) → IsPrintedTo own x cs q n row d e k → p ≡ x + (k - q) → is_hidden own p ≡ false → k + m ≤ q + n →
      ((j : ℕ) → j < m → stored own (p + j) ≡ stored cs (k + j)) → ((j : ℕ) → j < m → is_wide (stored cs (k + j)) ≡ false) → IsPrintedTo own x cs q n row d e (k + m)
  printed_to_run e k zero p z r h l same narrow =
      let all : k ≡ k + 0 = omega arith in
      subst (IsPrintedTo own x cs q n row d e) all z
  printed_to_run e k (suc m) p z r h l same narrow =
      subst (IsPrintedTo own x cs q n row d e) one
      (printed_to_next e e (k + m) (stored cs (k + m)) (printed_to_run e k m p z r h (omega (arith, l)) (λ j a. same j (omega (arith, a))) (λ j a. narrow j (omega (arith, a)))) refl (omega (arith, l))
      (ap (λ s. fold print_out e (map (in_row row) (cond s [] (at_column (x + (k + m - q)) (stored cs (k + m)) ∷ [])))) (sym shown)))
    where
      one : k + m + columns (stored cs (k + m)) ≡ k + suc m
      one =
          let wide : columns (stored cs (k + m)) ≡ 1 = ap (λ b. cond {A = ℕ} b 2 1) (narrow m (omega arith)) in
          omega (arith, wide)

      start : (j : ℕ) → j ≤ m → is_hidden own (p + j) ≡ false
      start zero a =
          let first : p + 0 ≡ p = omega arith in
          ap (is_hidden own) first ∙ h
      start (suc j) a =
          let next : p + suc j ≡ suc (p + j) = omega arith in
          ap (is_hidden own) next ∙ ap is_wide (same j (omega (arith, a))) ∙ narrow j (omega (arith, a))

      place : p + m ≡ x + (k + m - q)
      place = omega (arith, r, z.within)

      shown : shows own (x + (k + m - q)) (stored cs (k + m)) ≡ true
      shown = ap (λ i. shows own i (stored cs (k + m))) (sym place)
          ∙ and_from _ _ (not_from_false _ (start m (omega arith))) ((cell_eq-Decides (stored own (p + m)) (stored cs (k + m))).1 (same m (omega arith)))

-- after a narrow cell that a row shows stands no half
shown_cell : (x y : Bool) → (x && y) ≡ true → y ≡ true
shown_cell true y e = e
shown_cell false y e = absurd (false≢true e)

one_column : (wide : Bool) → cond {A = ℕ} wide 2 1 ≡ 1 → wide ≡ false
one_column true e = absurd (omega (arith, e))
one_column false e = refl

pub shown_narrow : (own : List CellValue) (k j : ℕ) (c : CellValue) → shows own k c ≡ true → columns c ≡ 1 → j ≡ k + 1 → is_hidden own j ≡ false
shown_narrow own k j c s n e =
    let next : j ≡ suc k = omega (arith, e) in
    ap (is_hidden own) next ∙ ap is_wide ((cell_eq-Decides (stored own k) c).0 (shown_cell (not (is_hidden own k)) (cell_eq (stored own k) c) s)) ∙ one_column (is_wide c) n
