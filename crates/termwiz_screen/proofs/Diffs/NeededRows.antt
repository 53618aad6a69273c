-- What a row needs where both rows end in default blanks, and where both are equal; and what the rows of a region need.
use Rattle.std.proofs.Common.{◌≡◌, ℕ, zero, suc, ◌+◌, ◌-◌, ◌<◌, ◌≤◌, ◌||◌, ◌&&◌, ◌⊎◌, inl, inr, true, false, not, cond, min, List, [], ◌∷◌, ◌++◌, length, map, fold, arith, refl, sym, ap, ap₂, ◌∙◌}
use Rattle.std.proofs.lemmas.List.{append_assoc, append-nil, get_or_past}
use Rattle.std.proofs.lemmas.List.Sums.{fold-append}
use Rattle.std.proofs.lemmas.Bool.{cases_Bool, cases_lt}
use Rattle.termwiz_cell.specs.CellValue.{CellValue, blank, is_wide, cell_eq, cell_eq-Decides}
use Rattle.termwiz_storage.specs.Stored.{stored, hides}
use Rattle.termwiz_storage.specs.VisibleCell.{VisibleCell, at_column}
use Rattle.termwiz_line.specs.Row.{HasHalves, is_hidden, row_of, settled_at}
use Rattle.termwiz_line.proofs.RowOf.{hidden_row, row_of_at}
use Rattle.termwiz_line.proofs.StoredRows.{row_stored}
use Rattle.termwiz_screen.specs.Diff.{Region, shows, row_need, need_upto, in_row, PrintedOut, print_out}
use Rattle.termwiz_screen.specs.Screen.{row_at}
use Rattle.termwiz_screen.specs.Walked.{EndsBlank}
use Rattle.termwiz_screen.proofs.RowChanges.Walked.{needed_shown, needed_nothing, one_more}

-- after a column where the other ends in blanks, blanks are needed
blanks_behind : (own : List CellValue) (x : ℕ) (b : List CellValue) (q w k m t : ℕ) → EndsBlank w b k → k ≤ q + m → q + (m + t) ≤ w → row_need own x b q (m + t) ≡ row_need own x b q m ++ row_need own (x + m) [] 0 t
blanks_behind own x b q w k m zero z a l =
    let same : m + 0 ≡ m = omega arith in
    ap (row_need own x b q) same ∙ sym (append-nil (row_need own x b q m))
blanks_behind own x b q w k m (suc t) z a l =
    let next : m + suc t ≡ suc (m + t) = omega arith in
    let place : x + (m + t) ≡ x + m + t = omega arith in
    let inside : q + (m + t) < w = omega arith in
    ap (row_need own x b q) next
    ∙ needed_shown own x b q (m + t) (q + (m + t)) blank refl (z.starts (q + (m + t)) (omega arith) inside) (z.blanks (q + (m + t)) (omega arith) inside)
    ∙ ap₂ (λ ps j. ps ++ cond (shows own j blank) [] (at_column j blank ∷ [])) (blanks_behind own x b q w k m t z a (omega arith)) place
    ∙ append_assoc (row_need own x b q m) (row_need own (x + m) [] 0 t) (cond (shows own (x + m + t) blank) [] (at_column (x + m + t) blank ∷ []))
    ∙ ap (λ ps. row_need own x b q m ++ ps) (sym (needed_nothing own (x + m) t))

-- after its stored cells, and after the half of the last, a row shows blanks
shows_past : (own : List CellValue) (k : ℕ) → length own + 1 ≤ k → shows own k blank ≡ true
shows_past own zero l = absurd (omega arith)
shows_past own (suc k) l = ap₂ (λ c d. not (is_wide c) && cell_eq d blank) (get_or_past own k blank (omega arith)) (get_or_past own (suc k) blank (omega arith))

blanks_past : (own : List CellValue) (p t j : ℕ) → (j ≡ 0) ⊎ (length own + 1 ≤ p + t) → row_need own p [] 0 (t + j) ≡ row_need own p [] 0 t
blanks_past own p t zero h =
    let same : t + 0 ≡ t = omega arith in
    ap (row_need own p [] 0) same
blanks_past own p t (suc j) (inl e) = absurd (omega (arith, e))
blanks_past own p t (suc j) (inr l) =
    let next : t + suc j ≡ suc (t + j) = omega arith in
    ap (row_need own p [] 0) next ∙ needed_nothing own p (t + j)
    ∙ ap₂ (λ ps s. ps ++ cond s [] (at_column (p + (t + j)) blank ∷ [])) (blanks_past own p t j (inr l)) (shows_past own (p + (t + j)) (omega arith))
    ∙ append-nil (row_need own p [] 0 t)

-- the other's visible cells up to a column, and blanks after them
pub needed_whole : (own : List CellValue) (x : ℕ) (b : List CellValue) (q n w row next m t : ℕ) (d e g : PrintedOut) → (next < q + n → EndsBlank w b next) → q + n ≤ w → m ≡ min n (next - q) →
    t ≡ min (x + n) (length own + 1) - (x + m) → e ≡ fold print_out d (map (in_row row) (row_need own x b q (min n (next - q)))) → g ≡ fold print_out e (map (in_row row) (row_need own (x + m) [] 0 t)) →
    g ≡ fold print_out d (map (in_row row) (row_need own x b q n))
needed_whole own x b q n w row next m t d e g z l s r u v = one_more row d e g (row_need own x b q (min n (next - q))) (row_need own (x + m) [] 0 t) (row_need own x b q n)
    (elim (cases_lt next (q + n)) [ inl a ↦ some a | inr a ↦ none a ] ∙ ap (λ k. row_need own x b q k ++ row_need own (x + m) [] 0 t) s) u v
  where
    none : q + n ≤ next → row_need own x b q n ≡ row_need own x b q m ++ row_need own (x + m) [] 0 t
    none a =
        let same : n ≡ m = omega (arith, s) in
        let nothing : 0 ≡ t = omega (arith, s, r) in
        ap (row_need own x b q) same ∙ sym (append-nil (row_need own x b q m)) ∙ ap (λ k. row_need own x b q m ++ row_need own (x + m) [] 0 k) nothing

    past : ((n - m) - t ≡ 0) ⊎ (length own + 1 ≤ x + m + t)
    past = elim (cases_lt 0 ((n - m) - t)) [ inl i ↦ inr (omega (arith, s, r)) | inr i ↦ inl (omega arith) ]

    some : next < q + n → row_need own x b q n ≡ row_need own x b q m ++ row_need own (x + m) [] 0 t
    some a =
        let whole : n ≡ m + (n - m) = omega (arith, s) in
        let parts : n - m ≡ t + ((n - m) - t) = omega (arith, s, r) in
        ap (row_need own x b q) whole
        ∙ blanks_behind own x b q w next m (n - m) (z a) (omega (arith, s)) (omega (arith, s))
        ∙ ap (λ ps. row_need own x b q m ++ ps) (ap (row_need own (x + m) [] 0) parts ∙ blanks_past own (x + m) t ((n - m) - t) past)

-- rows of one list of cells need nothing of one another
pub nothing_needed : (cs : List CellValue) (v w x n : ℕ) → x + n ≤ v → x + n ≤ w → row_need (row_of v cs) x (row_of w cs) x n ≡ []
nothing_needed cs v w x zero a b = refl
nothing_needed cs v w x (suc n) a b = ap₂ (λ ps qs. ps ++ qs) (nothing_needed cs v w x n (omega arith) (omega arith)) (last (cases_Bool (hides cs (x + n))))
  where
    own_hidden : is_hidden (row_of v cs) (x + n) ≡ hides cs (x + n)
    own_hidden = hidden_row v cs (x + n) (omega arith)

    other_hidden : is_hidden (row_of w cs) (x + n) ≡ hides cs (x + n)
    other_hidden = hidden_row w cs (x + n) (omega arith)

    own_cell : stored (row_of v cs) (x + n) ≡ settled_at cs (x + n)
    own_cell = row_of_at v cs (x + n) (omega arith)

    other_cell : stored (row_of w cs) (x + n) ≡ settled_at cs (x + n)
    other_cell = row_of_at w cs (x + n) (omega arith)

    last : (hides cs (x + n) ≡ true) ⊎ (hides cs (x + n) ≡ false) →
        cond {A = List VisibleCell} (is_hidden (row_of w cs) (x + n) || shows (row_of v cs) (x + n) (stored (row_of w cs) (x + n))) [] (at_column (x + n) (stored (row_of w cs) (x + n)) ∷ []) ≡ []
    last (inl h) = ap (λ s. cond {A = List VisibleCell} (s || shows (row_of v cs) (x + n) (stored (row_of w cs) (x + n))) [] (at_column (x + n) (stored (row_of w cs) (x + n)) ∷ [])) (other_hidden ∙ h)
    last (inr h) =
        (λ i. cond {A = List VisibleCell} ((other_hidden ∙ h) i || (not ((own_hidden ∙ h) i) && cell_eq (own_cell i) (other_cell i))) [] (at_column (x + n) (stored (row_of w cs) (x + n)) ∷ []))
        ∙ ap (λ s. cond {A = List VisibleCell} s [] (at_column (x + n) (stored (row_of w cs) (x + n)) ∷ [])) ((cell_eq-Decides (settled_at cs (x + n)) (settled_at cs (x + n))).1 refl)

-- stored cells with halves need what their row needs
own_hidden : (v : ℕ) (own : List CellValue) (k : ℕ) → HasHalves v own → k < v → is_hidden own k ≡ is_hidden (row_of v own) k
own_hidden v own zero h l = refl
own_hidden v own (suc k) h l = ap is_wide (sym (row_stored v own k (record { halves = h.halves }) (omega arith)))

pub own_row : (own : List CellValue) (v x : ℕ) (b : List CellValue) (q n : ℕ) → HasHalves v own → x + n ≤ v → row_need own x b q n ≡ row_need (row_of v own) x b q n
own_row own v x b q zero h l = refl
own_row own v x b q (suc n) h l =
    let inside : x + n < v = omega arith in
    let hidden = own_hidden v own (x + n) h inside in
    let cell = sym (row_stored v own (x + n) (record { halves = h.halves }) inside) in
    let before = own_row own v x b q n h (omega arith) in
    λ i. before i ++ cond (is_hidden b (q + n) || (not (hidden i) && cell_eq (cell i) (stored b (q + n)))) [] (at_column (x + n) (stored b (q + n)) ∷ [])

-- one more row
pub more_rows : (a b : List (List CellValue)) (r : Region) (i : ℕ) (d e g : PrintedOut) → e ≡ fold print_out d (need_upto a b r i) →
    g ≡ fold print_out e (map (in_row (r.y + i)) (row_need (row_at a (r.y + i)) r.x (row_at b (r.other_y + i)) r.other_x r.width)) → g ≡ fold print_out d (need_upto a b r (i + 1))
more_rows a b r i d e g h j =
    let n : suc i ≡ i + 1 = omega arith in
    let last = map (in_row (r.y + i)) (row_need (row_at a (r.y + i)) r.x (row_at b (r.other_y + i)) r.other_x r.width) in
    j ∙ ap (λ x. fold print_out x last) h ∙ sym (fold-append print_out d (need_upto a b r i) last) ∙ ap (λ m. fold print_out d (need_upto a b r m)) n
