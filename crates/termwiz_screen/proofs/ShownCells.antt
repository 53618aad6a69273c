-- Stored cells and default blanks after them show what the row shows.
use Rattle.std.proofs.Common.{◌≡◌, ℕ, zero, suc, ◌+◌, ◌-◌, ◌<◌, ◌≤◌, Bool, true, false, cond, not, ◌&&◌, ◌==◌, List, [], ◌∷◌, ◌++◌, length, replicate, arith, inl, inr, append-nil, append_assoc, add-suc, add-zero, refl, sym, ap, ap₂, ◌∙◌}
use Rattle.std.proofs.lemmas.Bool.{cases_Bool, cases_eq, cond-false, and_parts, and_from, and_left, true≢false, false_from_ne_true}
use Rattle.std.proofs.lemmas.Bool.Decides.{same_from_decides}
use Rattle.std.proofs.lemmas.List.{get_or-replicate, get_or_past, ext_get_or, length-replicate, length-append}
use Rattle.std.proofs.lemmas.Slice.Eq.{slice_eq-Decides}
use Rattle.std.proofs.Math.Bool.{and_assoc}
use Rattle.std.specs.Bool.{Decides, beq}
use Rattle.std.specs.Cmp.Lexicographic.{pointwise}
use Rattle.termwiz_cell.specs.Attributes.{Attributes, default_attributes}
use Rattle.termwiz_cell.specs.CellValue.{CellValue, blank, columns, is_wide, cell_eq, cell_eq-Decides}
use Rattle.termwiz_storage.specs.Stored.{stored, visible, hides}
use Rattle.termwiz_storage.specs.VisibleCell.{VisibleCell, at_column}
use Rattle.termwiz_line.specs.Row.{IsRow, is_hidden, visible_upto, row_of}
use Rattle.termwiz_line.specs.Entries.{pen_behind, all_spaces}
use Rattle.termwiz_screen.specs.Padding.{IsPaddable, blanks_from, all_are}
use Rattle.termwiz_line.proofs.RowOf.{length-row_of, row_of_at, settled_visible, hidden_row, row_of_row, visible_row}
use Rattle.termwiz_line.proofs.EntryLists.{all_spaces_push}
use Rattle.termwiz_line.proofs.RowVisible.{visible_hidden, visible_shown}

-- cells that agree show the same
same_hidden : (r s : List CellValue) (k : ℕ) → ((j : ℕ) → j < k → stored r j ≡ stored s j) → is_hidden r k ≡ is_hidden s k
same_hidden r s zero h = refl
same_hidden r s (suc k) h = ap is_wide (h k (omega arith))

same_visible : (r s : List CellValue) (k : ℕ) → ((j : ℕ) → j < k → stored r j ≡ stored s j) → visible_upto r k ≡ visible_upto s k
same_visible r s zero h = refl
same_visible r s (suc k) h =
    let hidden = same_hidden r s k (λ j l. h j (omega arith)) in
    let before = same_visible r s k (λ j l. h j (omega arith)) in
    let here = h k (omega arith) in
    λ i. before i ++ cond (hidden i) [] (at_column k (here i) ∷ [])

module _ (w : ℕ) (cs : List CellValue) (z : IsPaddable w cs) where
  -- past the stored cells the row shows default blanks
  past_visible : (k : ℕ) → length cs ≤ k → k < w → hides cs k ≡ false
  past_visible zero m l = refl
  past_visible (suc k) m l = elim (cases_Bool (is_wide (stored cs k))) [
    | inl t ↦ absurd (omega (arith, z.closed k l t))
    | inr f ↦ and_left (is_wide (stored cs k)) (not (hides cs k)) f
  ]

  pub past_blank : (k : ℕ) → length cs ≤ k → k < w → stored (row_of w cs) k ≡ blank
  past_blank k m l = row_of_at w cs k l ∙ settled_visible cs k (past_visible k m l) ∙ get_or_past cs k blank m

  stored_first : visible_upto (row_of w cs) (length cs) ≡ visible cs
  stored_first =
      same_visible (row_of w cs) (row_of (length cs) cs) (length cs) (λ j l. row_of_at w cs j (omega (arith, z.within)) ∙ sym (row_of_at (length cs) cs j l))
      ∙ sym (visible_row cs)

  padded_upto : (n : ℕ) → length cs + n ≤ w → visible_upto (row_of w cs) (length cs + n) ≡ visible cs ++ blanks_from (length cs) n
  padded_upto zero l = ap (visible_upto (row_of w cs)) (add-zero (length cs)) ∙ stored_first ∙ sym (append-nil (visible cs))
  padded_upto (suc n) l =
      let k : ℕ = length cs + n in
      let inside : k < w = omega arith in
      let shown : is_hidden (row_of w cs) k ≡ false = hidden_row w cs k (omega arith) ∙ past_visible k (omega arith) inside in
      ap (visible_upto (row_of w cs)) (add-suc (length cs) n) ∙ visible_shown (row_of w cs) k shown
      ∙ ap₂ (λ ps c. ps ++ at_column k c ∷ []) (padded_upto n (omega arith)) (past_blank k (omega arith) inside)
      ∙ append_assoc (visible cs) (blanks_from (length cs) n) (at_column k blank ∷ [])

  pub padded_visible : visible cs ++ blanks_from (length cs) (w - length cs) ≡ visible_upto (row_of w cs) w
  padded_visible =
      let whole : length cs + (w - length cs) ≡ w = omega (arith, z.within) in
      sym (padded_upto (w - length cs) (omega arith)) ∙ ap (visible_upto (row_of w cs)) whole

  pub full_visible : length cs ≡ w → visible cs ≡ visible_upto (row_of w cs) w
  full_visible e = sym stored_first ∙ ap (visible_upto (row_of w cs)) e

-- blanks are spaces with default attributes
pub blanks_spaces : (x n : ℕ) → all_spaces default_attributes (blanks_from x n) ≡ true
blanks_spaces x zero = refl
blanks_spaces x (suc n) = all_spaces_push default_attributes (blanks_from x n) (at_column (x + n) blank) refl ∙ blanks_spaces x n

pub length-blanks : (x n : ℕ) → length (blanks_from x n) ≡ n
length-blanks x zero = refl
length-blanks x (suc n) = length-append (blanks_from x n) (at_column (x + n) blank ∷ []) ∙ omega (arith, length-blanks x n)

-- the attributes of the last column
last_pushed : (p : Attributes) (ps : List VisibleCell) (k : ℕ) (c : CellValue) → pen_behind p (ps ++ at_column k c ∷ []) ≡ c.attrs
last_pushed p [] k c = refl
last_pushed p (q ∷ ps) k c = last_pushed q.cell.attrs ps k c

last_shown : (w : ℕ) (r : List CellValue) → IsRow w r → (p : Attributes) (k : ℕ) → k < w → pen_behind p (visible_upto r (suc k)) ≡ (stored r k).attrs
last_shown w r z p zero l = refl
last_shown w r z p (suc k) l = elim (cases_Bool (is_hidden r (suc k))) [
  | inl t ↦ ap (pen_behind p) (visible_hidden r (suc k) t) ∙ last_shown w r z p k (omega arith) ∙ sym (ap (λ (c : CellValue). c.attrs) (z.settled k l t))
  | inr f ↦ ap (pen_behind p) (visible_shown r (suc k) f) ∙ last_pushed p (visible_upto r (suc k)) (suc k) (stored r (suc k))
]

pub last_column : (w : ℕ) (cs : List CellValue) (p : Attributes) → IsPaddable w cs → 0 < w → length cs ≡ w → pen_behind p (visible cs) ≡ (stored (row_of w cs) (w - 1)).attrs
last_column w cs p z l e =
    let last : suc (w - 1) ≡ w = omega arith in
    ap (pen_behind p) (full_visible w cs z e ∙ ap (visible_upto (row_of w cs)) (sym last))
    ∙ last_shown w (row_of w cs) (row_of_row w cs) p (w - 1) (omega arith)

-- a row of one cell
all_appended : (c : CellValue) (ps qs : List VisibleCell) → all_are c (ps ++ qs) ≡ (all_are c ps && all_are c qs)
all_appended c [] qs = refl
all_appended c (p ∷ ps) qs = ap (λ b. cell_eq p.cell c && b) (all_appended c ps qs) ∙ sym (and_assoc (cell_eq p.cell c) (all_are c ps) (all_are c qs))

module _ (c : CellValue) (narrow : is_wide c ≡ false) (r : List CellValue) where
  none_hidden : (n : ℕ) → ((k : ℕ) → k < n → stored r k ≡ c) → is_hidden r n ≡ false
  none_hidden zero h = refl
  none_hidden (suc n) h = ap is_wide (h n (omega arith)) ∙ narrow

  -- what column n adds
  column : ℕ → List VisibleCell
  column n = cond (is_hidden r n) [] (at_column n (stored r n) ∷ [])

  next_column : (n : ℕ) → ((k : ℕ) → k < n → stored r k ≡ c) → all_are c (column n) ≡ true → (k : ℕ) → k < suc n → stored r k ≡ c
  unfolding column
  next_column n before h k l = elim (cases_eq k n) [ inl e ↦ ap (stored r) e ∙ (cell_eq-Decides (stored r n) c).0 (and_parts (cell_eq (stored r n) c) true shown).0 | inr o ↦ before k (omega arith) ]
    where
      shown : all_are c (at_column n (stored r n) ∷ []) ≡ true
      shown = sym (ap (all_are c) (cond-false (is_hidden r n) [] (at_column n (stored r n) ∷ []) (none_hidden n before))) ∙ h

  each_column : (n : ℕ) → all_are c (visible_upto r n) ≡ true → (k : ℕ) → k < n → stored r k ≡ c
  unfolding column
  each_column zero h k l = absurd (omega arith)
  each_column (suc n) h k l =
      let parts = and_parts (all_are c (visible_upto r n)) (all_are c (column n)) (sym (all_appended c (visible_upto r n) (column n)) ∙ h) in
      next_column n (each_column n parts.0) parts.1 k l

  every_column : (n : ℕ) → ((k : ℕ) → k < n → stored r k ≡ c) → all_are c (visible_upto r n) ≡ true
  every_column zero h = refl
  every_column (suc n) h =
      all_appended c (visible_upto r n) (cond (is_hidden r n) [] (at_column n (stored r n) ∷ []))
      ∙ and_from (all_are c (visible_upto r n)) _ (every_column n (λ k l. h k (omega arith))) (last (is_hidden r n))
    where
      last : (b : Bool) → all_are c (cond b [] (at_column n (stored r n) ∷ [])) ≡ true
      last true = refl
      last false = and_from (cell_eq (stored r n) c) true ((cell_eq-Decides (stored r n) c).1 (h n (omega arith))) refl

  all_of_row : (w : ℕ) → length r ≡ w → all_are c (visible_upto r w) ≡ pointwise cell_eq r (replicate w c)
  all_of_row w e = same_from_decides {P = (k : ℕ) → k < w → stored r k ≡ c} (all_are c (visible_upto r w)) (pointwise cell_eq r (replicate w c)) (each_column w, every_column w) (columns, row)
    where
      same : Decides (pointwise cell_eq r (replicate w c)) (r ≡ replicate w c)
      same = slice_eq-Decides cell_eq-Decides r (replicate w c) (pointwise cell_eq r (replicate w c)) refl

      columns : pointwise cell_eq r (replicate w c) ≡ true → (k : ℕ) → k < w → stored r k ≡ c
      columns h k l = ap (λ s. stored s k) (same.0 h) ∙ get_or-replicate w k c blank l

      row : ((k : ℕ) → k < w → stored r k ≡ c) → pointwise cell_eq r (replicate w c) ≡ true
      row h = same.1 (ext_get_or blank r (replicate w c) (e ∙ sym (length-replicate w c)) (λ k l. h k (omega (arith, e)) ∙ sym (get_or-replicate w k c blank (omega (arith, e)))))

-- the cells of a full row are one narrow cell where its row is
pub full_row_of : (w : ℕ) (cs : List CellValue) (c : CellValue) → IsPaddable w cs → is_wide c ≡ false → length cs ≡ w → all_are c (visible cs) ≡ pointwise cell_eq (row_of w cs) (replicate w c)
full_row_of w cs c z narrow e = ap (all_are c) (full_visible w cs z e) ∙ all_of_row c narrow (row_of w cs) w (length-row_of w cs)

-- a short row shows a default blank
pub short_row_of : (w : ℕ) (cs : List CellValue) (c : CellValue) → IsPaddable w cs → cell_eq c blank ≡ false → length cs < w → pointwise cell_eq (row_of w cs) (replicate w c) ≡ false
short_row_of w cs c z other l = false_from_ne_true _ (λ h. true≢false (sym ((cell_eq-Decides c blank).1 (blank_is h)) ∙ other))
  where
    blank_is : pointwise cell_eq (row_of w cs) (replicate w c) ≡ true → c ≡ blank
    blank_is h =
        sym (get_or-replicate w (length cs) c blank l)
        ∙ ap (λ s. stored s (length cs)) (sym ((slice_eq-Decides cell_eq-Decides (row_of w cs) (replicate w c) (pointwise cell_eq (row_of w cs) (replicate w c)) refl).0 h))
        ∙ past_blank w cs z (length cs) (omega arith) l

-- a cell takes one column where it is narrow
pub narrow_columns : (c : CellValue) → (columns c == 1) ≡ beq (is_wide c) false
narrow_columns c = elim (cases_Bool (is_wide c)) [ inl t ↦ rw t refl | inr f ↦ rw f refl ]
