-- Blank rows at the bottom: one clear to the end of the screen stands for their entries.
use Rattle.std.proofs.Common.{◌≡◌, ℕ, zero, suc, ◌+◌, ◌-◌, ◌<◌, ◌≤◌, Bool, true, false, cond, not, ◌&&◌, eqb, ltb, List, [], ◌∷◌, ◌++◌, map, length, take, drop, replicate, arith, ◌≢◌, inl, inr, ◌⊎◌, le_refl, ltb-true, refl, sym, ap, ◌∙◌, subst}
use Rattle.std.proofs.lemmas.List.{length-map, length-append, length-take, length-drop, length-replicate, length-set, get_or-set_same, get_or-set_other, get_or-map, get_or-drop, get_or-take, get_or_append_left, get_or-append_right, get_or-replicate, ext_get_or}
use Rattle.std.proofs.lemmas.List.Sums.{fold-append}
use Rattle.std.proofs.lemmas.Bool.{cases_eq, cases_lt, cond-true, cond-false, and_parts, and_from, not-true, false≢true}
use Rattle.std.proofs.lemmas.Slice.Eq.{slice_eq-Decides}
use Rattle.std.specs.Cmp.Lexicographic.{pointwise}
use Rattle.termwiz_cell.specs.Attributes.{Attributes, default_attributes, with_background, has_only_background, attributes_eq, attributes_eq-Decides}
use Rattle.termwiz_cell.specs.CellValue.{CellValue, space, blank, blank_of, is_wide, cell_eq, cell_eq-Decides}
use Rattle.termwiz_cell.specs.ChangeValue as change
use Rattle.termwiz_cell.specs.ChangeValue.{ChangeValue}
use Rattle.termwiz_storage.specs.Stored.{stored}
use Rattle.termwiz_storage.specs.VisibleCell.{VisibleCell, at_column}
use Rattle.termwiz_line.specs.Row.{is_hidden, visible_upto, clear}
use Rattle.termwiz_line.specs.Entries.{Penned, is_space_of, all_spaces, trimmed, pen_behind, ends_plain, cells_out, with_tail, row_entries}
use Rattle.termwiz_screen.specs.Screen.{Screen, row_at}
use Rattle.termwiz_screen.specs.Clear.{cleared_row, clear_eol, clear_eos}
use Rattle.termwiz_screen.specs.Step.{step, replay}
use Rattle.termwiz_screen.specs.Repaint.{next_line, rows_upto, bottom_attrs, first_blank, is_clear_of, ends_with, front_of, joined_row, bottom, joins_rows, all_rows}
use Rattle.termwiz_screen.specs.Printable.{IsPrintableRow, HasSize}
use Rattle.termwiz_line.proofs.RowPainting.{clear_whole}
use Rattle.termwiz_line.proofs.RowVisible.{visible_shown}
use Rattle.termwiz_line.proofs.EntryLists.{all_spaces_push}
use Rattle.termwiz_screen.proofs.Repaints.Rows.{emptied, IsUpto, HasRows, rows_stand, rows_give}

-- the rows at the bottom that are found blank are blank
pub first_blank_same : (w : ℕ) (a : Attributes) (rows : List (List CellValue)) (n j : ℕ) → first_blank w a rows n ≤ j → j < n → row_at rows j ≡ replicate w (blank_of a)
first_blank_same w a rows zero j m l = absurd (omega arith)
first_blank_same w a rows (suc n) j m l = same (λ k. first_blank_same w a rows n j k) (pointwise cell_eq (row_at rows n) (replicate w (blank_of a))) refl
  where
    same : (first_blank w a rows n ≤ j → j < n → row_at rows j ≡ replicate w (blank_of a)) → (b : Bool) → pointwise cell_eq (row_at rows n) (replicate w (blank_of a)) ≡ b → row_at rows j ≡ replicate w (blank_of a)
    same above false f = absurd (omega (arith, m, cond-false _ (first_blank w a rows n) (suc n) f))
    same above true t = elim (cases_eq j n) [
      | inl o ↦ ap (row_at rows) o ∙ (slice_eq-Decides cell_eq-Decides (row_at rows n) (replicate w (blank_of a)) _ refl).0 t
      | inr o ↦ above (omega (arith, m, cond-true _ (first_blank w a rows n) (suc n) t)) (omega arith)
    ]

-- the last entry
clear_is : (a : Attributes) (e : ChangeValue) → is_clear_of a e ≡ true → e ≡ change.ClearToEndOfLine a.background
clear_is a (change.ClearToEndOfLine b) h = ap (λ (c : Attributes). change.ClearToEndOfLine c.background) ((attributes_eq-Decides (with_background b) a).0 h)
clear_is a e h = absurd (false≢true h)

pub ends_with_is : (a : Attributes) (es : List ChangeValue) → ends_with a es ≡ true → es ≡ front_of es ++ change.ClearToEndOfLine a.background ∷ []
ends_with_is a [] h = absurd (false≢true h)
ends_with_is a (e ∷ []) h = ap (λ x. x ∷ []) (clear_is a e h)
ends_with_is a (e ∷ (g ∷ es)) h = ap (λ x. e ∷ x) (ends_with_is a (g ∷ es) h)

pub ends_with-append : (a : Attributes) (es gs : List ChangeValue) → ends_with a gs ≡ true → ends_with a (es ++ gs) ≡ true
ends_with-append a [] gs h = h
ends_with-append a (e ∷ []) [] h = absurd (false≢true h)
ends_with-append a (e ∷ []) (g ∷ gs) h = h
ends_with-append a (e ∷ (g ∷ es)) gs h = ends_with-append a (g ∷ es) gs h

pub length-front_of : (es : List ChangeValue) → length (front_of es) ≡ length es - 1
length-front_of [] = refl
length-front_of (e ∷ []) = refl
length-front_of (e ∷ (g ∷ es)) = omega (arith, length-front_of (g ∷ es))

-- the visible cells of a blank row
blank_hidden : (w : ℕ) (a : Attributes) (k : ℕ) → k < w → is_hidden (replicate w (blank_of a)) k ≡ false
blank_hidden w a zero l = refl
blank_hidden w a (suc k) l = ap is_wide (get_or-replicate w k (blank_of a) blank (omega arith))

blank_spaces : (w : ℕ) (a : Attributes) (n : ℕ) → n ≤ w → all_spaces a (visible_upto (replicate w (blank_of a)) n) ≡ true
blank_spaces w a zero l = refl
blank_spaces w a (suc n) l =
    ap (all_spaces a) (visible_shown (replicate w (blank_of a)) n (blank_hidden w a n (omega arith)))
    ∙ all_spaces_push a (visible_upto (replicate w (blank_of a)) n) (at_column n (stored (replicate w (blank_of a)) n)) (subst (λ c. is_space_of a (at_column n c) ≡ true) (sym (get_or-replicate w n (blank_of a) blank (omega arith))) ((attributes_eq-Decides a a).1 refl))
    ∙ blank_spaces w a n (omega arith)

length-blank_visible : (w : ℕ) (a : Attributes) (n : ℕ) → n ≤ w → length (visible_upto (replicate w (blank_of a)) n) ≡ n
length-blank_visible w a zero l = refl
length-blank_visible w a (suc n) l =
    ap length (visible_shown (replicate w (blank_of a)) n (blank_hidden w a n (omega arith)))
    ∙ omega (arith, length-append (visible_upto (replicate w (blank_of a)) n) (at_column n (stored (replicate w (blank_of a)) n) ∷ []), length-blank_visible w a n (omega arith))

-- spaces with attributes a alone: nothing is kept of them
spaces_last : (a p : Attributes) (ps : List VisibleCell) → 0 < length ps → all_spaces a ps ≡ true → pen_behind p ps ≡ a
spaces_last a p [] l h = absurd (omega arith)
spaces_last a p (q ∷ []) l h = (attributes_eq-Decides q.cell.attrs a).0 (and_parts _ _ (and_parts (is_space_of a q) true h).0).1
spaces_last a p (q ∷ (o ∷ ps)) l h = spaces_last a q.cell.attrs (o ∷ ps) (omega arith) (and_parts (is_space_of a q) (all_spaces a (o ∷ ps)) h).1

spaces_plain : (a : Attributes) (ps : List VisibleCell) → 0 < length ps → all_spaces a ps ≡ true → has_only_background a ≡ true → ends_plain ps ≡ true
spaces_plain a [] l h q = absurd (omega arith)
spaces_plain a (p ∷ []) l h q =
    let s : is_space_of a p ≡ true = (and_parts (is_space_of a p) true h).0 in
    let e : p.cell.attrs ≡ a = (attributes_eq-Decides p.cell.attrs a).0 (and_parts _ _ s).1 in
    subst (λ b. (is_space_of b p && has_only_background b) ≡ true) (sym e) (and_from (is_space_of a p) (has_only_background a) s q)
spaces_plain a (p ∷ (o ∷ ps)) l h q = spaces_plain a (o ∷ ps) (omega arith) (and_parts (is_space_of a p) (all_spaces a (o ∷ ps)) h).1 q

spaces_trimmed : (a : Attributes) (ps : List VisibleCell) → all_spaces a ps ≡ true → trimmed a ps ≡ []
spaces_trimmed a [] h = refl
spaces_trimmed a (p ∷ ps) h = cond-true (all_spaces a (p ∷ ps)) [] (p ∷ trimmed a ps) h

-- a blank row's entries are the one clear
blank_entries : (w : ℕ) (p a : Attributes) → 0 < w → has_only_background a ≡ true → attributes_eq a default_attributes ≡ false →
    (row_entries p (visible_upto (replicate w (blank_of a)) w)).entries ≡ change.ClearToEndOfLine a.background ∷ []
blank_entries w p a l h n =
    ap (λ (d : Penned). d.entries) (cond-true (ends_plain cells) _ _ (spaces_plain a cells some spaces h)
    ∙ ap (λ b. with_tail (cells_out p (trimmed b cells)) (trimmed b cells) b) (spaces_last a p cells some spaces)
    ∙ ap (λ v. with_tail (cells_out p v) v a) (spaces_trimmed a cells spaces))
    ∙ cond-false (attributes_eq a default_attributes) [] (change.ClearToEndOfLine a.background ∷ []) n
  where
    cells : List VisibleCell
    cells = visible_upto (replicate w (blank_of a)) w

    some : 0 < length cells
    some = omega (arith, length-blank_visible w a w (le_refl w))

    spaces : all_spaces a cells ≡ true
    spaces = blank_spaces w a w (le_refl w)

module _ (w : ℕ) (a : Attributes) (rows : List (List CellValue)) (i : ℕ) where
  -- the row that is joined ends with the clear
  pub joined_ends : 0 < w → has_only_background a ≡ true → attributes_eq a default_attributes ≡ false → row_at rows i ≡ replicate w (blank_of a) →
      ends_with a (rows_upto w rows (suc (joined_row w a rows i))).entries ≡ true
  joined_ends l h n e = ends (ends_with a (rows_upto w rows i).entries) refl
    where
      p : Attributes
      p = (rows_upto w rows i).pen

      last : ends_with a (row_entries p (visible_upto (row_at rows i) w)).entries ≡ true
      last = ap (λ r. ends_with a (row_entries p (visible_upto r w)).entries) e ∙ ap (ends_with a) (blank_entries w p a l h n)
          ∙ (attributes_eq-Decides (with_background a.background) a).1 (sym ((attributes_eq-Decides a (with_background a.background)).0 h))

      not_first : ends_with a (rows_upto w rows i).entries ≡ true → i ≢ 0
      not_first t z = false≢true (sym (ap (λ m. ends_with a (rows_upto w rows m).entries) z) ∙ t)

      ends : (b : Bool) → ends_with a (rows_upto w rows i).entries ≡ b → ends_with a (rows_upto w rows (suc (joined_row w a rows i))).entries ≡ true
      ends true t =
          let o : suc (joined_row w a rows i) ≡ i = omega (arith, cond-true _ (i - 1) i t, not_first t) in
          ap (λ v. ends_with a (rows_upto w rows v).entries) o ∙ t
      ends false f =
          ap (λ v. ends_with a (rows_upto w rows (suc v)).entries) (cond-false _ (i - 1) i f)
          ∙ ends_with-append a (rows_upto w rows i).entries _ (ends_with-append a (cond (eqb i 0) [] (next_line ∷ [])) _ last)

  joined_le : i ≤ suc (joined_row w a rows i)
  joined_le = at_least (ends_with a (rows_upto w rows i).entries)
    where
      at_least : (b : Bool) → i ≤ suc (cond b (i - 1) i)
      at_least true = omega arith
      at_least false = omega arith

-- the rows of a screen that was cleared from its cursor on
module _ (s : Screen) (a : Attributes) (w h : ℕ) (full : length s.rows ≡ h) (ly : s.y < h) where
  length-clear_eos : length (clear_eos s a).rows ≡ h
  length-clear_eos =
      length-append (take s.y s.rows) (cleared_row s a ∷ map (λ r. clear r 0 (blank_of a)) (drop (suc s.y) s.rows))
      ∙ omega (arith, length-take s.y s.rows, length-map (drop (suc s.y) s.rows) (λ r. clear r 0 (blank_of a)), length-drop (suc s.y) s.rows, full)

  front_length : length (take s.y s.rows) ≡ s.y
  front_length = omega (arith, length-take s.y s.rows, full)

  -- up to the cursor's row it is cleared to the end of the line
  clear_eos_above : (j : ℕ) → j ≤ s.y → row_at (clear_eos s a).rows j ≡ row_at (clear_eol s a).rows j
  clear_eos_above j l = elim (cases_eq j s.y) [
    | inl e ↦ get_or-append_right (take s.y s.rows) _ s.y j [] front_length (omega arith) ∙ ap (row_at below) (let o : j - s.y ≡ 0 = omega arith in o) ∙ sym (ap (row_at (clear_eol s a).rows) e ∙ get_or-set_same s.rows s.y (cleared_row s a) [] (omega (arith, full)))
    | inr n ↦ get_or_append_left (take s.y s.rows) _ [] j (omega (arith, front_length)) ∙ get_or-take s.y s.rows j [] (omega arith) ∙ sym (get_or-set_other s.rows s.y j (cleared_row s a) [] n)
  ]
    where
      below : List (List CellValue)
      below = cleared_row s a ∷ map (λ r. clear r 0 (blank_of a)) (drop (suc s.y) s.rows)

  clear_eos_below : (j : ℕ) → s.y < j → j < h → length (row_at s.rows j) ≡ w → row_at (clear_eos s a).rows j ≡ replicate w (blank_of a)
  clear_eos_below j l m e =
      get_or-append_right (take s.y s.rows) _ s.y j [] front_length (omega arith)
      ∙ ap (row_at (cleared_row s a ∷ rest)) (let o : j - s.y ≡ suc k = omega arith in o)
      ∙ get_or-map (λ r. clear r 0 (blank_of a)) (drop (suc s.y) s.rows) k [] [] (omega (arith, length-drop (suc s.y) s.rows, full))
      ∙ clear_whole w _ (blank_of a) (ap length (get_or-drop (suc s.y) s.rows k [] ∙ ap (row_at s.rows) (let o : suc s.y + k ≡ j = omega arith in o)) ∙ e)
    where
      k : ℕ
      k = j - suc s.y

      rest : List (List CellValue)
      rest = map (λ r. clear r 0 (blank_of a)) (drop (suc s.y) s.rows)

module _ (f : List ℕ → ℕ) (one : f space ≡ 1) (w h : ℕ) (rows : List (List CellValue)) (full : length rows ≡ h) (z : (j : ℕ) → j < h → IsPrintableRow f w (row_at rows j)) (s : Screen) (size : HasSize w h s) where
  -- row t's entries end with a clear, and the rows below it are blank in its colour
  joined_give : (t : ℕ) (a : Attributes) (front : List ChangeValue) → t < h → a ≡ with_background a.background → (rows_upto w rows (suc t)).entries ≡ front ++ change.ClearToEndOfLine a.background ∷ [] →
      ((j : ℕ) → t < j → j < h → row_at rows j ≡ replicate w (blank_of a)) → HasRows w h rows a (replay f (emptied s) (front ++ change.ClearToEndOfScreen a.background ∷ []))
  joined_give t a front l plain e rest =
      subst (HasRows w h rows a) (sym (fold-append (step f) (emptied s) front (change.ClearToEndOfScreen a.background ∷ [])))
      (whole (subst (IsUpto w h rows (suc t) _) (ap (replay f (emptied s)) e ∙ fold-append (step f) (emptied s) front (change.ClearToEndOfLine a.background ∷ [])) (rows_stand f one w h rows z s size (suc t) l)))
    where
      v : Screen
      v = replay f (emptied s) front

      b : Attributes
      b = with_background a.background

      whole : IsUpto w h rows (suc t) (rows_upto w rows (suc t)).pen (clear_eol v b) → HasRows w h rows a (clear_eos v b)
      whole u = record {
        width = u.width;
        height = u.height;
        hidden = u.hidden;
        pen_is = sym plain;
        rows_are = ext_get_or [] (clear_eos v b).rows rows (length-clear_eos v b w h v_full v_row ∙ sym full) (λ j m. each j (omega (arith, length-clear_eos v b w h v_full v_row)) (cases_lt v.y j));
      }
        where
          v_full : length v.rows ≡ h
          v_full = sym (length-set v.rows v.y (cleared_row v b)) ∙ u.full

          v_row : v.y < h
          v_row = omega (arith, u.y_is)

          each : (j : ℕ) → j < h → (v.y < j) ⊎ (j ≤ v.y) → row_at (clear_eos v b).rows j ≡ row_at rows j
          each j m (inr k) = clear_eos_above v b w h v_full v_row j k ∙ u.above j (omega (arith, u.y_is))
          each j m (inl k) =
              let blank_there : row_at v.rows j ≡ replicate w blank = sym (get_or-set_other v.rows v.y j (cleared_row v b) [] (omega arith)) ∙ u.below j (omega (arith, u.y_is)) m in
              clear_eos_below v b w h v_full v_row j k m (ap length blank_there ∙ length-replicate w blank)
              ∙ ap (λ c. replicate w (blank_of c)) (sym plain) ∙ sym (rest j (omega (arith, u.y_is)) m)

  -- the entries of all rows, joined or not, leave the rows
  pub all_rows_give : 0 < w → HasRows w h rows (all_rows w h rows).pen (replay f (emptied s) (all_rows w h rows).entries)
  all_rows_give lw = give (joins_rows w h rows) refl
    where
      a : Attributes
      a = bottom_attrs w h rows

      i : ℕ
      i = bottom w h rows

      t : ℕ
      t = joined_row w a rows i

      give : (b : Bool) → joins_rows w h rows ≡ b → HasRows w h rows (all_rows w h rows).pen (replay f (emptied s) (all_rows w h rows).entries)
      give false e = subst (λ (d : Penned). HasRows w h rows d.pen (replay f (emptied s) d.entries)) (sym (cond-false (joins_rows w h rows) _ _ e)) (rows_give f one w h rows z full s size)
      give true e = subst (λ (d : Penned). HasRows w h rows d.pen (replay f (emptied s) d.entries)) (sym (cond-true (joins_rows w h rows) _ _ e)) joined
        where
          joined : HasRows w h rows a (replay f (emptied s) (front_of (rows_upto w rows (suc t)).entries ++ change.ClearToEndOfScreen a.background ∷ []))
          joined =
              let x = and_parts (has_only_background a && not (attributes_eq a default_attributes)) (ltb i h && ltb (suc t) h) e in
              let y = and_parts (has_only_background a) (not (attributes_eq a default_attributes)) x.0 in
              let v = and_parts (ltb i h) (ltb (suc t) h) x.1 in
              let li : i < h = ltb-true i h v.0 in
              let lt : suc t < h = ltb-true (suc t) h v.1 in
              joined_give t a (front_of (rows_upto w rows (suc t)).entries) (omega arith) ((attributes_eq-Decides a (with_background a.background)).0 y.0)
              (ends_with_is a (rows_upto w rows (suc t)).entries (joined_ends w a rows i lw y.0 (not-true (attributes_eq a default_attributes) y.1) (first_blank_same w a rows h i (le_refl i) li)))
              (λ j m l. first_blank_same w a rows h j (omega (arith, joined_le w a rows i)) l)
