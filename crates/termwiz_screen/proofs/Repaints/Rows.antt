-- What the entries of all rows do on a cleared screen: they leave the rows.
use Rattle.std.proofs.Common.{◌≡◌, ℕ, zero, suc, ◌+◌, ◌-◌, ◌<◌, ◌≤◌, min, true, false, cond, eqb, leb, List, [], ◌∷◌, length, set, replicate, arith, ◌≢◌, inl, inr, ◌⊎◌, le_refl, eq-eqb, ne_eqb, le-leb, refl, sym, ap, ◌∙◌, subst}
use Rattle.std.proofs.lemmas.List.{length-set, length-map, get_or-set_same, get_or-set_other, get_or-map, ext_get_or}
use Rattle.std.proofs.lemmas.List.Sums.{fold-append}
use Rattle.std.proofs.lemmas.Bool.{cases_eq}
use Rattle.termwiz_cell.specs.declared.change.CursorVisibility.TheVariants as cursor
use Rattle.termwiz_cell.specs.Attributes.{Attributes, default_attributes}
use Rattle.termwiz_cell.specs.CellValue.{CellValue, space, blank}
use Rattle.termwiz_line.specs.Row.{visible_upto, clear}
use Rattle.termwiz_line.specs.Entries.{row_entries}
use Rattle.termwiz_screen.specs.Screen.{Screen, row_at}
use Rattle.termwiz_screen.specs.Clear.{clear_screen}
use Rattle.termwiz_screen.specs.Step.{step, replay}
use Rattle.termwiz_screen.specs.Repaint.{next_line, rows_upto}
use Rattle.termwiz_screen.specs.Printable.{IsPrintableRow, HasSize, LeavesRow}
use Rattle.termwiz_line.proofs.RowPainting.{clear_whole}
use Rattle.termwiz_screen.proofs.Repaints.RowEntries.{row_done}

-- after the entries of a repaint before those of its rows
abbrev pub emptied : Screen → Screen
emptied s = clear_screen (record s { visibility = cursor.Hidden }) default_attributes

-- the rows above row i stand, those below are blank, and the cursor is in the last one that was written
pub record IsUpto (w h : ℕ) (rows : List (List CellValue)) (i : ℕ) (pen : Attributes) (s : Screen) : Type 0 where
  pub width : s.width ≡ w
  pub height : s.height ≡ h
  pub hidden : s.visibility ≡ cursor.Hidden
  pub full : length s.rows ≡ h
  pub above : (j : ℕ) → j < i → row_at s.rows j ≡ row_at rows j
  pub below : (j : ℕ) → i ≤ j → j < h → row_at s.rows j ≡ replicate w blank
  pub y_is : s.y ≡ i - 1
  pub x_is : i ≡ 0 → s.x ≡ 0
  pub pen_is : s.pen ≡ pen

-- what the entries of all rows leave
pub record HasRows (w h : ℕ) (rows : List (List CellValue)) (pen : Attributes) (s : Screen) : Type 0 where
  pub width : s.width ≡ w
  pub height : s.height ≡ h
  pub hidden : s.visibility ≡ cursor.Hidden
  pub rows_are : s.rows ≡ rows
  pub pen_is : s.pen ≡ pen

-- the start of row i
abbrev pub row_start : ℕ → Screen → Screen
row_start i s = record s { x = 0; y = i }

pub upto_emptied : (w h : ℕ) (rows : List (List CellValue)) (s : Screen) → HasSize w h s → IsUpto w h rows 0 default_attributes (emptied s)
upto_emptied w h rows s z = record {
  width = z.width;
  height = z.height;
  hidden = refl;
  full = length-map s.rows _ ∙ z.full;
  above = λ j m. absurd (omega arith);
  below = λ j m n. get_or-map (λ r. clear r 0 blank) s.rows j [] [] (omega (arith, z.full)) ∙ clear_whole w (row_at s.rows j) blank (z.row_length j n);
  y_is = refl;
  x_is = λ e. refl;
  pen_is = refl;
}

module _ (f : List ℕ → ℕ) (one : f space ≡ 1) (w h : ℕ) (rows : List (List CellValue)) (z : (j : ℕ) → j < h → IsPrintableRow f w (row_at rows j)) where
  pub to_row : (i : ℕ) (pen : Attributes) (s : Screen) → i < h → IsUpto w h rows i pen s → replay f s (cond (eqb i 0) [] (next_line ∷ [])) ≡ row_start i s
  to_row i pen s l u = elim (cases_eq i 0) [
    | inl e ↦ (let t : eqb i 0 ≡ true = eq-eqb i 0 e in let y : s.y ≡ i = omega (arith, u.y_is) in let x : s.x ≡ 0 = u.x_is e in rw t (λ n. record s { x = x n; y = y n }))
    | inr e ↦ (let t : eqb i 0 ≡ false = ne_eqb i 0 e in
        let y : min (s.y + 1) (s.height - 1) ≡ i = omega (arith, u.y_is, u.height) in
        let b : leb 0 s.width ≡ true = le-leb 0 s.width (omega arith) in
        rw (t, b) (λ n. record s { x = 0; y = y n }))
  ]

  row_step : (i : ℕ) (s : Screen) → i < h → IsUpto w h rows i (rows_upto w rows i).pen (replay f s (rows_upto w rows i).entries) →
      LeavesRow (row_start i (replay f s (rows_upto w rows i).entries)) (row_at rows i) (rows_upto w rows (suc i)).pen (replay f s (rows_upto w rows (suc i)).entries)
  row_step i s l u =
      subst (LeavesRow (row_start i v) (row_at rows i) (rows_upto w rows (suc i)).pen) (sym parts)
      (subst (λ n. LeavesRow (row_start i v) (row_at rows i) (row_entries pen (visible_upto (row_at rows i) n)).pen (replay f (row_start i v) (row_entries pen (visible_upto (row_at rows i) n)).entries)) u.width
      (row_done f one (row_start i v) (row_at rows i) (subst (λ n. IsPrintableRow f n (row_at rows i)) (sym u.width) (z i l)) (omega (arith, u.full))
      (u.below i (le_refl i) l ∙ ap (λ n. replicate n blank) (sym u.width)) pen refl u.pen_is))
    where
      v : Screen
      v = replay f s (rows_upto w rows i).entries

      pen : Attributes
      pen = (rows_upto w rows i).pen

      parts : replay f s (rows_upto w rows (suc i)).entries ≡ replay f (row_start i v) (row_entries pen (visible_upto (row_at rows i) w)).entries
      parts =
          fold-append (step f) s (rows_upto w rows i).entries _
          ∙ fold-append (step f) v (cond (eqb i 0) [] (next_line ∷ [])) _
          ∙ ap (λ u. replay f u (row_entries pen (visible_upto (row_at rows i) w)).entries) (to_row i pen v l u)

  upto_next : (i : ℕ) (pen pen' : Attributes) (s t : Screen) → i < h → IsUpto w h rows i pen s → LeavesRow (row_start i s) (row_at rows i) pen' t → IsUpto w h rows (suc i) pen' t
  upto_next i pen pen' s t l u d = subst (IsUpto w h rows (suc i) pen') (sym d.screen_is) (record {
    width = u.width;
    height = u.height;
    hidden = u.hidden;
    full = length-set s.rows i (row_at rows i) ∙ u.full;
    above = λ j m. here j m (cases_eq j i);
    below = λ j m n. get_or-set_other s.rows i j (row_at rows i) [] (omega arith) ∙ u.below j (omega arith) n;
    y_is = omega arith;
    x_is = λ e. absurd (omega arith);
    pen_is = refl;
  })
    where
      here : (j : ℕ) → j < suc i → (j ≡ i) ⊎ (j ≢ i) → row_at (set s.rows i (row_at rows i)) j ≡ row_at rows j
      here j m (inl e) = ap (row_at (set s.rows i (row_at rows i))) e ∙ get_or-set_same s.rows i (row_at rows i) [] (omega (arith, u.full)) ∙ ap (row_at rows) (sym e)
      here j m (inr n) = get_or-set_other s.rows i j (row_at rows i) [] n ∙ u.above j (omega arith)

  pub rows_stand : (s : Screen) → HasSize w h s → (i : ℕ) → i ≤ h → IsUpto w h rows i (rows_upto w rows i).pen (replay f (emptied s) (rows_upto w rows i).entries)
  rows_stand s q zero l = upto_emptied w h rows s q
  rows_stand s q (suc i) l =
      let before = rows_stand s q i (omega arith) in
      upto_next i _ _ (replay f (emptied s) (rows_upto w rows i).entries) (replay f (emptied s) (rows_upto w rows (suc i)).entries) l before (row_step i (emptied s) l before)

  -- the entries of all rows leave the rows
  pub rows_give : length rows ≡ h → (s : Screen) → HasSize w h s → HasRows w h rows (rows_upto w rows h).pen (replay f (emptied s) (rows_upto w rows h).entries)
  rows_give full s q = whole (rows_stand s q h (le_refl h))
    where
      whole : IsUpto w h rows h (rows_upto w rows h).pen (replay f (emptied s) (rows_upto w rows h).entries) → HasRows w h rows (rows_upto w rows h).pen (replay f (emptied s) (rows_upto w rows h).entries)
      whole u = record {
        width = u.width;
        height = u.height;
        hidden = u.hidden;
        pen_is = u.pen_is;
        rows_are = ext_get_or [] _ rows (u.full ∙ sym full) (λ j l. u.above j (omega (arith, u.full)));
      }
