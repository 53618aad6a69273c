-- A repaint holds no scroll, so each region in it lies on the surface.
use Rattle.std.proofs.Common.{◌≡◌, ℕ, zero, suc, Bool, true, false, cond, ◌&&◌, eqb, List, [], ◌∷◌, ◌++◌, fold, length, get_or, refl}
use Rattle.termwiz_storage.specs.VisibleCell.{VisibleCell}
use Rattle.std.specs.Prelude.{Option, Some, None}
use Rattle.std.proofs.lemmas.Bool.{and_parts}
use Rattle.termwiz_cell.specs.declared.change.CursorShape.{CursorShape}
use Rattle.termwiz_cell.specs.declared.change.CursorVisibility.{CursorVisibility}
use Rattle.termwiz_cell.specs.declared.change.CursorVisibility.TheVariants as cursor
use Rattle.termwiz_cell.specs.Attributes.{Attributes, default_attributes, attributes_eq}
use Rattle.termwiz_cell.specs.CellValue.{CellValue}
use Rattle.termwiz_cell.specs.ChangeValue as change
use Rattle.termwiz_cell.specs.ChangeValue.{ChangeValue}
use Rattle.termwiz_line.specs.Row.{visible_upto}
use Rattle.termwiz_line.specs.Entries.{joins, add_text, Penned, pen_entry, cell_out, cells_out, trimmed, pen_behind, is_empty, clear_entry, with_tail, ends_plain, row_entries}
use Rattle.termwiz_screen.specs.Screen.{Screen, row_at}
use Rattle.termwiz_screen.specs.Repaint.{next_line, rows_upto, bottom_attrs, front_of, joined_row, bottom, joins_rows, all_rows, all_moves, without_last_moves, is_nil, cursor_entry, shape_entry, shown_entries, title_entry, repaint_of, repaint, lines_upto, full_entries, full_shown_entries, full_repaint}
use Rattle.termwiz_screen.specs.Place.{cursor_at}
use Rattle.termwiz_screen.specs.FullScreen.{FullScreen}
use Rattle.termwiz_cell.specs.declared.change.LineAttribute.{LineAttribute}
use Rattle.termwiz_cell.specs.declared.change.LineAttribute.TheVariants.{SingleWidthLine}
use Rattle.termwiz_screen.specs.Step.{region_fits, regions_fit}
use Rattle.termwiz_screen.proofs.LogRegions.{regions-append}

module _ (h : ℕ) where
  -- an entry that may be left out
  optional : (b : Bool) (x : ChangeValue) → region_fits h x ≡ true → regions_fit h (cond b [] (x ∷ [])) ≡ true
  optional true x p = refl
  optional false x p = rw p refl

  after : (e : ChangeValue) (es : List ChangeValue) → region_fits h e ≡ true → regions_fit h es ≡ true → regions_fit h (e ∷ es) ≡ true
  after e es p q = rw (p, q) refl

  pens : (a b : Attributes) → regions_fit h (pen_entry a b) ≡ true
  pens a b = optional (attributes_eq a b) (change.AllAttributes b) refl

  texts : (es : List ChangeValue) (t : List ℕ) → regions_fit h es ≡ true → regions_fit h (add_text es t) ≡ true
  texts [] t p = refl
  texts (change.Text u ∷ []) t p = joined (joins u t)
    where
      joined : (b : Bool) → regions_fit h (cond b (change.Text (u ++ t) ∷ []) (change.Text u ∷ change.Text t ∷ [])) ≡ true
      joined true = refl
      joined false = refl
  texts (e ∷ []) t p = p
  texts (e ∷ (g ∷ es)) t p = let k = and_parts (region_fits h e) (regions_fit h (g ∷ es)) p in after e (add_text (g ∷ es) t) k.0 (texts (g ∷ es) t k.1)

  cells : (ps : List VisibleCell) (d : Penned) → regions_fit h d.entries ≡ true → regions_fit h (fold cell_out d ps).entries ≡ true
  cells [] d p = p
  cells (c ∷ cs) d p = cells cs (cell_out d c) (texts (d.entries ++ pen_entry d.pen c.cell.attrs) c.cell.text (regions-append h d.entries (pen_entry d.pen c.cell.attrs) p (pens d.pen c.cell.attrs)))

  tail : (d : Penned) (kept : List VisibleCell) (a : Attributes) → regions_fit h d.entries ≡ true → regions_fit h (with_tail d kept a).entries ≡ true
  tail d kept a p =
      regions-append h (d.entries ++ cond (is_empty kept) [] (pen_entry d.pen a)) (clear_entry a) (regions-append h d.entries (cond (is_empty kept) [] (pen_entry d.pen a)) p (some (is_empty kept)))
      (optional (attributes_eq a default_attributes) (change.ClearToEndOfLine a.background) refl)
    where
      some : (b : Bool) → regions_fit h (cond b [] (pen_entry d.pen a)) ≡ true
      some true = refl
      some false = pens d.pen a

  row : (pen : Attributes) (ps : List VisibleCell) → regions_fit h (row_entries pen ps).entries ≡ true
  row pen ps = at (ends_plain ps)
    where
      a : Attributes
      a = pen_behind pen ps

      at : (b : Bool) → regions_fit h (cond b (with_tail (cells_out pen (trimmed a ps)) (trimmed a ps) a) (cells_out pen ps)).entries ≡ true
      at true = tail (cells_out pen (trimmed a ps)) (trimmed a ps) a (cells (trimmed a ps) (record { entries = []; pen = pen }) refl)
      at false = cells ps (record { entries = []; pen = pen }) refl

  rows_fit : (w : ℕ) (rows : List (List CellValue)) (i : ℕ) → regions_fit h (rows_upto w rows i).entries ≡ true
  rows_fit w rows zero = refl
  rows_fit w rows (suc i) =
      let d = rows_upto w rows i in
      let es : List ChangeValue = (row_entries d.pen (visible_upto (row_at rows i) w)).entries in
      regions-append h d.entries (cond (eqb i 0) [] (next_line ∷ []) ++ es) (rows_fit w rows i)
      (regions-append h (cond (eqb i 0) [] (next_line ∷ [])) es (optional (eqb i 0) next_line refl) (row d.pen (visible_upto (row_at rows i) w)))

  front : (es : List ChangeValue) → regions_fit h es ≡ true → regions_fit h (front_of es) ≡ true
  front [] p = refl
  front (e ∷ []) p = refl
  front (e ∷ (g ∷ es)) p = let k = and_parts (region_fits h e) (regions_fit h (g ∷ es)) p in after e (front_of (g ∷ es)) k.0 (front (g ∷ es) k.1)

  all_fit : (w n : ℕ) (rows : List (List CellValue)) → regions_fit h (all_rows w n rows).entries ≡ true
  all_fit w n rows = at (joins_rows w n rows)
    where
      a : Attributes
      a = bottom_attrs w n rows

      above : List ChangeValue
      above = (rows_upto w rows (suc (joined_row w a rows (bottom w n rows)))).entries

      at : (b : Bool) → regions_fit h (cond b (record { entries = front_of above ++ change.ClearToEndOfScreen a.background ∷ []; pen = a }) (rows_upto w rows n)).entries ≡ true
      at true = regions-append h (front_of above) (change.ClearToEndOfScreen a.background ∷ []) (front above (rows_fit w rows (suc (joined_row w a rows (bottom w n rows))))) refl
      at false = rows_fit w rows n

  moves : (es : List ChangeValue) → regions_fit h es ≡ true → regions_fit h (without_last_moves es) ≡ true
  moves [] p = refl
  moves (e ∷ es) p = let k = and_parts (region_fits h e) (regions_fit h es) p in at (all_moves (e ∷ es)) (after e (without_last_moves es) k.0 (moves es k.1))
    where
      at : (b : Bool) → regions_fit h (e ∷ without_last_moves es) ≡ true → regions_fit h (cond b [] (e ∷ without_last_moves es)) ≡ true
      at true q = refl
      at false q = q

  shape_fits : (shape : Option CursorShape) → regions_fit h (shape_entry shape) ≡ true
  shape_fits None = refl
  shape_fits (Some shape) = refl

  shown_fits : (v : CursorVisibility) (shape : Option CursorShape) → regions_fit h (shown_entries v shape) ≡ true
  shown_fits cursor.Visible shape = shape_fits shape
  shown_fits cursor.Hidden shape = refl

  title_fits : (title : List ℕ) → regions_fit h (title_entry title) ≡ true
  title_fits [] = refl
  title_fits (b ∷ bs) = refl

  repaint_of_fits : (first : List ChangeValue) (s : Screen) (last : List ChangeValue) → regions_fit h first ≡ true → regions_fit h last ≡ true → regions_fit h (repaint_of first (all_rows s.width s.height s.rows) s last) ≡ true
  repaint_of_fits first s last p q =
      let d = all_rows s.width s.height s.rows in
      let es = without_last_moves (first ++ d.entries) in
      let place = cursor_entry es s.x s.y in
      regions-append h es (place ++ (pen_entry d.pen s.pen ++ last)) (moves (first ++ d.entries) (regions-append h first d.entries p (all_fit s.width s.height s.rows)))
      (regions-append h place (pen_entry d.pen s.pen ++ last) (optional (is_nil es && (eqb s.x 0 && eqb s.y 0)) (cursor_at s.x s.y) refl)
      (regions-append h (pen_entry d.pen s.pen) last (pens d.pen s.pen) q))

  pub repaint_fits : (s : Screen) (title : List ℕ) (shape : Option CursorShape) → regions_fit h (repaint s title shape) ≡ true
  repaint_fits s title shape = repaint_of_fits (title_entry title) s (shown_entries s.visibility shape) (title_fits title) (shown_fits s.visibility shape)

  lines_fit : (lines : List LineAttribute) (i : ℕ) → regions_fit h (lines_upto lines i) ≡ true
  lines_fit lines zero = refl
  lines_fit lines (suc i) =
      regions-append h (lines_upto lines i) (cond (eqb i 0) [] (next_line ∷ []) ++ change.LineAttribute (get_or lines i SingleWidthLine) ∷ []) (lines_fit lines i)
      (regions-append h (cond (eqb i 0) [] (next_line ∷ [])) (change.LineAttribute (get_or lines i SingleWidthLine) ∷ []) (optional (eqb i 0) next_line refl) refl)

  full_shown_fits : (v : CursorVisibility) (shape : CursorShape) → regions_fit h (full_shown_entries v shape) ≡ true
  full_shown_fits cursor.Visible shape = refl
  full_shown_fits cursor.Hidden shape = refl

  pub full_repaint_fits : (t : FullScreen) → regions_fit h (full_repaint t) ≡ true
  full_repaint_fits t =
      repaint_of_fits (full_entries t.title t.color t.lines) t.screen (full_shown_entries t.screen.visibility t.shape)
      (regions-append h (lines_upto t.lines (length t.lines)) (cursor_at 0 0 ∷ []) (lines_fit t.lines (length t.lines)) refl) (full_shown_fits t.screen.visibility t.shape)
