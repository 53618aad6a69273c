-- The entries of rows leave what is kept beside the screen as it is shown: no text of them scrolls.
use Rattle.std.proofs.Common.{◌≡◌, ℕ, zero, suc, ◌<◌, ◌≤◌, Bool, true, false, cond, not, ◌&&◌, eqb, ltb, List, [], ◌∷◌, ◌++◌, length, arith, inl, inr, ◌⊎◌, le_refl, ne_eqb, ltb-true, refl, sym, ap, ◌∙◌, subst}
use Rattle.std.proofs.lemmas.List.Sums.{fold-append, fold_push}
use Rattle.std.proofs.lemmas.Bool.{cases_Bool, cond-true, cond-false, and_parts, not-true}
use Rattle.unicode_segmentation.specs.Grapheme.{graphemes}
use Rattle.termwiz_cell.specs.Attributes.{Attributes, default_attributes, has_only_background, attributes_eq}
use Rattle.termwiz_cell.specs.CellValue.{CellValue, space}
use Rattle.termwiz_cell.specs.ChangeValue as change
use Rattle.termwiz_cell.specs.ChangeValue.{ChangeValue}
use Rattle.termwiz_storage.specs.Stored.{stored}
use Rattle.termwiz_storage.specs.VisibleCell.{VisibleCell, at_column}
use Rattle.termwiz_line.specs.Row.{is_hidden, visible_upto}
use Rattle.termwiz_line.specs.Entries.{joins, join, add_text, Penned, pen_entry, cell_out, cells_out, pen_behind, is_empty, clear_entry, with_tail, ends_plain, row_entries}
use Rattle.termwiz_screen.specs.Kept.{Kept}
use Rattle.termwiz_screen.specs.Screen.{Screen, row_at}
use Rattle.termwiz_screen.specs.Print.{piece_of, printed_cell, one_kept, kept_after}
use Rattle.termwiz_screen.specs.Printable.{IsPrintableRow, HasSize}
use Rattle.termwiz_screen.specs.Repaint.{next_line, rows_upto, bottom_attrs, front_of, joined_row, bottom, joins_rows, all_rows}
use Rattle.termwiz_screen.specs.Step.{step, replay, step_kept, replay_kept}
use Rattle.termwiz_screen.specs.Measured.{IsMeasured}
use Rattle.termwiz_screen.specs.declared.print.Piece.TheVariants.{Cell}
use Rattle.termwiz_line.proofs.RowVisible.{visible_hidden, visible_shown, reach_visible}
use Rattle.termwiz_screen.proofs.Repaints.EntryTexts.{texts_eq-Decides, replay_pen, no_break}
use Rattle.termwiz_screen.proofs.FullScreens.{ShowAlike, alike-refl, alike-more}
use Rattle.termwiz_screen.proofs.Runs.{kept_after-append}
use Rattle.termwiz_screen.proofs.Repaints.Bottom.{joined_ends, ends_with_is, first_blank_same}
use Rattle.termwiz_screen.proofs.Repaints.Rows.{emptied, row_start, IsUpto, to_row, rows_stand}
use Rattle.termwiz_screen.proofs.Repaints.RowEntries.{row_texts}
use Rattle.termwiz_screen.proofs.Repaints.RowTrimming.{IsTrimmed, trimmed_columns}

-- the changes, made on this screen, leave what is kept as it is shown
abbrev pub Calm : (List ℕ → ℕ) → Screen → List ChangeValue → Type 0
Calm f s es = (k : Kept) → ShowAlike (replay_kept f s k es) k

module _ (f : List ℕ → ℕ) where
  pub kept-append : (s : Screen) (k : Kept) (es gs : List ChangeValue) → replay_kept f s k (es ++ gs) ≡ replay_kept f (replay f s es) (replay_kept f s k es) gs
  kept-append s k [] gs = refl
  kept-append s k (e ∷ es) gs = kept-append (step f s e) (step_kept f s k e) es gs

  pub calm-append : (s : Screen) (es gs : List ChangeValue) → Calm f s es → Calm f (replay f s es) gs → Calm f s (es ++ gs)
  calm-append s es gs c d k = subst (λ l. ShowAlike l k) (sym (kept-append s k es gs)) (alike-more _ _ _ (d (replay_kept f s k es)) (c k))

  -- an entry that may be left out
  pub calm-optional : (s : Screen) (b : Bool) (e : ChangeValue) → Calm f s (e ∷ []) → Calm f s (cond b [] (e ∷ []))
  calm-optional s true e c = alike-refl
  calm-optional s false e c = c

  pub calm-pen : (s : Screen) (old new : Attributes) → Calm f s (pen_entry old new)
  calm-pen s old new = calm-optional s (attributes_eq old new) (change.AllAttributes new) alike-refl

  -- adding a text is printing its one grapheme
  kept-join : (s : Screen) (k : Kept) (e : ChangeValue) (t : List ℕ) → graphemes true t ≡ t ∷ [] → replay_kept f s k (join e t) ≡ one_kept f (step f s e) t (step_kept f s k e)
  kept-join s k (change.Text u) t h = joined (joins u t) (texts_eq-Decides (graphemes true (u ++ t)) (graphemes true u ++ t ∷ [])).0
    where
      joined : (b : Bool) → (b ≡ true → graphemes true (u ++ t) ≡ graphemes true u ++ t ∷ []) →
          replay_kept f s k (cond b (change.Text (u ++ t) ∷ []) (change.Text u ∷ change.Text t ∷ [])) ≡ one_kept f (step f s (change.Text u)) t (step_kept f s k (change.Text u))
      joined true e = ap (kept_after f s k) (e refl) ∙ kept_after-append f s k (graphemes true u) (t ∷ [])
      joined false e = ap (kept_after f (step f s (change.Text u)) (step_kept f s k (change.Text u))) h
  kept-join s k e t h = ap (kept_after f (step f s e) (step_kept f s k e)) h

  kept-text : (es : List ChangeValue) (s : Screen) (k : Kept) (t : List ℕ) → graphemes true t ≡ t ∷ [] → replay_kept f s k (add_text es t) ≡ one_kept f (replay f s es) t (replay_kept f s k es)
  kept-text [] s k t h = ap (kept_after f s k) h
  kept-text (e ∷ []) s k t h = kept-join s k e t h
  kept-text (e ∷ (g ∷ es)) s k t h = kept-text (g ∷ es) (step f s e) (step_kept f s k e) t h

  -- a measured cell, where no wrap is pending
  calm-put : (s : Screen) (g : List ℕ) (k : Kept) → s.x < s.width → (piece_of f s.pen g ≡ Cell (printed_cell f s.pen g)) → ShowAlike (one_kept f s g k) k
  calm-put s g k l n =
      let b : eqb s.x s.width ≡ false = ne_eqb s.x s.width (omega arith) in
      rw (n, b) (record { title = refl; shape = refl; color = refl; lines = refl })

  -- the entries of a visible cell
  calm-cell : (s : Screen) (d : Penned) (p : VisibleCell) → Calm f s d.entries → (replay f s d.entries).pen ≡ d.pen → (replay f s d.entries).x < (replay f s d.entries).width → IsMeasured f p.cell → Calm f s (cell_out d p).entries
  calm-cell s d p c e l m k =
      let es = d.entries ++ pen_entry d.pen p.cell.attrs in
      let u : replay f s es ≡ record (replay f s d.entries) { pen = p.cell.attrs } = fold-append (step f) s d.entries _ ∙ replay_pen f (replay f s d.entries) d.pen p.cell.attrs e in
      subst (λ l. ShowAlike l k) (sym (kept-text es s k p.cell.text m.alone))
      (alike-more _ _ _
      (subst (λ (v : Screen). ShowAlike (one_kept f v p.cell.text (replay_kept f s k es)) (replay_kept f s k es)) (sym u)
      (calm-put (record (replay f s d.entries) { pen = p.cell.attrs }) p.cell.text (replay_kept f s k es) l (no_break f p.cell.attrs p.cell.text m.is_clean)))
      (calm-append s d.entries (pen_entry d.pen p.cell.attrs) c (calm-pen (replay f s d.entries) d.pen p.cell.attrs) k))

  -- what follows the texts
  calm-tail : (s : Screen) (d : Penned) (kept : List VisibleCell) (a : Attributes) → Calm f s d.entries → Calm f s (with_tail d kept a).entries
  calm-tail s d kept a c =
      calm-append s (d.entries ++ cond (is_empty kept) [] (pen_entry d.pen a)) (clear_entry a) (calm-append s d.entries (cond (is_empty kept) [] (pen_entry d.pen a)) c (some (is_empty kept)))
      (calm-optional (replay f s (d.entries ++ cond (is_empty kept) [] (pen_entry d.pen a))) (attributes_eq a default_attributes) (change.ClearToEndOfLine a.background) (λ k. record { title = refl; shape = refl; color = refl; lines = refl }))
    where
      some : (b : Bool) → Calm f (replay f s d.entries) (cond b [] (pen_entry d.pen a))
      some true = alike-refl
      some false = calm-pen (replay f s d.entries) d.pen a

  module _ (one : f space ≡ 1) (s : Screen) (r : List CellValue) (z : IsPrintableRow f s.width r) (ly : s.y < length s.rows) (p : Attributes) (ex : s.x ≡ 0) (ep : s.pen ≡ p) where
    calm-texts : (k : ℕ) → k ≤ s.width → Calm f s (cells_out p (visible_upto r k)).entries
    calm-texts zero l = alike-refl
    calm-texts (suc k) l = next (calm-texts k (omega arith)) (cases_Bool (is_hidden r k))
      where
        before : Penned
        before = cells_out p (visible_upto r k)

        next : Calm f s before.entries → (is_hidden r k ≡ true) ⊎ (is_hidden r k ≡ false) → Calm f s (cells_out p (visible_upto r (suc k))).entries
        next c (inl h) = subst (λ v. Calm f s (cells_out p v).entries) (sym (visible_hidden r k h)) c
        next c (inr v) =
            let e = row_texts f one s r z ly p ex ep k (omega arith) in
            subst (λ (d : Penned). Calm f s d.entries) (sym (ap (cells_out p) (visible_shown r k v) ∙ fold_push cell_out (record { entries = []; pen = p }) (visible_upto r k) (at_column k (stored r k))))
            (calm-cell s before (at_column k (stored r k)) c (ap (λ (t : Screen). t.pen) e) (omega (arith, ap (λ (t : Screen). t.x) e, ap (λ (t : Screen). t.width) e, reach_visible r k v)) (z.measured k l v))

    pub calm-row : Calm f s (row_entries p (visible_upto r s.width)).entries
    calm-row = done (cases_Bool (ends_plain cells))
      where
        cells : List VisibleCell
        cells = visible_upto r s.width

        a : Attributes
        a = pen_behind p cells

        t : IsTrimmed r a s.width
        t = trimmed_columns f one s.width r a z s.width (le_refl s.width)

        done : (ends_plain cells ≡ true) ⊎ (ends_plain cells ≡ false) → Calm f s (row_entries p cells).entries
        done (inl h) =
            subst (λ (d : Penned). Calm f s d.entries) (sym (cond-true (ends_plain cells) _ _ h ∙ ap (λ v. with_tail (cells_out p v) v a) t.cells_are))
            (calm-tail s (cells_out p (visible_upto r t.kept)) (visible_upto r t.kept) a (calm-texts t.kept t.within))
        done (inr h) = subst (λ (d : Penned). Calm f s d.entries) (sym (cond-false (ends_plain cells) _ _ h)) (calm-texts s.width (le_refl s.width))

  module _ (one : f space ≡ 1) (w h : ℕ) (rows : List (List CellValue)) (full : length rows ≡ h) (z : (j : ℕ) → j < h → IsPrintableRow f w (row_at rows j)) (s : Screen) (size : HasSize w h s) where
    calm-rows : (i : ℕ) → i ≤ h → Calm f (emptied s) (rows_upto w rows i).entries
    calm-rows zero l = alike-refl
    calm-rows (suc i) l =
        calm-append (emptied s) above.entries (move ++ row) (calm-rows i (omega arith))
        (calm-append v move row (calm-optional v (eqb i 0) next_line alike-refl)
        (subst (λ (t : Screen). Calm f t row) (sym (to_row f one w h rows z i above.pen v (omega arith) u))
        (subst (λ n. Calm f (row_start i v) (row_entries above.pen (visible_upto (row_at rows i) n)).entries) u.width
        (calm-row one (row_start i v) (row_at rows i) (subst (λ n. IsPrintableRow f n (row_at rows i)) (sym u.width) (z i (omega arith))) (omega (arith, u.full)) above.pen refl u.pen_is))))
      where
        above : Penned
        above = rows_upto w rows i

        v : Screen
        v = replay f (emptied s) above.entries

        move : List ChangeValue
        move = cond (eqb i 0) [] (next_line ∷ [])

        row : List ChangeValue
        row = (row_entries above.pen (visible_upto (row_at rows i) w)).entries

        u : IsUpto w h rows i above.pen v
        u = rows_stand f one w h rows z s size i (omega arith)

    -- a clear to the end of the screen in the place of the last clear of a line
    calm-cleared : (front : List ChangeValue) (a : Attributes) → Calm f (emptied s) (front ++ change.ClearToEndOfLine a.background ∷ []) → Calm f (emptied s) (front ++ change.ClearToEndOfScreen a.background ∷ [])
    calm-cleared front a c =
        calm-append (emptied s) front (change.ClearToEndOfScreen a.background ∷ []) (λ k. let q = subst (λ l. ShowAlike l k) (kept-append (emptied s) k front (change.ClearToEndOfLine a.background ∷ [])) (c k) in record { title = q.title; shape = q.shape; color = q.color; lines = q.lines })
        (λ k. record { title = refl; shape = refl; color = refl; lines = refl })

    -- the entries of all rows, joined or not
    pub calm-all_rows : 0 < w → Calm f (emptied s) (all_rows w h rows).entries
    calm-all_rows lw = calm (joins_rows w h rows) refl
      where
        a : Attributes
        a = bottom_attrs w h rows

        i : ℕ
        i = bottom w h rows

        t : ℕ
        t = joined_row w a rows i

        calm : (b : Bool) → joins_rows w h rows ≡ b → Calm f (emptied s) (all_rows w h rows).entries
        calm false e = subst (λ (d : Penned). Calm f (emptied s) d.entries) (sym (cond-false (joins_rows w h rows) _ _ e)) (calm-rows h (le_refl h))
        calm true e =
            let x = and_parts (has_only_background a && not (attributes_eq a default_attributes)) (ltb i h && ltb (suc t) h) e in
            let y = and_parts (has_only_background a) (not (attributes_eq a default_attributes)) x.0 in
            let v = and_parts (ltb i h) (ltb (suc t) h) x.1 in
            let li : i < h = ltb-true i h v.0 in
            let lt : suc t < h = ltb-true (suc t) h v.1 in
            let ends = ends_with_is a (rows_upto w rows (suc t)).entries (joined_ends w a rows i lw y.0 (not-true (attributes_eq a default_attributes) y.1) (first_blank_same w a rows h i (le_refl i) li)) in
            subst (λ (d : Penned). Calm f (emptied s) d.entries) (sym (cond-true (joins_rows w h rows) _ _ e))
            (calm-cleared (front_of (rows_upto w rows (suc t)).entries) a (subst (Calm f (emptied s)) ends (calm-rows (suc t) (omega arith))))
