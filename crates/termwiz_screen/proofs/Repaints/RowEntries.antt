-- What the entries of a row do on a blank row: they leave the row.
use Rattle.std.proofs.Common.{◌≡◌, ℕ, zero, suc, ◌+◌, ◌<◌, ◌≤◌, min, Bool, true, false, cond, ◌&&◌, List, [], ◌∷◌, ◌++◌, length, set, replicate, arith, inl, inr, ◌⊎◌, le_refl, refl, sym, ap, ap₂, ◌∙◌, subst}
use Rattle.std.proofs.lemmas.List.{set-set, set-get_or, get_or-set_same}
use Rattle.std.proofs.lemmas.List.Sums.{fold-append, fold_push}
use Rattle.std.proofs.lemmas.Bool.{cases_Bool, cond-true, cond-false}
use Rattle.termwiz_cell.specs.Attributes.{Attributes, default_attributes, with_background, has_only_background, attributes_eq, attributes_eq-Decides}
use Rattle.termwiz_cell.specs.CellValue.{CellValue, space, blank, blank_of, is_wide, columns}
use Rattle.termwiz_cell.specs.ChangeValue as change
use Rattle.termwiz_storage.specs.Stored.{stored}
use Rattle.termwiz_storage.specs.VisibleCell.{VisibleCell, at_column}
use Rattle.termwiz_line.specs.Row.{is_hidden, visible_upto, paint, clear}
use Rattle.termwiz_line.specs.Entries.{Penned, pen_entry, cell_out, cells_out, pen_behind, is_empty, clear_entry, with_tail, ends_plain, row_entries}
use Rattle.termwiz_screen.specs.Screen.{Screen, row_at}
use Rattle.termwiz_screen.specs.Print.{put_at_cursor}
use Rattle.termwiz_screen.specs.Step.{step, replay}
use Rattle.termwiz_screen.specs.Printable.{IsPrintableRow, LeavesRow}
use Rattle.termwiz_line.proofs.RowVisible.{paint_all, visible_hidden, visible_shown, reach, reach_hidden, reach_visible, hidden_narrow, painted_whole}
use Rattle.termwiz_screen.proofs.RowChanges.Tails.{TailIs, painted_cleared, painted_trimmed, blank_row}
use Rattle.termwiz_screen.proofs.Repaints.EntryTexts.{replay_pen, replay_cell}
use Rattle.termwiz_screen.proofs.Repaints.RowTrimming.{IsTrimmed, trimmed_columns, trimmed_tail, last_is_plain}

-- the screen s after the texts of r before column k, in the row of its cursor
abbrev pub texts_before : Screen → List CellValue → ℕ → Attributes → Screen
texts_before s r k pen = record s { rows = set s.rows s.y (paint_all (row_at s.rows s.y) (visible_upto r k)); x = min s.width (reach r k); pen = pen }

module _ (f : List ℕ → ℕ) (one : f space ≡ 1) (s : Screen) (r : List CellValue) (z : IsPrintableRow f s.width r) (ly : s.y < length s.rows) where
  -- the texts of one column more
  row_next : (k : ℕ) (d : Penned) → k < s.width → is_hidden r k ≡ false → replay f s d.entries ≡ texts_before s r k d.pen →
      replay f s (cell_out d (at_column k (stored r k))).entries ≡ texts_before s r (suc k) (stored r k).attrs
  row_next k d l v e =
      replay_cell f s d (at_column k (stored r k)) (ap (λ (t : Screen). t.pen) e) (omega (arith, ap (λ (t : Screen). t.x) e, ap (λ (t : Screen). t.width) e, column)) (z.measured k l v)
      ∙ ap (λ (t : Screen). put_at_cursor (record t { pen = c.attrs }) c) e
      ∙ λ i. record s { rows = rows_are i; x = x_is (cases_Bool (is_wide c)) i; pen = c.attrs }
    where
      c : CellValue
      c = stored r k

      old : List CellValue
      old = paint_all (row_at s.rows s.y) (visible_upto r k)

      column : min s.width (reach r k) ≡ k
      column = omega (arith, reach_visible r k v)

      rows_are : set (set s.rows s.y old) s.y (paint (row_at (set s.rows s.y old) s.y) (min s.width (reach r k)) c) ≡ set s.rows s.y (paint_all (row_at s.rows s.y) (visible_upto r (suc k)))
      rows_are =
          set-set s.rows s.y old _
          ∙ ap (set s.rows s.y) (ap₂ (λ t n. paint t n c) (get_or-set_same s.rows s.y old [] ly) column
          ∙ sym (fold_push (λ t p. paint t p.column p.cell) (row_at s.rows s.y) (visible_upto r k) (at_column k c)) ∙ ap (paint_all (row_at s.rows s.y)) (sym (visible_shown r k v)))

      x_is : (is_wide c ≡ true) ⊎ (is_wide c ≡ false) → min (min s.width (reach r k) + columns c) s.width ≡ min s.width (reach r (suc k))
      x_is (inl t) = rw t (omega (arith, column))
      x_is (inr t) = rw t (omega (arith, column))

  row_skip : (k : ℕ) (pen : Attributes) → k < s.width → is_hidden r k ≡ true → texts_before s r k pen ≡ texts_before s r (suc k) pen
  row_skip k pen l h =
      let x : min s.width (reach r k) ≡ min s.width (reach r (suc k)) = omega (arith, reach_hidden r k h, reach_visible r (suc k) (hidden_narrow s.width r k z.row l h)) in
      λ i. record s { rows = set s.rows s.y (paint_all (row_at s.rows s.y) (sym (visible_hidden r k h) i)); x = x i; pen = pen }

  pub row_texts : (p : Attributes) → s.x ≡ 0 → s.pen ≡ p → (k : ℕ) → k ≤ s.width → replay f s (cells_out p (visible_upto r k)).entries ≡ texts_before s r k (cells_out p (visible_upto r k)).pen
  row_texts p ex ep zero l =
      let x : s.x ≡ min s.width 0 = omega (arith, ex) in
      λ i. record s { rows = sym (set-get_or s.rows s.y []) i; x = x i; pen = ep i }
  row_texts p ex ep (suc k) l = next (row_texts p ex ep k (omega arith)) (cases_Bool (is_hidden r k))
    where
      next : replay f s (cells_out p (visible_upto r k)).entries ≡ texts_before s r k (cells_out p (visible_upto r k)).pen → (is_hidden r k ≡ true) ⊎ (is_hidden r k ≡ false) →
          replay f s (cells_out p (visible_upto r (suc k))).entries ≡ texts_before s r (suc k) (cells_out p (visible_upto r (suc k))).pen
      next e (inl h) =
          subst (λ v. replay f s (cells_out p v).entries ≡ texts_before s r (suc k) (cells_out p v).pen) (sym (visible_hidden r k h))
          (e ∙ row_skip k (cells_out p (visible_upto r k)).pen l h)
      next e (inr v) =
          subst (λ (d : Penned). replay f s d.entries ≡ texts_before s r (suc k) d.pen)
          (sym (ap (cells_out p) (visible_shown r k v) ∙ fold_push cell_out (record { entries = []; pen = p }) (visible_upto r k) (at_column k (stored r k))))
          (row_next k (cells_out p (visible_upto r k)) l v e)

  module _ (empty : row_at s.rows s.y ≡ replicate s.width blank) where
    -- what was left out is cleared, where it isn't blank already
    tail_cleared : (k : ℕ) (a pen : Attributes) → TailIs s.width r k (blank_of a) → a ≡ with_background a.background →
        replay f (texts_before s r k pen) (change.ClearToEndOfLine a.background ∷ []) ≡ record s { rows = set s.rows s.y r; x = min s.width (reach r k); pen = a }
    tail_cleared k a pen t plain = λ i. record s { rows = rows_are i; x = min s.width (reach r k); pen = sym plain i }
      where
        old : List CellValue
        old = paint_all (row_at s.rows s.y) (visible_upto r k)

        column : min s.width (reach r k) ≡ k
        column = omega (arith, reach_visible r k t.visible, t.inside)

        rows_are : set (set s.rows s.y old) s.y (clear (row_at (set s.rows s.y old) s.y) (min s.width (reach r k)) (blank_of (with_background a.background))) ≡ set s.rows s.y r
        rows_are =
            set-set s.rows s.y old _
            ∙ ap (set s.rows s.y) (ap₂ (λ u n. clear u n (blank_of (with_background a.background))) (get_or-set_same s.rows s.y old [] ly ∙ ap (λ u. paint_all u (visible_upto r k)) empty) column
            ∙ ap (λ b. clear (paint_all (replicate s.width blank) (visible_upto r k)) k (blank_of b)) (sym plain)
            ∙ painted_cleared s.width k (replicate s.width blank) r (blank_of a) (blank_row s.width default_attributes) z.row t)

    tail_blank : (k : ℕ) (pen : Attributes) → TailIs s.width r k blank → texts_before s r k pen ≡ record s { rows = set s.rows s.y r; x = min s.width (reach r k); pen = pen }
    tail_blank k pen t =
        let row : paint_all (row_at s.rows s.y) (visible_upto r k) ≡ r = ap (λ u. paint_all u (visible_upto r k)) empty ∙ painted_trimmed s.width k r z.row t in
        λ i. record s { rows = set s.rows s.y (row i); x = min s.width (reach r k); pen = pen }

    tail_done : (k : ℕ) (d : Penned) (kept : List VisibleCell) (a : Attributes) → TailIs s.width r k (blank_of a) → has_only_background a ≡ true →
        replay f s d.entries ≡ texts_before s r k d.pen → LeavesRow s r (with_tail d kept a).pen (replay f s (with_tail d kept a).entries)
    tail_done k d kept a t h e =
        subst (LeavesRow s r (with_tail d kept a).pen)
        (sym (fold-append (step f) s (d.entries ++ cond (is_empty kept) [] (pen_entry d.pen a)) (clear_entry a)
        ∙ ap (λ v. replay f v (clear_entry a)) (fold-append (step f) s d.entries (cond (is_empty kept) [] (pen_entry d.pen a))
        ∙ ap (λ v. replay f v (cond (is_empty kept) [] (pen_entry d.pen a))) e ∙ penned (is_empty kept))))
        (tail (is_empty kept) (attributes_eq a default_attributes) (attributes_eq-Decides a default_attributes).0)
      where
        plain : a ≡ with_background a.background
        plain = (attributes_eq-Decides a (with_background a.background)).0 h

        penned : (b : Bool) → replay f (texts_before s r k d.pen) (cond b [] (pen_entry d.pen a)) ≡ texts_before s r k (cond b d.pen a)
        penned true = refl
        penned false = replay_pen f (texts_before s r k d.pen) d.pen a refl

        tail : (b c : Bool) → (c ≡ true → a ≡ default_attributes) →
            LeavesRow s r (cond (b && c) d.pen a) (replay f (texts_before s r k (cond b d.pen a)) (cond c [] (change.ClearToEndOfLine a.background ∷ [])))
        tail true true q = record { x = min s.width (reach r k); screen_is = tail_blank k d.pen (subst (λ v. TailIs s.width r k (blank_of v)) (q refl) t) }
        tail true false q = record { x = min s.width (reach r k); screen_is = tail_cleared k a d.pen t plain }
        tail false true q = record { x = min s.width (reach r k); screen_is = tail_blank k a (subst (λ v. TailIs s.width r k (blank_of v)) (q refl) t) }
        tail false false q = record { x = min s.width (reach r k); screen_is = tail_cleared k a a t plain }

    pub row_done : (p : Attributes) → s.x ≡ 0 → s.pen ≡ p → LeavesRow s r (row_entries p (visible_upto r s.width)).pen (replay f s (row_entries p (visible_upto r s.width)).entries)
    row_done p ex ep = done (cases_Bool (ends_plain cells))
      where
        cells : List VisibleCell
        cells = visible_upto r s.width

        a : Attributes
        a = pen_behind p cells

        t : IsTrimmed r a s.width
        t = trimmed_columns f one s.width r a z s.width (le_refl s.width)

        kept_is : (h : ends_plain cells ≡ true) → row_entries p cells ≡ with_tail (cells_out p (visible_upto r t.kept)) (visible_upto r t.kept) a
        kept_is h = cond-true (ends_plain cells) _ _ h ∙ ap (λ v. with_tail (cells_out p v) v a) t.cells_are

        done : (ends_plain cells ≡ true) ⊎ (ends_plain cells ≡ false) → LeavesRow s r (row_entries p cells).pen (replay f s (row_entries p cells).entries)
        done (inl h) =
            subst (λ (d : Penned). LeavesRow s r d.pen (replay f s d.entries)) (sym (kept_is h))
            (tail_done t.kept (cells_out p (visible_upto r t.kept)) (visible_upto r t.kept) a (trimmed_tail s.width r p h t) (last_is_plain p cells h) (row_texts p ex ep t.kept t.within))
        done (inr h) =
            let row : paint_all (row_at s.rows s.y) cells ≡ r = ap (λ u. paint_all u cells) empty ∙ painted_whole s.width (replicate s.width blank) r (blank_row s.width default_attributes) z.row in
            subst (λ (d : Penned). LeavesRow s r d.pen (replay f s d.entries)) (sym (cond-false (ends_plain cells) _ _ h))
            (record { x = min s.width (reach r s.width); screen_is = row_texts p ex ep s.width (le_refl s.width) ∙ λ i. record s { rows = set s.rows s.y (row i); x = min s.width (reach r s.width); pen = (cells_out p cells).pen } })
