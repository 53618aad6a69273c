-- A screen bears the work of its full repaint: three clears of all cells at most, one of them row by
-- row, and a move to the cursor's place.
use Rattle.std.proofs.Common.{◌≡◌, ℕ, zero, suc, ◌+◌, ◌*◌, ◌<◌, ◌≤◌, Bool, true, false, cond, not, ◌&&◌, eqb, ltb, List, [], ◌∷◌, ◌++◌, length, get_or, fold, refl, ap, ◌∙◌, arith, mul-le-mul_left, mul-suc, ltb-true}
use Rattle.std.proofs.lemmas.Bool.{and_parts}
use Rattle.termwiz_cell.specs.declared.change.CursorShape.{CursorShape}
use Rattle.termwiz_cell.specs.declared.change.CursorVisibility.{CursorVisibility}
use Rattle.termwiz_cell.specs.declared.change.CursorVisibility.TheVariants as cursor
use Rattle.termwiz_cell.specs.declared.change.LineAttribute.{LineAttribute}
use Rattle.termwiz_cell.specs.declared.change.LineAttribute.TheVariants.{SingleWidthLine}
use Rattle.termwiz_cell.specs.declared.color.ColorAttribute.{ColorAttribute}
use Rattle.termwiz_cell.specs.Attributes.{Attributes, default_attributes, has_only_background, attributes_eq}
use Rattle.termwiz_cell.specs.CellValue.{CellValue}
use Rattle.termwiz_cell.specs.ChangeValue as change
use Rattle.termwiz_cell.specs.ChangeValue.{ChangeValue}
use Rattle.termwiz_storage.specs.Stored.{stored}
use Rattle.termwiz_storage.specs.VisibleCell.{VisibleCell, at_column}
use Rattle.termwiz_line.specs.Row.{is_hidden, visible_upto}
use Rattle.termwiz_line.specs.Entries.{Penned, add_text, all_spaces, cell_out, cells_out, clear_entry, ends_plain, is_empty, joins, pen_behind, pen_entry, row_entries, trimmed, with_tail}
use Rattle.termwiz_screen.specs.FullScreen.{FullScreen}
use Rattle.termwiz_screen.specs.Measured.{IsMeasured}
use Rattle.termwiz_screen.specs.Place.{cursor_at}
use Rattle.termwiz_screen.specs.Printable.{IsPrintable, IsPrintableRow}
use Rattle.termwiz_screen.specs.Repaint.{all_moves, all_rows, bottom, bottom_attrs, cursor_entry, front_of, full_entries, full_repaint, full_shown_entries, is_nil, joined_row, joins_rows, lines_upto, next_line, repaint_of, rows_upto, started_entries, without_last_moves}
use Rattle.termwiz_screen.specs.Screen.{Screen, row_at}
use Rattle.termwiz_wire.proofs.Bounds.{work-append}
use Rattle.termwiz_wire.proofs.LineFeeds.{clean_feeds, feeds-append}
use Rattle.termwiz_wire.specs.Work.{line_feeds, most_work, work_of}

-- ---- texts

no_work : (w n : ℕ) → n ≡ 0 → w * n ≡ 0
no_work w n none = let same : w * n ≡ w * 0 = ap (λ (m : ℕ). w * m) none in omega (arith, same)

-- no cell has a line feed
abbrev NoFeeds : List VisibleCell → Type 0
NoFeeds [] = Unit {0}
NoFeeds (p ∷ ps) = (line_feeds p.cell.text ≡ 0) × NoFeeds ps

no_feeds-append : (ps qs : List VisibleCell) → NoFeeds ps → NoFeeds qs → NoFeeds (ps ++ qs)
no_feeds-append [] qs none more = more
no_feeds-append (p ∷ ps) qs none more = (none.0, no_feeds-append ps qs none.1 more)

no_feeds-trimmed : (a : Attributes) (ps : List VisibleCell) → NoFeeds ps → NoFeeds (trimmed a ps)
no_feeds-trimmed a [] none = tt
no_feeds-trimmed a (p ∷ ps) none = kept (all_spaces a (p ∷ ps)) (no_feeds-trimmed a ps none.1)
  where
    kept : (b : Bool) → NoFeeds (trimmed a ps) → NoFeeds (cond b [] (p ∷ trimmed a ps))
    kept true rest = tt
    kept false rest = (none.0, rest)

-- what is printed of a row has none
visible_none : (measure : List ℕ → ℕ) (w : ℕ) (r : List CellValue) → IsPrintableRow measure w r → (k : ℕ) → k ≤ w → NoFeeds (visible_upto r k)
visible_none measure w r is zero le = tt
visible_none measure w r is (suc k) le = no_feeds-append (visible_upto r k) _ (visible_none measure w r is k (omega (arith, le))) (next (is_hidden r k) (is.measured k (omega (arith, le))))
  where
    next : (b : Bool) → (b ≡ false → IsMeasured measure (stored r k)) → NoFeeds (cond b [] (at_column k (stored r k) ∷ []))
    next true so = tt
    next false so =
        let m = so refl in
        (clean_feeds (stored r k).text m.alone m.is_clean, tt)

-- ---- rows

module _ (w h : ℕ) where
  abbrev cost : List ChangeValue → ℕ
  cost es = work_of w h es

  cost-add_text : (es : List ChangeValue) (t : List ℕ) → line_feeds t ≡ 0 → cost (add_text es t) ≡ cost es
  cost-add_text [] t none = let zero_work : w * line_feeds t ≡ 0 = no_work w (line_feeds t) none in omega (arith, zero_work)
  cost-add_text (change.Text u ∷ []) t none = joined (joins u t)
    where
      more : w * line_feeds (u ++ t) ≡ w * line_feeds u
      more =
          let both : line_feeds (u ++ t) ≡ line_feeds u + line_feeds t = feeds-append u t in
          let same : line_feeds (u ++ t) ≡ line_feeds u = omega (arith, both, none) in
          ap (λ (n : ℕ). w * n) same

      zero_work : w * line_feeds t ≡ 0
      zero_work = no_work w (line_feeds t) none

      joined : (b : Bool) → cost (cond b (change.Text (u ++ t) ∷ []) (change.Text u ∷ change.Text t ∷ [])) ≡ cost (change.Text u ∷ [])
      joined true = omega (arith, more)
      joined false = omega (arith, zero_work)
  cost-add_text (e ∷ []) t none =
      let zero_work : w * line_feeds t ≡ 0 = no_work w (line_feeds t) none in
      omega (arith, zero_work)
  cost-add_text (e ∷ (g ∷ es)) t none =
      let more : cost (add_text (g ∷ es) t) ≡ cost (g ∷ es) = cost-add_text (g ∷ es) t none in
      omega (arith, more)

  cost-pen : (old new : Attributes) → cost (pen_entry old new) ≡ 0
  cost-pen old new = pens (attributes_eq old new)
    where
      pens : (b : Bool) → cost (cond b [] (change.AllAttributes new ∷ [])) ≡ 0
      pens true = refl
      pens false = refl

  cost-cells : (ps : List VisibleCell) (d : Penned) → NoFeeds ps → cost (fold cell_out d ps).entries ≡ cost d.entries
  cost-cells [] d none = refl
  cost-cells (p ∷ ps) d none =
      let more : cost (fold cell_out (cell_out d p) ps).entries ≡ cost (cell_out d p).entries = cost-cells ps (cell_out d p) none.1 in
      let text : cost (cell_out d p).entries ≡ cost (d.entries ++ pen_entry d.pen p.cell.attrs) = cost-add_text (d.entries ++ pen_entry d.pen p.cell.attrs) p.cell.text none.0 in
      omega (arith, more, text, work-append w h d.entries (pen_entry d.pen p.cell.attrs), cost-pen d.pen p.cell.attrs)

  cost-tail : (d : Penned) (kept : List VisibleCell) (a : Attributes) → cost d.entries ≡ 0 → cost (with_tail d kept a).entries ≤ w
  cost-tail d kept a none =
      omega (
        arith,
        none,
        work-append w h (d.entries ++ cond (is_empty kept) [] (pen_entry d.pen a)) (clear_entry a),
        work-append w h d.entries (cond (is_empty kept) [] (pen_entry d.pen a)),
        pens (is_empty kept),
        clears (attributes_eq a default_attributes),
      )
    where
      pens : (b : Bool) → cost (cond b [] (pen_entry d.pen a)) ≡ 0
      pens true = refl
      pens false = cost-pen d.pen a

      clears : (b : Bool) → cost (cond b [] (change.ClearToEndOfLine a.background ∷ [])) ≤ w
      clears true = omega arith
      clears false = omega arith

  -- a row costs a clear to its end at most
  cost-row : (p : Attributes) (cells : List VisibleCell) → NoFeeds cells → cost (row_entries p cells).entries ≤ w
  cost-row p cells none = row (ends_plain cells)
    where
      a : Attributes
      a = pen_behind p cells

      kept : List VisibleCell
      kept = trimmed a cells

      kept_none : cost (cells_out p kept).entries ≡ 0
      kept_none = cost-cells kept (record { entries = []; pen = p }) (no_feeds-trimmed a cells none)

      row : (b : Bool) → cost (cond b (with_tail (cells_out p kept) kept a) (cells_out p cells)).entries ≤ w
      row true = cost-tail (cells_out p kept) kept a kept_none
      row false = let all : cost (cells_out p cells).entries ≡ 0 = cost-cells cells (record { entries = []; pen = p }) none in omega (arith, all)

  move_free : (i : ℕ) → cost (cond {A = List ChangeValue} (eqb i 0) [] (next_line ∷ [])) ≡ 0
  move_free i = free (eqb i 0)
    where
      free : (b : Bool) → cost (cond {A = List ChangeValue} b [] (next_line ∷ [])) ≡ 0
      free true = refl
      free false = refl

  module _ (rows : List (List CellValue)) (none : (j : ℕ) → j < h → NoFeeds (visible_upto (row_at rows j) w)) where
    cost-rows : (i : ℕ) → i ≤ h → cost (rows_upto w rows i).entries ≤ w * i
    cost-rows zero le = omega arith
    cost-rows (suc i) le = omega (arith, cost-rows i (omega (arith, le)), parts, move_free i, cost-row pen cells (none i (omega (arith, le))), mul-suc w i)
      where
        pen : Attributes
        pen = (rows_upto w rows i).pen

        cells : List VisibleCell
        cells = visible_upto (row_at rows i) w

        parts : cost (rows_upto w rows (suc i)).entries ≡ cost (rows_upto w rows i).entries + (cost (cond (eqb i 0) [] (next_line ∷ [])) + cost (row_entries pen cells).entries)
        parts = work-append w h (rows_upto w rows i).entries _ ∙ ap (λ n. cost (rows_upto w rows i).entries + n) (work-append w h (cond (eqb i 0) [] (next_line ∷ [])) (row_entries pen cells).entries)

    cost-front_of : (es : List ChangeValue) → cost (front_of es) ≤ cost es
    cost-front_of [] = omega arith
    cost-front_of (e ∷ []) = omega arith
    cost-front_of (e ∷ (g ∷ es)) = let more : cost (front_of (g ∷ es)) ≤ cost (g ∷ es) = cost-front_of (g ∷ es) in omega (arith, more)

    -- all rows cost a clear of each at most, and one to the end of the screen
    cost-all_rows : cost (all_rows w h rows).entries ≤ 2 * (w * h)
    cost-all_rows = all (joins_rows w h rows) below
      where
        i : ℕ
        i = bottom w h rows

        a : Attributes
        a = bottom_attrs w h rows

        t : ℕ
        t = joined_row w a rows i

        below : joins_rows w h rows ≡ true → suc t < h
        below e = ltb-true (suc t) h (and_parts (ltb i h) (ltb (suc t) h) (and_parts (has_only_background a && not (attributes_eq a default_attributes)) (ltb i h && ltb (suc t) h) e).1).1

        all : (b : Bool) → (b ≡ true → suc t < h) →
            cost (cond b (record { entries = front_of (rows_upto w rows (suc t)).entries ++ change.ClearToEndOfScreen a.background ∷ []; pen = a }) (rows_upto w rows h)).entries ≤ 2 * (w * h)
        all false e = omega (arith, cost-rows h (omega arith))
        all true e =
            let lt : suc t < h = e refl in
            let le : suc t ≤ h = omega (arith, lt) in
            omega (
              arith,
              work-append w h (front_of (rows_upto w rows (suc t)).entries) (change.ClearToEndOfScreen a.background ∷ []),
              cost-front_of (rows_upto w rows (suc t)).entries,
              cost-rows (suc t) le,
              mul-le-mul_left w le,
            )

  -- ---- what is around them

  cost-front : (es : List ChangeValue) → cost (without_last_moves es) ≤ cost es
  cost-front [] = omega arith
  cost-front (e ∷ es) = front (cost-front es) (all_moves (e ∷ es))
    where
      front : cost (without_last_moves es) ≤ cost es → (b : Bool) → cost (cond b [] (e ∷ without_last_moves es)) ≤ cost (e ∷ es)
      front le true = omega arith
      front le false = omega (arith, le)

  cost-lines : (lines : List LineAttribute) (i : ℕ) → cost (lines_upto lines i) ≡ 0
  cost-lines lines zero = refl
  cost-lines lines (suc i) =
      let move : List ChangeValue = cond (eqb i 0) [] (next_line ∷ []) in
      let entry : List ChangeValue = change.LineAttribute (get_or lines i SingleWidthLine) ∷ [] in
      let entry_free : cost entry ≡ 0 = refl in
      omega (arith, cost-lines lines i, move_free i, work-append w h (lines_upto lines i) (move ++ entry), work-append w h move entry, entry_free)

  cost-first : (title : List ℕ) (color : ColorAttribute) (lines : List LineAttribute) → cost (full_entries title color lines) ≡ 0
  cost-first title color lines =
      let home : cost (cursor_at 0 0 ∷ []) ≡ 0 = refl in
      omega (arith, work-append w h (lines_upto lines (length lines)) (cursor_at 0 0 ∷ []), cost-lines lines (length lines), home)

  cost-last : (v : CursorVisibility) (shape : CursorShape) → cost (full_shown_entries v shape) ≡ 0
  cost-last cursor.Visible shape = refl
  cost-last cursor.Hidden shape = refl

  cost-move : (x y : ℕ) → cost (cursor_at x y ∷ []) ≤ w
  cost-move x y = moved (eqb x 0)
    where
      moved : (b : Bool) → cond b 0 w + 0 ≤ w
      moved true = omega arith
      moved false = omega arith

  cost-place : (es : List ChangeValue) (x y : ℕ) → cost (cursor_entry es x y) ≤ w
  cost-place es x y = placed (is_nil es && (eqb x 0 && eqb y 0))
    where
      placed : (b : Bool) → cost (cond b [] (cursor_at x y ∷ [])) ≤ w
      placed true = omega arith
      placed false = cost-move x y

  cost-repaint_of : (first : List ChangeValue) (d : Penned) (t : Screen) (last : List ChangeValue) → cost first ≡ 0 → cost d.entries ≤ 2 * (w * h) → cost last ≡ 0 → cost (repaint_of first d t last) ≤ 3 * (w * h) + w
  cost-repaint_of first d t last none rows end =
      let begin : cost started_entries ≡ w * h = omega arith in
      omega (
        arith,
        none,
        rows,
        end,
        begin,
        cost-front (first ++ d.entries),
        work-append w h first d.entries,
        work-append w h started_entries (front ++ (place ++ (pen ++ last))),
        work-append w h front (place ++ (pen ++ last)),
        work-append w h place (pen ++ last),
        work-append w h pen last,
        cost-place front t.x t.y,
        cost-pen d.pen t.pen,
      )
    where
      front : List ChangeValue
      front = without_last_moves (first ++ d.entries)

      place : List ChangeValue
      place = cursor_entry front t.x t.y

      pen : List ChangeValue
      pen = pen_entry d.pen t.pen

-- a screen bears its full repaint
pub full_repaint_borne : (measure : List ℕ → ℕ) (t : FullScreen) → IsPrintable measure t.screen → work_of t.screen.width t.screen.height (full_repaint t) ≤ most_work t.screen.width t.screen.height
full_repaint_borne measure t is =
    let s = t.screen in
    let some : 0 < s.height = omega (arith, is.row) in
    let rows : work_of s.width s.height (all_rows s.width s.height s.rows).entries ≤ 2 * (s.width * s.height) = cost-all_rows s.width s.height s.rows (λ j lt. visible_none measure s.width (row_at s.rows j) (is.rows_so j lt) s.width (omega arith)) in
    let all : work_of s.width s.height (full_repaint t) ≤ 3 * (s.width * s.height) + s.width = cost-repaint_of s.width s.height (full_entries t.title t.color t.lines) (all_rows s.width s.height s.rows) s (full_shown_entries s.visibility t.shape) (cost-first s.width s.height t.title t.color t.lines) rows (cost-last s.width s.height s.visibility t.shape) in
    let one : 1 ≤ s.height = omega (arith, some) in
    let row : s.width * 1 ≤ s.width * s.height = mul-le-mul_left s.width one in
    omega (arith, all, row)
