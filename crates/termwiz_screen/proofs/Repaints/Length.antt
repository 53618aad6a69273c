-- How many entries a repaint has: at most two for each column, one more for each row, and a few around them.
use Rattle.std.proofs.Common.{◌≡◌, ℕ, zero, suc, ◌+◌, ◌-◌, ◌*◌, ◌<◌, ◌≤◌, Bool, true, false, cond, not, ◌&&◌, eqb, ltb, List, [], ◌∷◌, ◌++◌, length, get_or, fold, Option, Some, None, arith, mul-le-mul_left, mul-suc, ltb-true, refl, ap, ◌∙◌}
use Rattle.std.proofs.lemmas.List.{length-append}
use Rattle.std.proofs.lemmas.Bool.{and_parts}
use Rattle.termwiz_cell.specs.declared.change.CursorShape.{CursorShape}
use Rattle.termwiz_cell.specs.declared.change.CursorVisibility.{CursorVisibility}
use Rattle.termwiz_cell.specs.declared.change.CursorVisibility.TheVariants as cursor
use Rattle.termwiz_cell.specs.Attributes.{Attributes, default_attributes, has_only_background, attributes_eq}
use Rattle.termwiz_cell.specs.CellValue.{CellValue}
use Rattle.termwiz_cell.specs.ChangeValue as change
use Rattle.termwiz_cell.specs.ChangeValue.{ChangeValue}
use Rattle.termwiz_storage.specs.Stored.{stored}
use Rattle.termwiz_storage.specs.VisibleCell.{VisibleCell, at_column}
use Rattle.termwiz_line.specs.Row.{is_hidden, visible_upto}
use Rattle.termwiz_line.specs.Entries.{joins, add_text, Penned, pen_entry, cell_out, cells_out, trimmed, pen_behind, is_empty, clear_entry, with_tail, ends_plain, row_entries}
use Rattle.termwiz_screen.specs.Screen.{Screen, row_at}
use Rattle.termwiz_screen.specs.Repaint.{next_line, rows_upto, bottom_attrs, front_of, joined_row, bottom, joins_rows, all_rows, all_moves, without_last_moves, is_nil, cursor_entry, shown_entries, title_entry, repaint_of, repaint, lines_upto, full_entries, full_shown_entries, full_repaint}
use Rattle.termwiz_screen.specs.Place.{cursor_at}
use Rattle.termwiz_screen.specs.FullScreen.{FullScreen}
use Rattle.termwiz_cell.specs.declared.change.LineAttribute.{LineAttribute}
use Rattle.termwiz_cell.specs.declared.change.LineAttribute.TheVariants.{SingleWidthLine}
use Rattle.termwiz_screen.proofs.Repaints.RowTrimming.{trimmed_shorter}
use Rattle.termwiz_screen.proofs.Repaints.Bottom.{length-front_of}

-- an entry that may be left out
pub length_optional : {A : Type 0} (b : Bool) (x : A) → length (cond b [] (x ∷ [])) ≤ 1
length_optional true x = omega arith
length_optional false x = omega arith

pub length-add_text : (es : List ChangeValue) (t : List ℕ) → length (add_text es t) ≤ suc (length es)
length-add_text [] t = omega arith
length-add_text (change.Text u ∷ []) t = joined (joins u t)
  where
    joined : (b : Bool) → length (cond b (change.Text (u ++ t) ∷ []) (change.Text u ∷ change.Text t ∷ [])) ≤ 2
    joined true = omega arith
    joined false = omega arith
length-add_text (e ∷ []) t = omega arith
length-add_text (e ∷ (g ∷ es)) t = omega (arith, length-add_text (g ∷ es) t)

-- a cell's pen and text
length_cells : (ps : List VisibleCell) (d : Penned) → length (fold cell_out d ps).entries ≤ length d.entries + 2 * length ps
length_cells [] d = omega arith
length_cells (p ∷ ps) d =
    omega (
      arith,
      length_cells ps (cell_out d p),
      length-add_text (d.entries ++ pen_entry d.pen p.cell.attrs) p.cell.text,
      length-append d.entries (pen_entry d.pen p.cell.attrs),
      length_optional (attributes_eq d.pen p.cell.attrs) (change.AllAttributes p.cell.attrs),
    )

length_tail : (d : Penned) (kept : List VisibleCell) (a : Attributes) → length (with_tail d kept a).entries ≤ length d.entries + 2
length_tail d kept a =
    omega (
      arith,
      length-append (d.entries ++ cond (is_empty kept) [] (pen_entry d.pen a)) (clear_entry a),
      length-append d.entries (cond (is_empty kept) [] (pen_entry d.pen a)),
      pens (is_empty kept),
      length_optional (attributes_eq a default_attributes) (change.ClearToEndOfLine a.background),
    )
  where
    pens : (b : Bool) → length (cond b [] (pen_entry d.pen a)) ≤ 1
    pens true = omega arith
    pens false = length_optional (attributes_eq d.pen a) (change.AllAttributes a)

-- a row: at most two for each visible cell
pub length_row : (p : Attributes) (cells : List VisibleCell) → length (row_entries p cells).entries ≤ 2 * length cells
length_row p cells = row (ends_plain cells) (trimmed_shorter p cells)
  where
    a : Attributes
    a = pen_behind p cells

    kept : List VisibleCell
    kept = trimmed a cells

    row : (b : Bool) → (b ≡ true → length kept < length cells) → length (cond b (with_tail (cells_out p kept) kept a) (cells_out p cells)).entries ≤ 2 * length cells
    row true h = omega (arith, h refl, length_tail (cells_out p kept) kept a, length_cells kept (record { entries = []; pen = p }))
    row false h = omega (arith, length_cells cells (record { entries = []; pen = p }))

length_visible : (r : List CellValue) (k : ℕ) → length (visible_upto r k) ≤ k
length_visible r zero = omega arith
length_visible r (suc k) = omega (arith, length_visible r k, length-append (visible_upto r k) (cond (is_hidden r k) [] (at_column k (stored r k) ∷ [])), length_optional {A = VisibleCell} (is_hidden r k) (at_column k (stored r k)))

-- the first row has no move before it
length_rows : (w : ℕ) (rows : List (List CellValue)) (i : ℕ) → length (rows_upto w rows i).entries ≤ 2 * (w * i) + (i - 1)
length_rows w rows zero = omega arith
length_rows w rows (suc i) = omega (arith, length_rows w rows i, parts, moves i, length_row pen cells, length_visible (row_at rows i) w, mul-suc w i)
  where
    pen : Attributes
    pen = (rows_upto w rows i).pen

    cells : List VisibleCell
    cells = visible_upto (row_at rows i) w

    moves : (i : ℕ) → length (cond {A = List ChangeValue} (eqb i 0) [] (next_line ∷ [])) + (i - 1) ≤ i
    moves zero = omega arith
    moves (suc i) = omega (arith, length_optional (eqb (suc i) 0) next_line)

    parts : length (rows_upto w rows (suc i)).entries ≡ length (rows_upto w rows i).entries + (length (cond (eqb i 0) [] (next_line ∷ [])) + length (row_entries pen cells).entries)
    parts = length-append (rows_upto w rows i).entries _ ∙ ap (λ n. length (rows_upto w rows i).entries + n) (length-append (cond (eqb i 0) [] (next_line ∷ [])) (row_entries pen cells).entries)

-- joined rows have no more
length_all_rows : (w h : ℕ) (rows : List (List CellValue)) → length (all_rows w h rows).entries ≤ 2 * (w * h) + (h - 1)
length_all_rows w h rows = short (joins_rows w h rows) below
  where
    i : ℕ
    i = bottom w h rows

    a : Attributes
    a = bottom_attrs w h rows

    t : ℕ
    t = joined_row w a rows i

    below : joins_rows w h rows ≡ true → suc t < h
    below e = ltb-true (suc t) h (and_parts (ltb i h) (ltb (suc t) h) (and_parts (has_only_background a && not (attributes_eq a default_attributes)) (ltb i h && ltb (suc t) h) e).1).1

    short : (b : Bool) → (b ≡ true → suc t < h) →
        length (cond b (record { entries = front_of (rows_upto w rows (suc t)).entries ++ change.ClearToEndOfScreen a.background ∷ []; pen = a }) (rows_upto w rows h)).entries ≤ 2 * (w * h) + (h - 1)
    short false e = length_rows w rows h
    short true e =
        omega (
          arith,
          e refl,
          length-append (front_of (rows_upto w rows (suc t)).entries) (change.ClearToEndOfScreen a.background ∷ []),
          length-front_of (rows_upto w rows (suc t)).entries,
          length_rows w rows (suc t),
          mul-le-mul_left w (e refl),
          mul-suc w (suc t),
          mul-suc w t,
        )

length_front : (es : List ChangeValue) → length (without_last_moves es) ≤ length es
length_front [] = omega arith
length_front (e ∷ es) = front (length_front es) (all_moves (e ∷ es))
  where
    front : length (without_last_moves es) ≤ length es → (b : Bool) → length (cond b [] (e ∷ without_last_moves es)) ≤ suc (length es)
    front h true = omega arith
    front h false = omega arith

length_shown : (v : CursorVisibility) (shape : Option CursorShape) → length (shown_entries v shape) ≤ 2
length_shown cursor.Visible None = omega arith
length_shown cursor.Visible (Some shape) = omega arith
length_shown cursor.Hidden shape = omega arith

length_title : (title : List ℕ) → length (title_entry title) ≤ 1
length_title [] = omega arith
length_title (b ∷ bs) = omega arith

pub length_repaint_of : (first : List ChangeValue) (d : Penned) (t : Screen) (last : List ChangeValue) → length (repaint_of first d t last) ≤ length first + length d.entries + length last + 4
length_repaint_of first d t last =
    omega (
      arith,
      length_front (first ++ d.entries),
      length-append first d.entries,
      length-append front (place ++ (pen ++ last)),
      length-append place (pen ++ last),
      length-append pen last,
      length_optional (is_nil front && (eqb t.x 0 && eqb t.y 0)) (cursor_at t.x t.y),
      length_optional (attributes_eq d.pen t.pen) (change.AllAttributes t.pen),
    )
  where
    front : List ChangeValue
    front = without_last_moves (first ++ d.entries)

    place : List ChangeValue
    place = cursor_entry front t.x t.y

    pen : List ChangeValue
    pen = pen_entry d.pen t.pen

-- with a row, the moves between rows are one fewer
pub repaint_short : (t : Screen) (title : List ℕ) (shape : Option CursorShape) → 0 < t.height → length (repaint t title shape) ≤ 2 * (t.width * t.height) + t.height + 6
repaint_short t title shape some =
    let d = all_rows t.width t.height t.rows in
    omega (arith, some, length_repaint_of (title_entry title) d t (shown_entries t.visibility shape), length_title title, length_shown t.visibility shape, length_all_rows t.width t.height t.rows)

-- the attributes of rows, and the moves between them
length_lines : (lines : List LineAttribute) (i : ℕ) → length (lines_upto lines i) ≤ i + (i - 1)
length_lines lines zero = omega arith
length_lines lines (suc i) =
    let move : List ChangeValue = cond (eqb i 0) [] (next_line ∷ []) in
    omega (arith, length_lines lines i, moves i, length-append (lines_upto lines i) (move ++ entry), length-append move entry)
  where
    entry : List ChangeValue
    entry = change.LineAttribute (get_or lines i SingleWidthLine) ∷ []

    moves : (i : ℕ) → length (cond {A = List ChangeValue} (eqb i 0) [] (next_line ∷ [])) + (i - 1) ≤ i
    moves zero = omega arith
    moves (suc i) = omega (arith, length_optional (eqb (suc i) 0) next_line)

length_full_shown : (v : CursorVisibility) (shape : CursorShape) → length (full_shown_entries v shape) ≤ 2
length_full_shown cursor.Visible shape = omega arith
length_full_shown cursor.Hidden shape = omega arith

-- a full repaint has two more for each row, and one more
pub full_repaint_short : (t : FullScreen) → 0 < t.screen.height → length t.lines ≡ t.screen.height → length (full_repaint t) ≤ 2 * (t.screen.width * t.screen.height) + 3 * t.screen.height + 7
full_repaint_short t some full =
    let s = t.screen in
    let lines : List ChangeValue = lines_upto t.lines (length t.lines) in
    omega (
      arith,
      some,
      full,
      length_repaint_of (full_entries t.title t.color t.lines) (all_rows s.width s.height s.rows) s (full_shown_entries s.visibility t.shape),
      length-append lines (cursor_at 0 0 ∷ []),
      length_lines t.lines (length t.lines),
      length_full_shown s.visibility t.shape,
      length_all_rows s.width s.height s.rows,
    )
