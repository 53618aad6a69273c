-- Repaints: the changes that bring any screen of that size to this one.
use Rattle.std.specs.Prelude.{if◌then◌else◌, ℕ, zero, suc, ◌-◌, pos, length, slice_index_or, Bool, true, false, not, ◌&&◌, ◌==◌, nat_lt, List, [], ◌∷◌, ◌++◌, replicate, Option, Some, None}
use Rattle.std.specs.Cmp.Lexicographic.{pointwise}
use Rattle.termwiz_cell.specs.declared.color.ColorAttribute.{ColorAttribute}
use Rattle.termwiz_cell.specs.declared.color.ColorAttribute.TheVariants as color
use Rattle.termwiz_cell.specs.declared.change.LineAttribute.{LineAttribute}
use Rattle.termwiz_cell.specs.declared.change.LineAttribute.TheVariants.{SingleWidthLine}
use Rattle.termwiz_cell.specs.declared.change.Position.TheVariants as position
use Rattle.termwiz_cell.specs.declared.change.CursorShape.{CursorShape}
use Rattle.termwiz_cell.specs.declared.change.CursorVisibility.{CursorVisibility}
use Rattle.termwiz_cell.specs.declared.change.CursorVisibility.TheVariants as cursor
use Rattle.termwiz_cell.specs.Attributes.{Attributes, default_attributes, attributes_eq, has_only_background}
use Rattle.termwiz_cell.specs.CellValue.{CellValue, blank_of, cell_eq}
use Rattle.termwiz_cell.specs.ChangeValue as change
use Rattle.termwiz_cell.specs.ChangeValue.{ChangeValue}
use Rattle.termwiz_storage.specs.Stored.{stored}
use Rattle.termwiz_line.specs.Row.{visible_upto}
use Rattle.termwiz_line.specs.Entries.{Penned, pen_entry, row_entries}
use Rattle.termwiz_screen.specs.FullScreen.{FullScreen, full_screen}
use Rattle.termwiz_screen.specs.Kept.{Kept}
use Rattle.termwiz_screen.specs.Place.{cursor_at}
use Rattle.termwiz_screen.specs.Screen.{Screen, row_at}

-- to the start of the next row
abbrev pub next_line : ChangeValue
next_line = change.CursorPosition (position.Absolute 0) (position.Relative (pos 1))

-- the entries of the rows above row i, with a move down before each but the first, on a screen that
-- was cleared
abbrev pub rows_upto : ℕ → List (List CellValue) → ℕ → Penned
rows_upto w rows zero = record { entries = []; pen = default_attributes }
rows_upto w rows (suc i) = record {
  entries =
      (rows_upto w rows i).entries ++
      ((if i == 0 then [] else next_line ∷ []) ++
      (row_entries (rows_upto w rows i).pen (visible_upto (row_at rows i) w)).entries);
  pen = (row_entries (rows_upto w rows i).pen (visible_upto (row_at rows i) w)).pen;
}

-- the attributes of the last column of the bottom row
abbrev pub bottom_attrs : ℕ → ℕ → List (List CellValue) → Attributes
bottom_attrs w h rows = (stored (row_at rows (h - 1)) (w - 1)).attrs

-- the first of the rows right above row n that are blanks with attributes a, or n where there is
-- none
abbrev pub first_blank : ℕ → Attributes → List (List CellValue) → ℕ → ℕ
first_blank w a rows zero = zero
first_blank w a rows (suc n) =
    if pointwise cell_eq (row_at rows n) (replicate w (blank_of a)) then first_blank w a rows n
    else suc n

abbrev pub is_clear_of : Attributes → ChangeValue → Bool
is_clear_of a (change.ClearToEndOfLine b) =
    attributes_eq (record default_attributes { background = b }) a
is_clear_of a entry = false

-- the last entry clears to the end of the line with attributes a
abbrev pub ends_with : Attributes → List ChangeValue → Bool
ends_with a [] = false
ends_with a (e ∷ []) = is_clear_of a e
ends_with a (e ∷ (f ∷ es)) = ends_with a (f ∷ es)

-- all entries but the last
abbrev pub front_of : List ChangeValue → List ChangeValue
front_of [] = []
front_of (e ∷ []) = []
front_of (e ∷ (f ∷ es)) = e ∷ front_of (f ∷ es)

-- the row whose end clears all below: the one above the blank rows where its entries end with that
-- clear, else the first of them
abbrev pub joined_row : ℕ → Attributes → List (List CellValue) → ℕ → ℕ
joined_row w a rows i = if ends_with a (rows_upto w rows i).entries then i - 1 else i

abbrev pub bottom : ℕ → ℕ → List (List CellValue) → ℕ
bottom w h rows = first_blank w (bottom_attrs w h rows) rows h

-- there are blank rows at the bottom, in a background that is not the default one, and the row that
-- clears them is not the last
abbrev pub joins_rows : ℕ → ℕ → List (List CellValue) → Bool
joins_rows w h rows =
    (has_only_background (bottom_attrs w h rows) &&
    not (attributes_eq (bottom_attrs w h rows) default_attributes))
    &&
    (nat_lt (bottom w h rows) h &&
    nat_lt (suc (joined_row w (bottom_attrs w h rows) rows (bottom w h rows))) h)

-- the entries of the rows above those that one clear blanks, with the first of those
abbrev pub rows_to_clear : ℕ → ℕ → List (List CellValue) → Penned
rows_to_clear w h rows =
    rows_upto w rows (suc (joined_row w (bottom_attrs w h rows) rows (bottom w h rows)))

-- the entries of all rows: blank rows at the bottom in one background are left to one clear to the
-- end of the screen
abbrev pub all_rows : ℕ → ℕ → List (List CellValue) → Penned
all_rows w h rows = if joins_rows w h rows
    then (record {
      entries = front_of (rows_to_clear w h rows).entries ++
          change.ClearToEndOfScreen (bottom_attrs w h rows).background ∷ [];
      pen = bottom_attrs w h rows;
    })
    else rows_upto w rows h

abbrev pub is_move : ChangeValue → Bool
is_move (change.CursorPosition x y) = true
is_move entry = false

abbrev pub all_moves : List ChangeValue → Bool
all_moves [] = true
all_moves (e ∷ es) = is_move e && all_moves es

-- the moves at the end are dropped
abbrev pub without_last_moves : List ChangeValue → List ChangeValue
without_last_moves [] = []
without_last_moves (e ∷ es) = if all_moves (e ∷ es) then [] else e ∷ without_last_moves es

abbrev pub is_nil : List ChangeValue → Bool
is_nil [] = true
is_nil (e ∷ es) = false

-- the cursor's place, where there are entries after the first two or it isn't the first place
abbrev pub cursor_entry : List ChangeValue → ℕ → ℕ → List ChangeValue
cursor_entry es x y = if is_nil es && (x == 0 && y == 0) then [] else cursor_at x y ∷ []

-- the cursor's shape, where one was set
abbrev pub shape_entry : Option CursorShape → List ChangeValue
shape_entry None = []
shape_entry (Some shape) = change.CursorShape shape ∷ []

-- a visible cursor is shown, and then gets its shape
abbrev pub shown_entries : CursorVisibility → Option CursorShape → List ChangeValue
shown_entries cursor.Visible shape = change.CursorVisibility cursor.Visible ∷ shape_entry shape
shown_entries cursor.Hidden shape = []

-- the title, where it isn't empty
abbrev pub title_entry : List ℕ → List ChangeValue
title_entry [] = []
title_entry (b ∷ bs) = change.Title (b ∷ bs) ∷ []

-- the first two entries: the cursor is hidden and the screen cleared
abbrev pub started_entries : List ChangeValue
started_entries = change.CursorVisibility cursor.Hidden ∷ change.ClearScreen color.Default ∷ []

-- the first two entries, those before the rows' and the rows', which leave a pen; the moves at
-- their end are dropped; then the cursor, the pen, and the last entries
abbrev pub repaint_of : List ChangeValue → Penned → Screen → List ChangeValue → List ChangeValue
repaint_of first d s last =
    started_entries ++
    (without_last_moves (first ++ d.entries) ++
    (cursor_entry (without_last_moves (first ++ d.entries)) s.x s.y ++
    (pen_entry d.pen s.pen ++ last)))

-- the repaint of a screen with this title, and the cursor in this shape
abbrev pub repaint : Screen → List ℕ → Option CursorShape → List ChangeValue
repaint s title shape =
    repaint_of (title_entry title) (all_rows s.width s.height s.rows) s
    (shown_entries s.visibility shape)

-- the attributes of the rows above row i, with a move down before each but the first
abbrev pub lines_upto : List LineAttribute → ℕ → List ChangeValue
lines_upto lines zero = []
lines_upto lines (suc i) =
    lines_upto lines i ++
    ((if i == 0 then [] else next_line ∷ []) ++
    change.LineAttribute (slice_index_or lines i SingleWidthLine) ∷ [])

-- what a full repaint has before the entries of the rows: the title, be it empty, the cursor's
-- colour, and each row's attribute; then the cursor goes home
abbrev pub full_entries : List ℕ → ColorAttribute → List LineAttribute → List ChangeValue
full_entries title color lines =
    change.Title title ∷ change.CursorColor color ∷
    (lines_upto lines (length lines) ++ cursor_at 0 0 ∷ [])

-- at the end of a full repaint: a visible cursor is shown, and the cursor gets its shape
abbrev pub full_shown_entries : CursorVisibility → CursorShape → List ChangeValue
full_shown_entries cursor.Visible shape =
    change.CursorVisibility cursor.Visible ∷ change.CursorShape shape ∷ []
full_shown_entries cursor.Hidden shape = change.CursorShape shape ∷ []

-- the repaint of a full screen
abbrev pub full_repaint : FullScreen → List ChangeValue
full_repaint f =
    repaint_of (full_entries f.title f.color f.lines)
    (all_rows f.screen.width f.screen.height f.screen.rows) f.screen
    (full_shown_entries f.screen.visibility f.shape)

-- the repaint of a screen with what is kept beside it, in full or not
abbrev pub repaint_in : Bool → Screen → Kept → List ChangeValue
repaint_in full s k = if full then full_repaint (full_screen s k) else repaint s k.title k.shape
