-- Which cells a diff prints, and the changes that print them.
use Rattle.std.specs.Prelude.{ℕ, zero, suc, ◌+◌, ◌-◌, min, Bool, true, false, if◌then◌else◌, not, ◌&&◌, ◌||◌, ◌==◌, List, [], ◌∷◌, ◌++◌, fold, map, Option, Some, None}
use Rattle.termwiz_cell.specs.Attributes.{Attributes}
use Rattle.termwiz_cell.specs.CellValue.{CellValue, columns, cell_eq}
use Rattle.termwiz_cell.specs.ChangeValue as change
use Rattle.termwiz_cell.specs.ChangeValue.{ChangeValue}
use Rattle.termwiz_storage.specs.Stored.{stored}
use Rattle.termwiz_storage.specs.VisibleCell.{VisibleCell, at_column}
use Rattle.termwiz_line.specs.Row.{is_hidden}
use Rattle.termwiz_line.specs.Entries.{add_text, pen_entry}
use Rattle.termwiz_screen.specs.Place.{cursor_at}
use Rattle.termwiz_screen.specs.Screen.{row_at}
use Rattle.termwiz_screen.specs.Prints.{Print}

-- the row shows this very cell at column k
abbrev pub shows : List CellValue → ℕ → CellValue → Bool
shows r k c = not (is_hidden r k) && cell_eq (stored r k) c

-- of the n columns from q on of b: the cells that start there and that a does not show at their
-- places, from column p on
abbrev pub row_need : List CellValue → ℕ → List CellValue → ℕ → ℕ → List VisibleCell
row_need a p b q zero = []
row_need a p b q (suc k) =
    row_need a p b q k ++
    (if is_hidden b (q + k) || shows a (p + k) (stored b (q + k)) then []
    else at_column (p + k) (stored b (q + k)) ∷ [])

-- a rectangle of own columns and rows, and as large a one of another's
pub record Region : Type 0 where
  pub x : ℕ
  pub y : ℕ
  pub width : ℕ
  pub height : ℕ
  pub other_x : ℕ
  pub other_y : ℕ

-- how many of n columns (or rows) fit: from p on of v, and from q on of w
abbrev pub fitting : ℕ → ℕ → ℕ → ℕ → ℕ → ℕ
fitting n v p w q = min n (min (v - p) (w - q))

-- the region that fits in an own v by h and another w by g
abbrev pub cut : Region → ℕ → ℕ → ℕ → ℕ → Region
cut r v h w g =
    record r {
      width = fitting r.width v r.x w r.other_x;
      height = fitting r.height h r.y g r.other_y;
    }

abbrev pub in_row : ℕ → VisibleCell → Print
in_row i p = record { row = i; column = p.column; cell = p.cell }

-- the cells of the region's first rows of b that a does not show at their places, row by row
abbrev pub need_upto : List (List CellValue) → List (List CellValue) → Region → ℕ → List Print
need_upto a b r zero = []
need_upto a b r (suc i) =
    need_upto a b r i ++
    map (in_row (r.y + i))
    (row_need (row_at a (r.y + i)) r.x (row_at b (r.other_y + i)) r.other_x r.width)

abbrev pub need : List (List CellValue) → List (List CellValue) → Region → List Print
need a b r = need_upto a b r r.height

-- where the last cell ended: the cursor and the pen after it
pub record End : Type 0 where
  pub x : ℕ
  pub y : ℕ
  pub pen : Attributes

abbrev pub end_of : Print → End
end_of p = record { x = p.column + columns p.cell; y = p.row; pen = p.cell.attrs }

-- changes, and where the last cell that they print ended; before the first one nothing is known
pub record PrintedOut : Type 0 where
  pub entries : List ChangeValue
  pub end : Option End

-- a move to the cell's place, unless the cursor is there
abbrev pub move_to : Option End → Print → List ChangeValue
move_to None p = cursor_at p.column p.row ∷ []
move_to (Some e) p = if e.x == p.column && e.y == p.row then [] else cursor_at p.column p.row ∷ []

-- its pen, unless it is the one that stands
abbrev pub pen_to : Option End → Print → List ChangeValue
pen_to None p = change.AllAttributes p.cell.attrs ∷ []
pen_to (Some e) p = pen_entry e.pen p.cell.attrs

abbrev pub print_out : PrintedOut → Print → PrintedOut
print_out d p =
    record {
      entries = add_text ((d.entries ++ move_to d.end p) ++ pen_to d.end p) p.cell.text;
      end = Some (end_of p);
    }

abbrev pub nothing_printed : PrintedOut
nothing_printed = record { entries = []; end = None }

-- the changes that print these cells
abbrev pub prints_out : List Print → List ChangeValue
prints_out ps = (fold print_out nothing_printed ps).entries

-- the changes that print what b's region shows and a's does not
abbrev pub diff : List (List CellValue) → List (List CellValue) → Region → List ChangeValue
diff a b r = prints_out (need a b r)

-- the whole of two screens of one size
abbrev pub whole : ℕ → ℕ → Region
whole w h = record { x = 0; y = 0; width = w; height = h; other_x = 0; other_y = 0 }

-- n whole rows, own ones from y on and others from z on
abbrev pub band : ℕ → ℕ → ℕ → ℕ → Region
band w y z n = record { x = 0; y = y; width = w; height = n; other_x = 0; other_y = z }

-- a move, a pen or a text
abbrev pub is_diff_entry : ChangeValue → Bool
is_diff_entry (change.CursorPosition x y) = true
is_diff_entry (change.AllAttributes attrs) = true
is_diff_entry (change.Text text) = true
is_diff_entry _ = false

abbrev pub all_diff_entries : List ChangeValue → Bool
all_diff_entries [] = true
all_diff_entries (e ∷ es) = is_diff_entry e && all_diff_entries es

-- drawing leaves the cursor and the pen as they were: where something was drawn they are set again
abbrev pub restoring : ℕ → ℕ → Attributes → List ChangeValue → List ChangeValue
restoring x y pen [] = []
restoring x y pen (e ∷ es) = (e ∷ es) ++ cursor_at x y ∷ change.AllAttributes pen ∷ []
