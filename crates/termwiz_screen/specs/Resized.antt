-- What another size makes of rows, of a screen, and of what is kept beside it.
use Rattle.std.specs.Prelude.{ℕ, ◌-◌, Bool, ◌&&◌, ◌==◌, nat_le, List, ◌++◌, map, take, drop, length, replicate, slice_index_or, pos, true, ◌≡◌, ◌<◌, if◌then◌else◌}
use Rattle.termwiz_cell.specs.CellValue.{CellValue, blank}
use Rattle.termwiz_storage.specs.Halves.{resized}
use Rattle.termwiz_line.specs.LineFlags.{LineFlags, no_flags}
use Rattle.termwiz_line.specs.LineValue.{LineValue}
use Rattle.termwiz_line.specs.Row.{row_of}
use Rattle.termwiz_screen.specs.Kept.{Kept}
use Rattle.termwiz_screen.specs.Place.{moved}
use Rattle.termwiz_screen.specs.Screen.{Screen}
use Rattle.termwiz_screen.specs.declared.rows.resizing.Undo.{Undo}
use Rattle.termwiz_screen.specs.declared.rows.resizing.Undo.TheVariants.{Cut, Put}

-- the first h rows, each cut or filled to width w, and default ones below
abbrev pub resized_rows : ℕ → ℕ → List (List CellValue) → List (List CellValue)
resized_rows w h rows =
    map (row_of w) (take h rows) ++ replicate (h - length rows) (replicate w blank)

-- stored cells in another width
abbrev pub resized_stored : ℕ → ℕ → List (List CellValue) → List (List CellValue)
resized_stored w h rows =
    map (resized w) (take h rows) ++ replicate (h - length rows) (replicate w blank)

-- the flags of the first h rows, and none below
abbrev pub resized_flags : ℕ → List LineFlags → List LineFlags
resized_flags h flags = take h flags ++ replicate (h - length flags) no_flags

-- a line that is cut or grown, as a vector, with its number and flags
abbrev pub in_width : ℕ → LineValue → LineValue
in_width w l = record l { cells = resized w l.cells; is_vector = true }

-- whether a line is cut in place: a vector of as many cells or more
abbrev pub cuts_in_place : ℕ → LineValue → Bool
cuts_in_place w l = l.is_vector && nat_le w (length l.cells)

-- what comes before it is cut: any other line takes the width
abbrev pub widened_line : ℕ → LineValue → LineValue
widened_line w l = if cuts_in_place w l then l else in_width w l

-- whether a line is a vector of k cells
abbrev pub is_vector_of : ℕ → LineValue → Bool
is_vector_of k l = l.is_vector && length l.cells == k

-- what brings a line back that has grown: a vector's length, or the text that it was
abbrev pub Undoes : LineValue → Undo → Type 0
Undoes l (Cut k) = (l.is_vector ≡ true) × (k ≡ length l.cells)
Undoes l (Put text) = text.value ≡ l

-- whether a line can be brought back so
abbrev pub can_undo : Undo → LineValue → Bool
can_undo (Cut k) l = cuts_in_place k l
can_undo (Put text) l = true

-- the line that is brought back
abbrev pub undone : Undo → LineValue → LineValue
undone (Cut k) l = in_width k l
undone (Put text) l = text.value

-- the first rows have grown to width w, as many as have an undo
pub record HaveGrown (w : ℕ) (old : List LineValue) (undos : List Undo) (new : List LineValue) :
    Type 0 where
  pub rows : new ≡ map (widened_line w) (take (length undos) old) ++ drop (length undos) old
  pub each :
      (j : ℕ) (l : LineValue) (u : Undo) → j < length undos →
      Undoes (slice_index_or old j l) (slice_index_or undos j u)

-- the screen in another size; the cursor is placed as by a move of nothing
abbrev pub resized_screen : Screen → ℕ → ℕ → Screen
resized_screen s w h =
    record s {
      width = w;
      height = h;
      rows = resized_rows w h s.rows;
      x = moved (pos 0) s.x w;
      y = moved (pos 0) s.y h;
    }

abbrev pub resized_kept : Kept → ℕ → ℕ → Kept
resized_kept k w h = record k { lengths = replicate h w; flags = resized_flags h k.flags }
