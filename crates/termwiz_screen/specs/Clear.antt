-- Clearing a screen, and beside it what that makes of the lengths of the stored rows.
use Rattle.std.specs.Prelude.{ℕ, zero, suc, Bool, if◌then◌else◌, not, ◌&&◌, nat_lt, List, ◌∷◌, ◌++◌, map, length, slice_index_or, set, take, drop}
use Rattle.termwiz_cell.specs.Attributes.{Attributes}
use Rattle.termwiz_cell.specs.CellValue.{CellValue, blank, blank_of, cell_eq}
use Rattle.termwiz_storage.specs.Stored.{stored}
use Rattle.termwiz_line.specs.Row.{is_hidden, clear}
use Rattle.termwiz_screen.specs.Screen.{Screen, row_at}

abbrev pub is_blank : CellValue → Bool
is_blank c = cell_eq c blank

-- the column after the last of the first n columns that does not show a default blank
abbrev pub ends : List CellValue → ℕ → ℕ
ends r zero = zero
ends r (suc n) = if is_blank (stored r n) && not (is_hidden r n) then ends r n else suc n

-- the length of n stored cells of the row r, once pruned
abbrev pub pruned_length : List CellValue → ℕ → ℕ
pruned_length r n =
    if nat_lt 0 (ends r (length r)) && nat_lt (ends r (length r)) n then ends r (length r) else n

-- the row of the cursor, cleared from its column on
abbrev pub cleared_row : Screen → Attributes → List CellValue
cleared_row s a = clear (row_at s.rows s.y) s.x (blank_of a)

abbrev pub clear_eol : Screen → Attributes → Screen
clear_eol s a = record s { rows = set s.rows s.y (cleared_row s a); pen = a }

-- the row of the cursor from its column on, and all rows below
abbrev pub clear_eos : Screen → Attributes → Screen
clear_eos s a =
    record s {
      rows = take s.y s.rows ++
          (cleared_row s a ∷ map (λ r. clear r 0 (blank_of a)) (drop (suc s.y) s.rows));
      pen = a;
    }

-- all rows; the cursor goes home
abbrev pub clear_screen : Screen → Attributes → Screen
clear_screen s a =
    record s { rows = map (λ r. clear r 0 (blank_of a)) s.rows; x = 0; y = 0; pen = a }

abbrev pub cleared_row_length : Screen → Attributes → List ℕ → ℕ
cleared_row_length s a ns =
    pruned_length (cleared_row s a)
    (if nat_lt s.x s.width then s.width else slice_index_or ns s.y 0)

-- the length of a row that was cleared whole
abbrev pub cleared_length : Screen → Attributes → List CellValue → ℕ
cleared_length s a r = pruned_length (clear r 0 (blank_of a)) s.width

abbrev pub eol_lengths : Screen → Attributes → List ℕ → List ℕ
eol_lengths s a ns = set ns s.y (cleared_row_length s a ns)

abbrev pub eos_lengths : Screen → Attributes → List ℕ → List ℕ
eos_lengths s a ns =
    take s.y ns ++ (cleared_row_length s a ns ∷ map (cleared_length s a) (drop (suc s.y) s.rows))

abbrev pub screen_lengths : Screen → Attributes → List ℕ → List ℕ
screen_lengths s a ns = map (cleared_length s a) s.rows
