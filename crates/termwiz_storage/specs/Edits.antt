-- What edits that move stored cells make of them: cells are removed, inserted, appended with their
-- halves, and taken out by their columns.
use Rattle.std.specs.Prelude.{ℕ, ◌+◌, ◌-◌, nat_lt, nat_le, ◌&&◌, Bool, List, [], ◌∷◌, ◌++◌, length, if◌then◌else◌}
use Rattle.std.specs.List.{filter, insert, insert_slice, remove}
use Rattle.termwiz_cell.specs.Attributes.{Attributes}
use Rattle.termwiz_cell.specs.CellValue.{CellValue, blank, blank_of, half, is_wide}
use Rattle.termwiz_storage.specs.Stored.{padded, torn, visible}
use Rattle.termwiz_storage.specs.VisibleCell.{VisibleCell}

-- the cell at column x is removed, where there is one; a wide cell before it that this cuts becomes
-- a blank with its attributes
abbrev pub removed : ℕ → List CellValue → List CellValue
removed x cs = if nat_lt x (length cs) then remove (torn x cs) x else cs

-- the cell at column x is removed, and a default blank at the end keeps the length
abbrev pub erased : ℕ → List CellValue → List CellValue
erased x cs = if nat_lt x (length cs) then remove (torn x cs) x ++ blank ∷ [] else cs

-- c comes to the last column before margin m, where the list reaches up to it
abbrev pub inserted_at_margin : ℕ → CellValue → List CellValue → List CellValue
inserted_at_margin m c cs = if nat_le m (length cs + 1) then insert cs (m - 1) c else cs

-- the cell at column x is removed, where there is one, and a blank with attributes a comes to the
-- last column before margin m, where the list reaches up to it
abbrev pub erased_within : ℕ → ℕ → Attributes → List CellValue → List CellValue
erased_within x m a cs = inserted_at_margin m (blank_of a) (removed x cs)

-- the cell in the last column before margin m is removed, where there is one
abbrev pub removed_at_margin : ℕ → List CellValue → List CellValue
removed_at_margin m cs = if nat_le m (length cs) then remove cs (m - 1) else cs

-- a visible cell as it is stored: a wide one is followed by its half
abbrev pub with_half : CellValue → List CellValue
with_half c = if is_wide c then c ∷ half c ∷ [] else c ∷ []

-- c, and the half of a wide c, are inserted at column x, up to which the list is padded once the
-- cell in the last column before margin m is removed
abbrev pub inserted : ℕ → CellValue → ℕ → List CellValue → List CellValue
inserted x c m cs = insert_slice (padded x (removed_at_margin m cs)) x (with_half c)

-- visible cells as they are stored
abbrev pub with_halves : List VisibleCell → List CellValue
with_halves [] = []
with_halves (p ∷ ps) = with_half p.cell ++ with_halves ps

-- whether a visible cell begins in one of the columns from a to b - 1
abbrev pub begins_within : ℕ → ℕ → VisibleCell → Bool
begins_within a b p = nat_le a p.column && nat_lt p.column b

-- the visible cells that begin in the columns from a to b - 1, as they are stored
abbrev pub columns_between : ℕ → ℕ → List CellValue → List CellValue
columns_between a b cs = with_halves (filter (begins_within a b) (visible cs))
