-- The half that a list of cells may lack at its end, and the list in another length.
use Rattle.std.specs.Prelude.{ℕ, ◌-◌, nat_le, List, [], ◌∷◌, ◌++◌, length, take, if◌then◌else◌}
use Rattle.termwiz_cell.specs.CellValue.{CellValue, half}
use Rattle.termwiz_storage.specs.Stored.{stored, padded, hides}

-- the half that the last visible cell lacks, where it is wide and ends the list
abbrev pub missing_half : List CellValue → List CellValue
missing_half cs = if hides cs (length cs) then half (stored cs (length cs - 1)) ∷ [] else []

-- cut to k cells, or grown to k cells: by the half that the last visible cell lacks, and then by
-- default blanks
abbrev pub resized : ℕ → List CellValue → List CellValue
resized k cs = if nat_le k (length cs) then take k cs else padded k (cs ++ missing_half cs)
