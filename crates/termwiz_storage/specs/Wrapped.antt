-- The mark of a last cell after which the text goes on in the next line.
use Rattle.std.specs.Prelude.{ℕ, Bool, List, [], ◌∷◌, ◌++◌, map, take, drop}
use Rattle.termwiz_cell.specs.CellValue.{CellValue}
use Rattle.termwiz_storage.specs.Stored.{visible, padded}
use Rattle.termwiz_storage.specs.VisibleCell.{VisibleCell}

-- the index of the last of visible cells, 0 of none
abbrev pub last_index : List VisibleCell → ℕ
last_index [] = 0
last_index (c ∷ []) = c.column
last_index (c ∷ d ∷ ds) = last_index (d ∷ ds)

-- the cell with the mark, or without it
abbrev pub with_wrapped : Bool → CellValue → CellValue
with_wrapped b c = record c { attrs = record c.attrs { wrapped = b } }

-- the cells from column k on get the mark, or lose it
abbrev pub wrapped_from : Bool → ℕ → List CellValue → List CellValue
wrapped_from b k cs = take k cs ++ map (with_wrapped b) (drop k cs)

-- the last visible cell and the stored cell that it hides get the mark, or lose it
abbrev pub wrapped_last : Bool → List CellValue → List CellValue
wrapped_last b cs = wrapped_from b (last_index (visible cs)) cs

-- the last visible cell is marked, or not; an empty list first gets a default blank
abbrev pub set_last_wrapped : Bool → List CellValue → List CellValue
set_last_wrapped b cs = wrapped_last b (padded 1 cs)
