-- The list of stored cells, whichever form holds it.
use Rattle.std.specs.Prelude.{Bool, true, false, List}
use Rattle.termwiz_cell.specs.CellValue.{CellValue}
use Rattle.termwiz_storage.specs.CellLists.{cells_eq}
use Rattle.termwiz_storage.specs.declared.line.storage.CellStorage.{CellStorage}
use Rattle.termwiz_storage.specs.declared.line.storage.CellStorage.TheVariants.{V, Cluster}

abbrev pub cells_in : CellStorage → List CellValue
cells_in (V s) = s
cells_in (Cluster s) = s

-- each cell is stored in a place of its own
abbrev pub is_vector : CellStorage → Bool
is_vector (V s) = true
is_vector (Cluster s) = false

-- `==` of storages looks at the cells alone
abbrev pub same_cells : CellStorage → CellStorage → Bool
same_cells a b = cells_eq (cells_in a) (cells_in b)
