-- The texts of cells.
use Rattle.std.specs.Prelude.{ℕ, List, take}
use Rattle.termwiz_storage.specs.VisibleCell.{VisibleCell}
use Rattle.std.specs.List.{flat_map}
use Rattle.termwiz_cell.specs.CellValue.{CellValue}

-- the texts of visible cells with their columns, one after another
abbrev pub texts_of : List VisibleCell → List ℕ
texts_of cells = flat_map (λ p. p.cell.text) cells

-- the texts of cells
abbrev pub cell_texts : List CellValue → List ℕ
cell_texts cells = flat_map (λ c. c.text) cells

-- the texts of the first n cells
abbrev pub first_texts : ℕ → List CellValue → List ℕ
first_texts n cells = cell_texts (take n cells)
