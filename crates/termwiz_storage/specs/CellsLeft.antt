-- The visible cells that an iterator has left, each with its column.
use Rattle.std.specs.Prelude.{◌≡◌, List, [], ◌∷◌, Option, Some, None}
use Rattle.termwiz_cell.specs.CellValue.{clean, columns}
use Rattle.termwiz_storage.specs.CellRef.{indexed_cell, ref_cell, ref_width}
use Rattle.termwiz_storage.specs.declared.line.cellref.CellRef.{CellRef}
use Rattle.termwiz_storage.specs.declared.line.cellref.VisibleCellIter.{VisibleCellIter}
use Rattle.termwiz_storage.specs.declared.line.cellref.VisibleCellIter.TheVariants.{V, Cluster}
use Rattle.termwiz_storage.specs.VisibleCell.{VisibleCell}

abbrev pub cells_left : VisibleCellIter → List VisibleCell
cells_left (V s) = s
cells_left (Cluster s) = s

-- what a borrowed cell has is true of a cell: its width is the cell's, and its text is one that
-- cells have
pub record IsOfCell (r : CellRef) : Type 0 where
  pub width : ref_width r ≡ columns (ref_cell r)
  pub clean : clean (ref_cell r).text ≡ (ref_cell r).text

-- the first cell that is left comes, and what it has is true of a cell; None where none is left
abbrev pub YieldsCell : {S : Type 0} → (S → List VisibleCell) → S → Option CellRef → S → Type 0
YieldsCell rest s None t = (rest s ≡ []) × (rest t ≡ [])
YieldsCell rest s (Some r) t = (rest s ≡ indexed_cell r ∷ rest t) × IsOfCell r
