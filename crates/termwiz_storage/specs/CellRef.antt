-- What a borrowed visible cell stands for: its column and the cell, and the width and text that it
-- has.
use Rattle.std.specs.Prelude.{ℕ, List, nat_lt}
use Rattle.termwiz_cell.specs.Attributes.{Attributes}
use Rattle.termwiz_cell.specs.CellValue.{CellValue, columns}
use Rattle.termwiz_storage.specs.declared.line.cellref.CellRef.{CellRef}
use Rattle.termwiz_storage.specs.declared.line.cellref.CellRef.TheVariants.{CellRef as StoredRef, ClusterRef}
use Rattle.termwiz_storage.specs.VisibleCell.{VisibleCell, at_column}

abbrev pub indexed_cell : CellRef → VisibleCell
indexed_cell (StoredRef i c) = at_column i c.now
indexed_cell (ClusterRef i t w a) =
    at_column i (record { text = t.now; wide = nat_lt 1 w; attrs = a.now })

abbrev pub ref_index : CellRef → ℕ
ref_index r = (indexed_cell r).column

abbrev pub ref_cell : CellRef → CellValue
ref_cell r = (indexed_cell r).cell

-- the width of a borrowed cell: a piece of a text has the one that it was made with
abbrev pub ref_width : CellRef → ℕ
ref_width (StoredRef i c) = columns c.now
ref_width (ClusterRef i t w a) = w

-- what a cell shows
pub record Contents : Type 0 where
  pub text : List ℕ
  pub width : ℕ
  pub attrs : Attributes

abbrev pub contents : CellRef → Contents
contents r = record { text = (ref_cell r).text; width = ref_width r; attrs = (ref_cell r).attrs }

abbrev pub contents_of : CellValue → Contents
contents_of c = record { text = c.text; width = columns c; attrs = c.attrs }
