-- Rows of entries that are written cell by cell: spaces at the end of what was written are held
-- back until it is known whether they end the row.
use Rattle.std.specs.Prelude.{◌≡◌, ℕ, Bool, true, false, ◌&&◌, nat_lt, List, [], ◌∷◌, ◌++◌, fold, replicate}
use Rattle.termwiz_storage.specs.VisibleCell.{VisibleCell, at_column}
use Rattle.termwiz_cell.specs.Attributes.{Attributes, attributes_eq}
use Rattle.termwiz_cell.specs.CellValue.{blank_of}
use Rattle.termwiz_cell.specs.ChangeValue.{ChangeValue}
use Rattle.termwiz_line.specs.LastChange.{last_is}
use Rattle.termwiz_line.specs.GrowingText.{ends_printable}
use Rattle.termwiz_line.specs.Entries.{Penned, cell_out, is_space_of, trimmed}

-- what is printed, and how many spaces with which attributes are not
pub record Writing : Type 0 where
  pub printed : Penned
  pub spaces : ℕ
  pub space_attrs : Attributes

-- the entries after others
abbrev pub behind : List ChangeValue → Penned → Penned
behind es d = record { entries = es ++ d.entries; pen = d.pen }

-- these visible cells are printed too
abbrev pub and_cells : Penned → List VisibleCell → Penned
and_cells d cells = fold cell_out d cells

-- the last cell is a space with these attributes
abbrev pub ends_in_space : Attributes → List VisibleCell → Bool
ends_in_space a [] = false
ends_in_space a (p ∷ []) = is_space_of a p
ends_in_space a (p ∷ (q ∷ ps)) = ends_in_space a (q ∷ ps)

-- some spaces
abbrev pub spaces_of : ℕ → Attributes → List VisibleCell
spaces_of n a = replicate n (at_column 0 (blank_of a))

-- these cells of a row were written since `from`: those without their last spaces are printed, and
-- with the held spaces it is all of them
pub record IsWritten (from : Penned) (cells : List VisibleCell) (w : Writing) : Type 0 where
  pub printed : w.printed ≡ and_cells from (trimmed w.space_attrs cells)
  pub whole : and_cells w.printed (spaces_of w.spaces w.space_attrs) ≡ and_cells from cells
  pub held :
      (a : Attributes) →
      ends_in_space a cells ≡ (nat_lt 0 w.spaces && attributes_eq w.space_attrs a)

-- of all these visible cells of a row, those that aren't left were written since `from`
pub record IsUnderWay (from : Penned) (all left : List VisibleCell) (w : Writing) : Type 0 where
  pub done : List VisibleCell
  pub whole : done ++ left ≡ all
  pub written : IsWritten from done w

-- what was printed ends in printable ASCII, and held spaces have the pen that stands
pub record IsInText (w : Writing) : Type 0 where
  pub text : last_is ends_printable w.printed.entries ≡ true
  pub spaces : w.space_attrs ≡ w.printed.pen
