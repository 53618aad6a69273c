-- Plain cells: each takes one column, and has one character of printable ASCII.
use Rattle.std.specs.Prelude.{◌≡◌, ℕ, Bool, true, false, ◌&&◌, not, List, [], ◌∷◌}
use Rattle.termwiz_storage.specs.VisibleCell.{VisibleCell, at_column}
use Rattle.std.specs.List.{list_all}
use Rattle.termwiz_text.specs.Plain.{is_one_plain, is_plain}
use Rattle.termwiz_cell.specs.Attributes.{Attributes, attributes_eq}
use Rattle.termwiz_cell.specs.CellValue.{CellValue, is_wide, plain_cell}

-- the cell is plain, and has these attributes
abbrev pub is_plain_with : Attributes → CellValue → Bool
is_plain_with a c = not (is_wide c) && (is_one_plain c.text && attributes_eq c.attrs a)

-- all cells are plain, and have these attributes
abbrev pub ArePlain : Attributes → List CellValue → Type 0
ArePlain a cells = list_all (is_plain_with a) cells ≡ true

-- the first of these visible cells is plain, and has these attributes
abbrev pub begins_plain : Attributes → List VisibleCell → Bool
begins_plain a [] = false
begins_plain a (p ∷ ps) = is_plain_with a p.cell

-- the first of these visible cells is that of one character of printable ASCII, with these
-- attributes, and the rest follows
pub record IsPlainFirst (a : Attributes) (cells : List VisibleCell) (byte : ℕ)
    (rest : List VisibleCell) : Type 0 where
  pub column : ℕ
  pub plain : is_plain byte ≡ true
  pub first : cells ≡ at_column column (plain_cell byte a) ∷ rest
