-- Letters in cells of two columns each, and what setting a run of them makes of a list.
use Rattle.std.specs.Prelude.{ℕ, ◌+◌, List, [], ◌∷◌, encode_utf8}
use Rattle.termwiz_cell.specs.Attributes.{Attributes}
use Rattle.termwiz_cell.specs.CellValue.{CellValue, cell_of}
use Rattle.termwiz_storage.specs.Stored.{put, set_cell}

-- the cell of a letter
abbrev pub letter_cell : ℕ → Attributes → CellValue
letter_cell c a = cell_of (encode_utf8 c) 2 a

-- set_cell of each letter in turn, from column x on
abbrev pub set_letters : ℕ → List ℕ → Attributes → List CellValue → List CellValue
set_letters x [] a cs = cs
set_letters x (c ∷ ls) a cs = set_letters (x + 2) ls a (set_cell x (letter_cell c a) cs)

-- letters set where their cells and halves only come in the place of others
abbrev pub put_letters : ℕ → List ℕ → Attributes → List CellValue → List CellValue
put_letters x [] a cs = cs
put_letters x (c ∷ ls) a cs = put_letters (x + 2) ls a (put x (letter_cell c a) cs)
