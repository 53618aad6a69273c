-- The characters of stored rows, as one text: the visible cells of each row, and then a newline.
use Rattle.std.specs.Prelude.{ℕ, List, [], ◌∷◌, ◌++◌}
use Rattle.std.specs.List.{flat_map}
use Rattle.termwiz_cell.specs.CellValue.{CellValue}
use Rattle.termwiz_storage.specs.Stored.{visible}
use Rattle.termwiz_line.specs.Texts.{texts_of}

-- a newline
abbrev pub newline : List ℕ
newline = 10 ∷ []

abbrev pub row_chars : List CellValue → List ℕ
row_chars cs = texts_of (visible cs) ++ newline

abbrev pub screen_chars : List (List CellValue) → List ℕ
screen_chars rows = flat_map row_chars rows
