-- The lines that are printed for what a viewer shows.
use Rattle.std.specs.Prelude.{ℕ, List, ◌++◌, codes}
use Rattle.std.specs.Fmt.{decimal}
use Rattle.std.specs.List.{flat_map}
use Rattle.termwiz_cell.specs.CellValue.{CellValue}
use Rattle.termwiz_line.specs.Texts.{texts_of}
use Rattle.termwiz_screen.specs.Chars.{newline}
use Rattle.termwiz_screen.specs.Screen.{Screen}
use Rattle.termwiz_storage.specs.Stored.{visible}

-- the texts of a row's visible cells
abbrev pub row_text : List CellValue → List ℕ
row_text row = texts_of (visible row)

abbrev pub row_line : List CellValue → List ℕ
row_line row = codes "|" ++ row_text row ++ codes "|" ++ newline

abbrev pub row_lines : List (List CellValue) → List ℕ
row_lines rows = flat_map row_line rows

abbrev pub cursor_line : ℕ → ℕ → List ℕ
cursor_line x y = codes "cursor " ++ decimal x ++ codes " " ++ decimal y ++ newline

-- a word and a number, the rows, and where the cursor is
abbrev pub viewed_lines : List ℕ → ℕ → Screen → List ℕ
viewed_lines word number s =
    word ++ codes " " ++ decimal number ++ newline ++ row_lines s.rows ++ cursor_line s.x s.y

-- a stale answer, and where in it what doesn't fit begins
abbrev pub stale_line : ℕ → ℕ → List ℕ
stale_line number at =
    codes "answer " ++ decimal number ++ codes ": stale at " ++ decimal at ++ newline
