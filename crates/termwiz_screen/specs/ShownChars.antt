-- What a screen says as text: the texts of each row's visible cells within its stored length, with
-- a newline after each row.
use Rattle.std.specs.Prelude.{ℕ, List, [], ◌∷◌, ◌++◌}
use Rattle.termwiz_cell.specs.CellValue.{CellValue}
use Rattle.termwiz_line.specs.Row.{visible_upto}
use Rattle.termwiz_line.specs.Texts.{texts_of}
use Rattle.termwiz_screen.specs.Chars.{newline}

abbrev pub shown_chars : List (List CellValue) → List ℕ → List ℕ
shown_chars [] lengths = []
shown_chars (r ∷ rows) [] = []
shown_chars (r ∷ rows) (n ∷ lengths) =
    (texts_of (visible_upto r n) ++ newline) ++ shown_chars rows lengths
