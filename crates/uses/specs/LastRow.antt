-- The last row, cleared.
use Rattle.std.specs.Prelude.{List, [], ◌∷◌}
use Rattle.termwiz_surface.specs.ChangeValue as change
use Rattle.termwiz_surface.specs.{Absolute, CellValue, ChangeValue, ColorAttribute, EndRelative, blank_of, with_background}

-- the changes that clear it with this background, from its first column on
abbrev pub last_row_cleared : ColorAttribute → List ChangeValue
last_row_cleared background =
    change.CursorPosition (Absolute 0) (EndRelative 1) ∷ change.ClearToEndOfLine background ∷ []

-- what each of its columns shows then
abbrev pub blank_in : ColorAttribute → CellValue
blank_in background = blank_of (with_background background)
