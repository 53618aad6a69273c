-- The changes of a status line.
use Rattle.std.specs.Prelude.{ℕ, List, [], ◌∷◌}
use Rattle.termwiz_surface.specs.{Absolute, Attributes, ChangeValue, ColorAttribute, EndRelative}
use Rattle.termwiz_surface.specs.ChangeValue as change

-- the last row is cleared with this background, and the text is printed there with this pen
abbrev pub status_line : ColorAttribute → Attributes → List ℕ → List ChangeValue
status_line background pen text =
    change.CursorPosition (Absolute 0) (EndRelative 1)
    ∷ change.ClearToEndOfLine background
    ∷ change.AllAttributes pen
    ∷ change.Text text
    ∷ []
