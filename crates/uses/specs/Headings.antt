-- The changes of a heading.
use Rattle.std.specs.Prelude.{ℕ, List, [], ◌∷◌}
use Rattle.termwiz_surface.specs.ChangeValue as change
use Rattle.termwiz_surface.specs.{ChangeValue, DoubleWidthLine}

-- the text is printed, its row is shown twice as wide, and it becomes the title too
abbrev pub heading_changes : List ℕ → List ChangeValue
heading_changes text =
    change.Text text
    ∷ change.LineAttribute DoubleWidthLine
    ∷ change.Title text
    ∷ []
