-- What a terminal that nobody follows shows and sets.
use Rattle.std.specs.Prelude.{ℕ, List, [], ◌∷◌}
use Rattle.termwiz_surface.specs.ChangeValue as change
use Rattle.termwiz_surface.specs.{Attributes, ChangeValue, ColorAttribute}

-- a text is printed, and another one becomes the title
abbrev pub output_changes : List ℕ → List ℕ → List ChangeValue
output_changes output title = change.Text output ∷ change.Title title ∷ []

-- the pen and the cursor's colour are set
abbrev pub settings_changes : Attributes → ColorAttribute → List ChangeValue
settings_changes pen color = change.AllAttributes pen ∷ change.CursorColor color ∷ []
