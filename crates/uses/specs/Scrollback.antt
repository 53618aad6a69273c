-- What a program that keeps a scrollback does to a surface.
use Rattle.std.specs.Prelude.{ℕ, List, [], ◌∷◌}
use Rattle.termwiz_cell.specs.ChangeValue as change
use Rattle.termwiz_cell.specs.ChangeValue.{ChangeValue}

-- a text is printed
abbrev pub printed_text : List ℕ → List ChangeValue
printed_text text = change.Text text ∷ []
