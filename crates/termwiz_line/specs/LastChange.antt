-- The last of a list of changes.
use Rattle.std.specs.Prelude.{Bool, false, List, [], ◌∷◌}
use Rattle.termwiz_cell.specs.ChangeValue.{ChangeValue}

-- it is there, and passes a test
abbrev pub last_is : (ChangeValue → Bool) → List ChangeValue → Bool
last_is test [] = false
last_is test (e ∷ []) = test e
last_is test (e ∷ (f ∷ es)) = last_is test (f ∷ es)
