-- The mark of a last cell after which the text goes on in the next line.
use Rattle.std.specs.Prelude.{Bool, false, List, [], ◌∷◌}
use Rattle.termwiz_storage.specs.VisibleCell.{VisibleCell}

-- whether the last of visible cells has the mark
abbrev pub last_is_wrapped : List VisibleCell → Bool
last_is_wrapped [] = false
last_is_wrapped (c ∷ []) = c.cell.attrs.wrapped
last_is_wrapped (c ∷ d ∷ ds) = last_is_wrapped (d ∷ ds)
