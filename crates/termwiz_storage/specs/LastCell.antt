-- The last of visible cells.
use Rattle.std.specs.Prelude.{List, Option, None, option_map}
use Rattle.termwiz_storage.specs.VisibleCell.{VisibleCell}
use Rattle.std.specs.List.{last_or}
use Rattle.termwiz_cell.specs.Attributes.{Attributes}

-- its attributes, where there is one
abbrev pub last_attrs : List VisibleCell → Option Attributes
last_attrs ps = option_map (λ p. p.cell.attrs) (last_or None ps)
