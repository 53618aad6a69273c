-- The mark of the last of visible cells, read from its attributes.
use Rattle.std.proofs.Common.{◌≡◌, Bool, false, List, [], ◌∷◌, Option, Some, None, refl, sym}
use Rattle.std.specs.Prelude.{option_map}
use Rattle.std.specs.List.{last_or}
use Rattle.termwiz_cell.specs.Attributes.{Attributes}
use Rattle.termwiz_storage.specs.LastCell.{last_attrs}
use Rattle.termwiz_storage.specs.VisibleCell.{VisibleCell}
use Rattle.termwiz_line.specs.Wrapped.{last_is_wrapped}

abbrev pub is_marked : Option Attributes → Bool
is_marked None = false
is_marked (Some a) = a.wrapped

behind : (p : VisibleCell) (ps : List VisibleCell) → last_is_wrapped (p ∷ ps) ≡ is_marked (option_map (λ q. q.cell.attrs) (last_or (Some p) ps))
behind p [] = refl
behind p (q ∷ qs) = behind q qs

pub is_marked-last : (ps : List VisibleCell) → is_marked (last_attrs ps) ≡ last_is_wrapped ps
is_marked-last [] = refl
is_marked-last (p ∷ ps) = sym (behind p ps)
