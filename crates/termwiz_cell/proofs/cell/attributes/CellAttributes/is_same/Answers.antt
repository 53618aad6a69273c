use Rattle.std.proofs.Common.{◌∙◌}
use Rattle.termwiz_cell.specs.Attributes.{attributes_eq}
use Rattle.termwiz_cell.proofs.Boxes.{same-parts}
use Rattle.termwiz_cell.proofs.cell.attributes.CellAttributes.is_same.Goals as goal

pub returns : goal.returns
returns c = same-parts c.self.inside c.other.inside c.self.invariant c.other.invariant _ c.is_same.ensures ∙ (λ i. attributes_eq (c.self.view_is i) (c.other.view_is i))
