use Rattle.std.proofs.Common.{◌∙◌}
use Rattle.termwiz_cell.specs.Attributes.{default_attributes, attributes_eq}
use Rattle.termwiz_cell.proofs.Boxes.{same-as-blank}
use Rattle.termwiz_cell.proofs.cell.attributes.CellAttributes.is_blank.Goals as goal

pub returns-clause-value : goal.returns-clause-value
returns-clause-value c = same-as-blank c.self.inside c.self.invariant _ c.is_blank.ensures ∙ (λ i. attributes_eq (c.self.view_is i) default_attributes)
