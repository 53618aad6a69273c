use Rattle.termwiz_cell.specs.Attributes.{same-bits}
use Rattle.termwiz_cell.specs.AttributesLayout.{attributes_of}
use Rattle.termwiz_cell.proofs.cell.attributes.CellAttributes.attribute_bits_equal.Goals as goal

pub returns : goal.returns
returns c =
    let same = same-bits (attributes_of c.self.inside) (attributes_of c.other.inside) in
    let bits = rw (c.style.ensures, c.style-2.ensures) at c.has_same_bits.ensures in
    rw (← c.self.view_is, ← c.other.view_is) (λ e. same.0 (bits.0 e), λ e. bits.1 (same.1 e))
