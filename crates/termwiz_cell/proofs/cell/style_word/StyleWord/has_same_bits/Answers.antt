use Rattle.termwiz_cell.proofs.PackedStyles.{same-bits}
use Rattle.termwiz_cell.proofs.cell.style_word.StyleWord.has_same_bits.Goals as goal

pub returns : goal.returns
returns c = rw (← c.self.view_is, ← c.other.view_is) (same-bits c.self.inside.word c.other.inside.word c.self.invariant c.other.invariant)
