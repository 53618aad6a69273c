use Rattle.termwiz_cell.proofs.PackedStyles.{same-words}
use Rattle.termwiz_cell.proofs.cell.style_word.StyleWord.is_same.Goals as goal

pub returns : goal.returns
returns c = rw (← c.self.view_is, ← c.other.view_is) (same-words c.self.inside.word c.other.inside.word c.self.invariant c.other.invariant)
