use Rattle.termwiz_cell.proofs.PackedStyles.{same-words, zero-word}
use Rattle.termwiz_cell.proofs.cell.style_word.StyleWord.is_blank.Goals as goal

pub returns : goal.returns
returns c = rw (← c.self.view_is) (same-words c.self.inside.word 0 c.self.invariant zero-word)
