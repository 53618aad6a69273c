use Rattle.termwiz_cell.proofs.PackedFallbacks.{same-words}
use Rattle.termwiz_cell.proofs.cell.fallback_word.FallbackWord.are_none.Goals as goal

pub returns : goal.returns
returns c = rw (← c.self.view_is) (same-words c.self.inside.word 0)
