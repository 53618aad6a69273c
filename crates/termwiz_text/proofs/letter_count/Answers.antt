use Rattle.std.proofs.Common.{arith}
use Rattle.termwiz_text.proofs.LetterRuns.{length-letters}
use Rattle.termwiz_text.proofs.letter_count.Goals as goal

pub returns : goal.returns
returns c = omega (arith, length-letters c.args.run.now c.utf8.run c.requires)
