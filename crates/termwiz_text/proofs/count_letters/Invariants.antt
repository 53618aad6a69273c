use Rattle.std.specs.Str.{chars}
use Rattle.termwiz_text.proofs.LetterBytes.{IsCounted}
use Rattle.termwiz_text.proofs.count_letters.Given as goal

abbrev pub invariant-loop-k : goal.invariant-loop-k
invariant-loop-k l = IsCounted (chars l.text) l.k
