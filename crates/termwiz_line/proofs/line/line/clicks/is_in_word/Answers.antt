use Rattle.std.proofs.Common.{ap, refl, ◌∙◌}
use Rattle.std.proofs.lemmas.Fn.{says_at}
use Rattle.termwiz_line.proofs.line.line.clicks.is_in_word.Goals as goal

pub returns : goal.returns
returns g c word a = a c.str.result.now c.is_word.result (says_at g.F.Fn c.is_word.ensures refl) ∙ ap word c.str.ensures
