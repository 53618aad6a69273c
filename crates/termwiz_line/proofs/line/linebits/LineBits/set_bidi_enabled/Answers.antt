use Rattle.std.proofs.Common.{refl}
use Rattle.termwiz_line.proofs.Flags.{sets-bidi}
use Rattle.termwiz_line.proofs.line.linebits.LineBits.set_bidi_enabled.Goals as goal

pub returns-clause-enabled : goal.returns-clause-enabled
returns-clause-enabled c = (sets-bidi (c.set.ensures tt) (refl, c.requires)).0

pub returns-clause-no_others : goal.returns-clause-no_others
returns-clause-no_others c = (sets-bidi (c.set.ensures tt) (refl, c.requires)).1
