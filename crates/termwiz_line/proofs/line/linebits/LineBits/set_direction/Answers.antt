use Rattle.std.proofs.Common.{refl}
use Rattle.termwiz_line.proofs.Flags.{sets-direction}
use Rattle.termwiz_line.proofs.line.linebits.LineBits.set_direction.Goals as goal

pub returns-clause-direction : goal.returns-clause-direction
returns-clause-direction c = (sets-direction (c.set.ensures tt) (c.set-2.ensures tt) (refl, c.requires)).0

pub returns-clause-no_others : goal.returns-clause-no_others
returns-clause-no_others c = (sets-direction (c.set.ensures tt) (c.set-2.ensures tt) (refl, c.requires)).1
