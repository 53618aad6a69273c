use Rattle.std.proofs.Common.{refl}
use Rattle.termwiz_line.proofs.Flags.{sets-sizes}
use Rattle.termwiz_line.proofs.line.linebits.LineBits.set_sizes.Goals as goal

pub returns-clause-sizes : goal.returns-clause-sizes
returns-clause-sizes c = (sets-sizes (c.set.ensures tt) (c.set-2.ensures tt) (c.set-3.ensures tt) (refl, c.requires)).0

pub returns-clause-no_others : goal.returns-clause-no_others
returns-clause-no_others c = (sets-sizes (c.set.ensures tt) (c.set-2.ensures tt) (c.set-3.ensures tt) (refl, c.requires)).1
