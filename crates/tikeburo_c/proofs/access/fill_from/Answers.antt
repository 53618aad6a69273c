use Rattle.std.proofs.Common.{refl}
use Rattle.tikeburo_c.proofs.access.fill_from.Goals as goal

pub returns : goal.returns
returns g c = record { shown = _; taken = _; left = _; shows = refl; takes = (refl, refl); met = c.action.ensures; leaves = (refl, refl) }
