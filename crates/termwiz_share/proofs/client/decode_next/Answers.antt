use Rattle.termwiz_cell.specs.Measure.{measure}
use Rattle.termwiz_wire.specs.Lent.{lent_answer}
use Rattle.termwiz_share.proofs.Taking.{left_shorter}
use Rattle.termwiz_share.proofs.client.decode_next.Goals as goal

pub returns-in-Ok-clause-shorter : goal.returns-in-Ok-clause-shorter
returns-in-Ok-clause-shorter g c = left_shorter (measure g.W.Widths.width_of c.args.widths.now) (lent_answer c.in-Ok.next.0) c.args.bytes.now c.in-Ok.next.1 c.in-Ok.ensures.found.0
