use Rattle.std.proofs.Common.{◌≡◌, sym}
use Rattle.sessions.proofs.Writing.{sent_some}
use Rattle.sessions.proofs.send.send_each.Goals as goal

pub returns-in_err-send_one-clause-begun : goal.returns-in_err-send_one-clause-begun
returns-in_err-send_one-clause-begun g c =
    sent_some c.args.outcomes.now c.outcome-item.result c.loop-outcome.outcome-index (g.O.Write.contents c.args.out.now) (g.O.Write.contents c.loop-outcome.out) (g.O.Write.contents c.send_one.new.out)
    c.loop-outcome-test.true (sym c.outcome-item.is) c.loop-outcome.invariant c.send_one.ensures.begun
