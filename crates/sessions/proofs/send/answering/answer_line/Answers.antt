use Rattle.std.proofs.Common.{inr}
use Rattle.std.specs.Io.KnownBytes.{Appends}
use Rattle.sessions.specs.Writing.{AppendsSome}
use Rattle.sessions.proofs.Answered.{line_done}
use Rattle.sessions.proofs.Fresh.{on_ok}
use Rattle.sessions.proofs.send.answering.answer_line.Goals as goal

pub returns-in_ok-outcome-in-Some-clause-answered : goal.returns-in_ok-outcome-in-Some-clause-answered
returns-in_ok-outcome-in-Some-clause-answered g c =
    on_ok c.send_one.result _ _
    (λ written. line_done c.args.line.now c.args.source.now c.answered.new.source c.args.last.now c.answered.new.last c.in-Some.request c.in_ok-outcome-in-Some.outcome (Appends (g.O.Write.contents c.args.out.now) (g.O.Write.contents c.send_one.new.out))
    (rw c.in-Some.is at c.in_ok-request.ensures.said) c.in_ok-outcome-in-Some.ensures written) c.send_one.ensures.sent

pub returns-in_ok-outcome-in-Some-clause-begun : goal.returns-in_ok-outcome-in-Some-clause-begun
returns-in_ok-outcome-in-Some-clause-begun g c =
    inr (line_done c.args.line.now c.args.source.now c.answered.new.source c.args.last.now c.answered.new.last c.in-Some.request c.in_ok-outcome-in-Some.outcome (AppendsSome (g.O.Write.contents c.args.out.now) (g.O.Write.contents c.send_one.new.out))
    (rw c.in-Some.is at c.in_ok-request.ensures.said) c.in_ok-outcome-in-Some.ensures c.send_one.ensures.begun)
