use Rattle.std.proofs.Common.{take}
use Rattle.std.specs.Io.KnownBytes.{Appends}
use Rattle.sessions.specs.Sending.{stream_sent}
use Rattle.sessions.proofs.send.send_each.Given as goal

-- what the outcomes so far sent is written
abbrev pub invariant-loop-outcome : goal.invariant-loop-outcome
invariant-loop-outcome g l = Appends (g.O.Write.contents l.fn.out) (g.O.Write.contents l.out) (stream_sent (take l.outcome-index l.outcomes))
