use Rattle.std.proofs.Common.{◌≡◌, take}
use Rattle.sessions.specs.Sending.{stream_sent}
use Rattle.sessions.proofs.pipe.stream.Given as goal

abbrev pub invariant-loop-outcome : goal.invariant-loop-outcome
invariant-loop-outcome l = l.stream.items ≡ stream_sent (take l.outcome-index l.outcomes)
