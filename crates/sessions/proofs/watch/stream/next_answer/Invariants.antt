use Rattle.sessions.specs.Taking.{coming}
use Rattle.sessions.proofs.Coming.{IsThere}
use Rattle.sessions.proofs.watch.stream.next_answer.Given as goal

-- nothing is taken, and no byte is lost
abbrev pub invariant-loop : goal.invariant-loop
invariant-loop g l = IsThere l.fn.client (coming l.fn.client (g.R.Read.remaining l.fn.input)) l.client (g.R.Read.remaining l.input)
