use Rattle.std.proofs.Common.{ℕ, List}
use Rattle.sessions.specs.Writing.{AppendsSome}
use Rattle.sessions.proofs.Writing.{some_none, if_always}
use Rattle.sessions.proofs.ending.write.Goals as goal

pub returns-in_err-text-clause-begun : goal.returns-in_err-text-clause-begun
returns-in_err-text-clause-begun g c = if_always (g.L.Display.output c.args.lines) (AppendsSome (g.O.Write.contents c.args.out.now) (g.O.Write.contents c.args.out.now)) (some_none (g.O.Write.contents c.args.out.now))
