use Rattle.std.proofs.Common.{refl}
use Rattle.sessions.proofs.send.runs.answered.Goals as goal

pub returns-in-Event : goal.returns-in-Event
returns-in-Event c = rw c.in-Event.is c.serve.ensures.does

pub returns-in_ok-bytes-in-Ask : goal.returns-in_ok-bytes-in-Ask
returns-in_ok-bytes-in-Ask c = rw c.in-Ask.is (c.in_ok-bytes-in-Ask.ensures.answered, refl)
