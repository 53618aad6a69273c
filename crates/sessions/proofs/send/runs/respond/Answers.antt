use Rattle.sessions.proofs.send.runs.respond.Goals as goal

pub returns-clause-answered : goal.returns-clause-answered
returns-clause-answered c =
    let empty = c.new-bytes.ensures.items in
    record {
      trims = c.in_ok-respond.ensures.trims;
      given = rw empty at c.in_ok-respond.ensures.given;
      response = c.in_ok-respond.ensures.alone empty;
    }
