use Rattle.std.proofs.Common.{rules}
use Rattle.sessions.proofs.view.outcomes.Goals as goal

pub returns-clause-run : goal.returns-clause-run
returns-clause-run g c = record {
  width = c.in_ok-width.width;
  height = c.in_ok-width.height;
  sizes = search rules;
  events = c.in_ok-events.events;
  schedule = c.in_ok-outcomes.ensures;
}
