use Rattle.std.proofs.Common.{rules}
use Rattle.sessions.proofs.send.outcomes.Goals as goal

pub returns-clause-run : goal.returns-clause-run
returns-clause-run g c =
    let (frames, sent, chain) = c.in_ok-outcomes.ensures in
    record {
      source = c.in_ok-options.options.source;
      width = c.in_ok-options.options.width;
      height = c.in_ok-options.options.height;
      sizes = search rules;
      events = c.in_ok-events.events.items;
      said = search rules;
      frames = frames;
      sent = sent;
    }
