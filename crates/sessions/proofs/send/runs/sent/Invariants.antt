use Rattle.std.proofs.Common.{◌≡◌, length}
use Rattle.std.specs.Vec.Iter.{into_iter_items, into_iter_len}
use Rattle.sessions.proofs.Sent.{HasRun}
use Rattle.sessions.proofs.send.runs.sent.Given as goal

-- the events so far are done, and any run goes on with the others
abbrev pub invariant-loop-event : goal.invariant-loop-event
invariant-loop-event l = record {
  run : HasRun l.number l.width l.height l.fn.events.items (into_iter_items l.event-iterator) l.outcomes.items l.source l.last;
  count : into_iter_len l.event-iterator ≡ length (into_iter_items l.event-iterator);
}
