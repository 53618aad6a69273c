use Rattle.std.proofs.Common.{◌≡◌}
use Rattle.std.specs.Prelude.{IfSome, None}
use Rattle.sessions.proofs.Watched.{IsKept}
use Rattle.sessions.proofs.watch.runs.watch.Given as goal

-- `count` answers are taken, whose views are kept, and the other bytes are still to come
abbrev pub invariant-loop-count : goal.invariant-loop-count
invariant-loop-count g l = record {
  limits : l.client.limits ≡ l.fn.limits;
  reading : l.client.stopped ≡ None;
  no_fault : l.watched.fault ≡ None;
  kept : IfSome (g.R.Read.remaining l.fn.input) (λ bytes. IsKept l.fn.limits l.each bytes l.count l.client (g.R.Read.remaining l.input) l.watched.views.items l.watched.stale.items);
}
