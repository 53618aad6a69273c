use Rattle.std.proofs.Common.{◌≡◌}
use Rattle.std.specs.Prelude.{IfSome, None, false}
use Rattle.sessions.proofs.StreamPrinted.{IsSoFar}
use Rattle.sessions.proofs.watch.print_all.Given as goal

abbrev pub invariant-loop-count : goal.invariant-loop-count
invariant-loop-count g l = record {
  limits : l.client.limits ≡ l.fn.options.limits;
  reading : l.client.stopped ≡ None;
  silent : l.printing.stale ≡ false → l.err ≡ l.fn.err;
  so_far : IfSome (g.R.Read.remaining l.fn.input) (λ bytes. IsSoFar l.fn.options bytes l.count l.client (g.R.Read.remaining l.input) l.printing
      (record { out = g.O.Write.contents l.fn.out; err = g.E.Write.contents l.fn.err }) (record { out = g.O.Write.contents l.out; err = g.E.Write.contents l.err }));
}
