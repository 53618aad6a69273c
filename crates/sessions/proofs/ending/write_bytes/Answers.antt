use Rattle.std.proofs.Common.{rules, ◌≡◌, ℕ, List}
use Rattle.sessions.proofs.Writing.{IsLeft, left_on, left_kept}
use Rattle.sessions.proofs.ending.write_bytes.Goals as goal
use Rattle.sessions.proofs.ending.write_bytes.Goals.{in-Ok, in-Err}

pub writes-preserved : goal.writes-preserved
writes-preserved g c = elim c.match-write.branch [
  | in-Ok w ↦ rw w.rest-is (left_on (g.O.Write.contents c.args.out.now) (g.O.Write.contents c.writes.out) (g.O.Write.contents c.write.new.self) c.args.bytes.now c.writes.rest.now w.in-Ok.count c.writes.invariant w.in-Ok.ensures.bytes)
  | in-Err w ↦ rw w.rest-is (left_kept (g.O.Write.contents c.args.out.now) (g.O.Write.contents c.writes.out) (g.O.Write.contents c.write.new.self) c.args.bytes.now c.writes.rest.now c.writes.invariant w.in-Err.ensures.bytes)
]
