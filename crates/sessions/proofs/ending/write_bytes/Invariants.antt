use Rattle.sessions.proofs.Writing.{IsLeft}
use Rattle.sessions.proofs.ending.write_bytes.Given as goal

-- the bytes in front of the rest are written
abbrev pub invariant-writes : goal.invariant-writes
invariant-writes g l = IsLeft (g.O.Write.contents l.fn.out) (g.O.Write.contents l.out) l.bytes l.rest
