use Rattle.std.proofs.Common.{◌≡◌}
use Rattle.std.specs.Io.Iter.{split_byte, split_known_bytes}
use Rattle.sessions.proofs.Answered.{IsSoFar}
use Rattle.sessions.proofs.send.answering.answer_lines.Given as goal

-- the lines so far are done
abbrev pub invariant-loop-piece : goal.invariant-loop-piece
invariant-loop-piece g l = record {
  newline : split_byte l.piece-iterator ≡ 10;
  so_far : IsSoFar l.fn.options.source l.fn.options.width l.fn.options.height (g.B.Read.remaining l.fn.input) (g.O.Write.contents l.fn.out) (split_known_bytes g.B.Read.remaining l.piece-iterator) l.source l.last (g.O.Write.contents l.out);
}
