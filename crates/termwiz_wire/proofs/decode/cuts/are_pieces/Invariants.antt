use Rattle.std.proofs.Common.{◌≡◌, ◌-◌, ◌*◌, ◌≤◌, length}
use Rattle.termwiz_wire.specs.Cuts.{are_pieces}
use Rattle.termwiz_wire.proofs.decode.cuts.are_pieces.Given as goal

abbrev pub invariant-loop : goal.invariant-loop
invariant-loop l = record {
  rest : are_pieces (l.count - l.counter) l.size l.left ≡ are_pieces l.count l.size l.characters;
  within : (l.count - l.counter) * l.size ≤ length l.left;
}
