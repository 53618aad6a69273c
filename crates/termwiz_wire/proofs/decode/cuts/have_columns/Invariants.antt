use Rattle.std.proofs.Common.{◌≡◌, ◌-◌, ◌*◌, ◌≤◌, length}
use Rattle.termwiz_wire.specs.Cuts.{have_columns}
use Rattle.termwiz_wire.proofs.decode.cuts.have_columns.Given as goal

abbrev pub invariant-loop : goal.invariant-loop
invariant-loop l = record {
  rest : have_columns l.wide (l.count - l.counter) l.size l.left ≡ have_columns l.wide l.count l.size l.characters;
  within : (l.count - l.counter) * l.size ≤ length l.left;
}
