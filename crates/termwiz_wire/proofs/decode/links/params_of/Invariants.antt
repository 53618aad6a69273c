use Rattle.std.proofs.Common.{◌≡◌, ◌-◌, map, []}
use Rattle.termwiz_cell.specs.Link.{param_bytes}
use Rattle.termwiz_cell.specs.LinkText.{AreInOrder}
use Rattle.termwiz_wire.specs.Decoding.{params_at}
use Rattle.termwiz_wire.proofs.decode.links.params_of.Given as goal

abbrev pub invariant-loop : goal.invariant-loop
invariant-loop l = record {
  read : params_at l.fn.reader.room (map param_bytes l.params.entries) (l.count - l.counter) l.reader.bytes.now ≡ params_at l.fn.reader.room [] l.count l.fn.reader.bytes.now;
  ordered : AreInOrder (map param_bytes l.params.entries);
  room : l.reader.room ≡ l.fn.reader.room;
}
