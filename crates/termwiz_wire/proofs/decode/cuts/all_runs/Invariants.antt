use Rattle.std.proofs.Common.{◌≡◌, ◌-◌, false}
use Rattle.termwiz_wire.specs.Cuts.{no_run, runs_at}
use Rattle.termwiz_wire.proofs.decode.cuts.all_runs.Given as goal

abbrev pub invariant-loop : goal.invariant-loop
invariant-loop l = record {
  rest : runs_at l.fn.reader.room l.last l.needed l.left (l.count - l.counter) l.reader.bytes.now ≡ runs_at l.fn.reader.room no_run false l.characters l.count l.fn.reader.bytes.now;
  room : l.reader.room ≡ l.fn.reader.room;
}
