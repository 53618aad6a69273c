use Rattle.std.proofs.Common.{◌≡◌, ◌-◌, length, drop}
use Rattle.termwiz_wire.specs.CutTexts.{own_left_at}
use Rattle.termwiz_wire.specs.Resuming.{HasCome}
use Rattle.termwiz_wire.proofs.decode.cut_texts.compare.Given as goal

abbrev pub invariant-runs : goal.invariant-runs
invariant-runs l = record {
  come : HasCome own_left_at l.fn.reader.room (drop l.fn.read l.runs) l.fn.reader.bytes.now (drop l.read l.runs) l.reader.bytes.now;
  room : l.reader.room ≡ l.fn.reader.room;
}

abbrev pub decreases-runs : goal.decreases-runs
decreases-runs l = length l.runs - l.read
