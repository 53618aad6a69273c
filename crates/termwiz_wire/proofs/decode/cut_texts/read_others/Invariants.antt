use Rattle.std.proofs.Common.{◌≡◌}
use Rattle.termwiz_wire.specs.CutTexts.{other_part, others_left_at}
use Rattle.termwiz_wire.specs.Resuming.{HasCome}
use Rattle.termwiz_wire.proofs.decode.cut_texts.read_others.Given as goal

abbrev pub invariant-runs : goal.invariant-runs
invariant-runs l = record {
  come : HasCome others_left_at l.fn.reader.room (other_part l.fn.other) l.fn.reader.bytes.now (other_part l.other) l.reader.bytes.now;
  room : l.reader.room ≡ l.fn.reader.room;
}

abbrev pub decreases-runs : goal.decreases-runs
decreases-runs l = l.other.left
