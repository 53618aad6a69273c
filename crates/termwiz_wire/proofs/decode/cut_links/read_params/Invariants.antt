use Rattle.std.proofs.Common.{◌≡◌}
use Rattle.termwiz_wire.specs.CutLinks.{part_of}
use Rattle.termwiz_wire.specs.Resuming.{HasReadOn}
use Rattle.termwiz_wire.proofs.CutLinks.{items_left}
use Rattle.termwiz_wire.proofs.decode.cut_links.read_params.Given as goal

abbrev pub invariant-items : goal.invariant-items
invariant-items l = record {
  read : HasReadOn l.fn.reader.room (part_of l.fn.link) l.fn.reader.bytes.now (part_of l.link) l.reader.bytes.now;
  room : l.reader.room ≡ l.fn.reader.room;
}

abbrev pub decreases-items : goal.decreases-items
decreases-items l = items_left (part_of l.link)
