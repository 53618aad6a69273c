use Rattle.std.proofs.Common.{◌≡◌, ◌≤◌, ◌-◌, ◌++◌, length, map, Some}
use Rattle.cbor.specs.Decoding.{IsBytes}
use Rattle.termwiz_cell.specs.ChangeValue.{change_value}
use Rattle.termwiz_cell.specs.Measure.{measure}
use Rattle.termwiz_surface.specs.Unlogged.{lent_value}
use Rattle.termwiz_wire.specs.Resuming.{HasGoneOn}
use Rattle.termwiz_wire.specs.Work.{most_work, spent_on}
use Rattle.termwiz_wire.proofs.decode.begun.go_on.Given as goal

abbrev pub invariant-changes : goal.invariant-changes
invariant-changes g l = record {
  gone : HasGoneOn (measure g.W.Widths.width_of l.widths) l.fn.reader.room l.head (map change_value l.begun ++ map lent_value l.fn.changes.items) l.fn.reader.bytes.now (map change_value l.begun ++ map lent_value l.changes.items) l.reader.bytes.now;
  fits : IsBytes l.reader.bytes.now;
  spent : l.spent ≡ spent_on (Some l.head) (map change_value l.begun ++ map lent_value l.changes.items);
  few : l.spent ≤ most_work l.head.width l.head.height;
  room : l.reader.room ≡ l.fn.reader.room;
}

abbrev pub decreases-changes : goal.decreases-changes
decreases-changes g l = l.count - length l.changes.items
