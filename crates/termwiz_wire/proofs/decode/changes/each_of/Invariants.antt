use Rattle.std.proofs.Common.{◌≡◌, ◌≤◌, ◌-◌, map, [], length}
use Rattle.std.specs.Prelude.{IfSome}
use Rattle.termwiz_cell.specs.ChangeValue.{change_value}
use Rattle.termwiz_cell.specs.Measure.{measure}
use Rattle.termwiz_wire.specs.Answers.{each_at}
use Rattle.termwiz_wire.specs.Work.{most_work, spent_on}
use Rattle.termwiz_wire.proofs.decode.changes.each_of.Given as goal

abbrev pub invariant-loop-index : goal.invariant-loop-index
invariant-loop-index g l = record {
  read : each_at (measure g.W.Widths.width_of l.widths) l.fn.reader.room l.head (map change_value l.changes.items) (l.count - l.index) l.reader.bytes.now ≡ each_at (measure g.W.Widths.width_of l.widths) l.fn.reader.room l.head [] l.count l.fn.reader.bytes.now;
  spent : l.spent ≡ spent_on l.head (map change_value l.changes.items);
  few : IfSome l.head (λ h. l.spent ≤ most_work h.width h.height);
  made : length (map change_value l.changes.items) ≡ l.index;
  room : l.reader.room ≡ l.fn.reader.room;
}
