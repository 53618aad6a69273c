use Rattle.std.proofs.Common.{◌≡◌, ◌+◌, ◌≤◌, drop, map}
use Rattle.termwiz_cell.specs.ChangeValue.{change_value}
use Rattle.termwiz_wire.specs.Work.{work_of}
use Rattle.termwiz_wire.proofs.work.is_borne.Given as goal

abbrev pub invariant-loop-change : goal.invariant-loop-change
invariant-loop-change l = record {
  so_far : l.spent + work_of l.answer.width l.answer.height (map change_value (drop l.change-index l.change-items)) ≡ work_of l.answer.width l.answer.height l.answer.changes;
  few : l.spent ≤ l.most;
}
