use Rattle.std.proofs.Common.{◌≡◌, ◌++◌, map}
use Rattle.termwiz_cell.specs.ChangeValue.{change_value}
use Rattle.termwiz_cell.specs.Measure.{measure}
use Rattle.termwiz_cell.specs.Sequence.{RowsFit, all_added}
use Rattle.termwiz_cell.proofs.change.sequence.ChangeSequence.add_changes.Given as goal

-- the changes so far are added, and the width value stays
abbrev pub invariant-loop-change : goal.invariant-loop-change
invariant-loop-change g l =
    let f = measure g.W.Widths.width_of l.initial.self.widths in
    record {
      fit : RowsFit f l.initial.self (map change_value l.yielded);
      so_far : l.self ≡ all_added f l.initial.self (map change_value l.yielded);
      left : l.yielded ++ l.change-iterator.rest.items ≡ l.fn.changes.items;
      widths : l.self.widths ≡ l.initial.self.widths;
    }
