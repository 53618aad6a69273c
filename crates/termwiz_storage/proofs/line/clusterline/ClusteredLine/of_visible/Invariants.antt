use Rattle.std.proofs.Common.{◌≡◌, ◌++◌}
use Rattle.termwiz_storage.specs.Edits.{with_halves}
use Rattle.termwiz_storage.proofs.line.clusterline.ClusteredLine.of_visible.Given as goal

abbrev pub invariant-loop-cell : goal.invariant-loop-cell
invariant-loop-cell l = record {
  can : (goal.iterator-loop-cell).can_next l.cell-iterator;
  finite : (goal.iterator-loop-cell).is_finite l.cell-iterator;
  same : l.line ++ with_halves l.cell-iterator ≡ with_halves l.initial.cell-iterator;
}
