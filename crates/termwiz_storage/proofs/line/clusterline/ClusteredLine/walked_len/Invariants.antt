use Rattle.std.proofs.Common.{◌≡◌, ℕ, ◌-◌, ◌^◌, min}
use Rattle.termwiz_storage.proofs.Kept.{EndsAt}
use Rattle.termwiz_storage.proofs.line.clusterline.ClusteredLine.walked_len.Given as goal

abbrev pub invariant-loop-cell : goal.invariant-loop-cell
invariant-loop-cell l = record {
  can : (goal.iterator-loop-cell).can_next l.cell-iterator;
  finite : (goal.iterator-loop-cell).is_finite l.cell-iterator;
  end_is : (k : ℕ) × (l.kept ≡ min k (2 ^ 64 - 1)) × ((e : ℕ) → EndsAt k l.cell-iterator e → EndsAt 0 l.initial.cell-iterator e);
}
