use Rattle.std.proofs.Common.{◌≡◌, ◌++◌, None, length}
use Rattle.std.specs.Slice.Iter.{iter_rest}
use Rattle.termwiz_storage.specs.CellRuns.{attrs_of, same_attrs}
use Rattle.termwiz_storage.proofs.line.clusterline.run_lists.AttrsIter.next.Given as goal

abbrev pub invariant-loop-self : goal.invariant-loop-self
invariant-loop-self l = record {
  same : same_attrs l.self-inside.left l.self-inside.attrs ++ attrs_of (iter_rest l.self-inside.rest) ≡ same_attrs l.initial.self-inside.left l.initial.self-inside.attrs ++ attrs_of (iter_rest l.initial.self-inside.rest);
  some : l.self-inside.attrs ≡ None → l.self-inside.left ≡ 0;
}

abbrev pub decreases-loop-self : goal.decreases-loop-self
decreases-loop-self l = length (iter_rest l.self-inside.rest)
