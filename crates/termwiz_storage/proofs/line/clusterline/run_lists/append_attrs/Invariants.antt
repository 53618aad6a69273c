use Rattle.std.proofs.Common.{◌≡◌, ◌≤◌, ◌+◌, ◌++◌, length, vec_len, vec_capacity}
use Rattle.std.specs.Vec.Iter.{into_iter_items, into_iter_len}
use Rattle.termwiz_storage.specs.CellRuns.{attrs_of}
use Rattle.termwiz_storage.proofs.line.clusterline.run_lists.append_attrs.Given as goal

-- with the attributes of the runs that are left there are those of both lists
abbrev pub invariant-loop-run : goal.invariant-loop-run
invariant-loop-run l = record {
  same : attrs_of l.runs.items ++ attrs_of (into_iter_items l.run-iterator) ≡ attrs_of l.initial.runs.items ++ attrs_of l.fn.more.items;
  room : vec_len l.runs + into_iter_len l.run-iterator ≤ vec_capacity l.runs;
  count : into_iter_len l.run-iterator ≡ length (into_iter_items l.run-iterator);
}
