use Rattle.std.proofs.Common.{◌≡◌, ◌≤◌, ◌+◌, ◌-◌, ◌++◌, length, drop, vec_len, vec_capacity}
use Rattle.termwiz_storage.specs.CellRuns.{shapes_of}
use Rattle.termwiz_storage.proofs.line.clusterline.run_lists.append_shapes.Given as goal

-- with the shapes of the runs that are left there are those of both lists
abbrev pub invariant-loop-run : goal.invariant-loop-run
invariant-loop-run l = record {
  same : shapes_of l.runs.items ++ shapes_of (drop l.run-index l.more) ≡ shapes_of l.initial.runs.items ++ shapes_of l.more;
  room : vec_len l.runs + (length l.more - l.run-index) ≤ vec_capacity l.runs;
}
