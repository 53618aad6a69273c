use Rattle.std.proofs.Common.{◌≡◌, ◌+◌, length, drop}
use Rattle.termwiz_storage.specs.CellRuns.{shapes_of}
use Rattle.termwiz_storage.proofs.line.clusterline.run_lists.cell_count.Given as goal

-- with the cells of the runs that are left there are as many as of all
abbrev pub invariant-loop-run : goal.invariant-loop-run
invariant-loop-run l = l.count + length (shapes_of (drop l.run-index l.runs)) ≡ length (shapes_of l.runs)
