use Rattle.std.proofs.Common.{◌≡◌}
use Rattle.termwiz_storage.specs.CellRuns.{attrs_of}
use Rattle.termwiz_storage.proofs.line.clusterline.run_lists.own_links.Given as goal

-- the runs have the attributes that they had
abbrev pub invariant-loop-run : goal.invariant-loop-run
invariant-loop-run l = attrs_of l.runs ≡ attrs_of l.fn.runs
