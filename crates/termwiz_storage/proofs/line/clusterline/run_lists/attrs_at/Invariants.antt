use Rattle.std.proofs.Common.{◌≡◌, drop}
use Rattle.std.specs.List.{slice_get}
use Rattle.termwiz_storage.specs.CellRuns.{attrs_of}
use Rattle.termwiz_storage.proofs.line.clusterline.run_lists.attrs_at.Given as goal

-- the cell is among those of the runs that are left
abbrev pub invariant-loop-run : goal.invariant-loop-run
invariant-loop-run l = slice_get (attrs_of (drop l.run-index l.runs)) l.left ≡ slice_get (attrs_of l.runs) l.i
