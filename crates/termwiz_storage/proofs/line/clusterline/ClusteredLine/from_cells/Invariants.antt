use Rattle.std.proofs.Common.{◌≡◌, ◌++◌, length}
use Rattle.termwiz_storage.specs.Clustered.{IsWhole}
use Rattle.termwiz_storage.proofs.line.clusterline.ClusteredLine.from_cells.Given as goal

-- what is appended and what is left are all cells
abbrev pub invariant-runs : goal.invariant-runs
invariant-runs l = record {
  same : l.line ++ l.rest ≡ l.cells;
  whole : IsWhole l.rest;
}

abbrev pub decreases-runs : goal.decreases-runs
decreases-runs l = length l.rest
