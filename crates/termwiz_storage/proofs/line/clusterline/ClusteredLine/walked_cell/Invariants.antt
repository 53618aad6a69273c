use Rattle.std.proofs.Common.{◌≡◌}
use Rattle.termwiz_storage.specs.Stored.{cell_at, visible}
use Rattle.termwiz_storage.proofs.line.clusterline.ClusteredLine.walked_cell.Given as goal

-- the cell is among those that are left
abbrev pub invariant-loop-cell : goal.invariant-loop-cell
invariant-loop-cell l = cell_at l.cell-iterator l.i ≡ cell_at (visible l.self) l.i
