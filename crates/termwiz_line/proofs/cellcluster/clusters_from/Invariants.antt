use Rattle.termwiz_storage.specs.CellRef.{indexed_cell}
use Rattle.termwiz_storage.specs.CellsLeft.{cells_left}
use Rattle.termwiz_line.proofs.Clustering.{IsClustering}
use Rattle.termwiz_line.proofs.cellcluster.clusters_from.Given as goal

abbrev pub invariant-loop-cell : goal.invariant-loop-cell
invariant-loop-cell g l = record {
  can : (goal.iterator-loop-cell g).can_next l.cell-iterator;
  finite : (goal.iterator-loop-cell g).is_finite l.cell-iterator;
  clustering : IsClustering (g.W.Widths.presentation_of l.widths) (indexed_cell l.fn.first) (cells_left l.fn.rest) (cells_left l.cell-iterator) l.clusters.items l.cluster l.shape;
}
