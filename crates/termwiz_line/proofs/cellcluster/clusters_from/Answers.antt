use Rattle.std.proofs.Common.{◌≡◌, Some, None, sym}
use Rattle.termwiz_storage.specs.CellRef.{indexed_cell}
use Rattle.termwiz_storage.specs.CellsLeft.{cells_left}
use Rattle.termwiz_line.specs.ClusterShapes.{grown}
use Rattle.termwiz_line.proofs.Clustering.{clustering-start, clustering-grows, clustering-ends, clustering-done}
use Rattle.termwiz_line.proofs.cellcluster.clusters_from.Goals as goal

pub loop-cell-init : goal.loop-cell-init
loop-cell-init g c = record {
  can = tt;
  finite = tt;
  clustering = rw (c.into_iter-cell-iterator.ensures.into_iter_gives, c.new-clusters.ensures.items, c.in_ok-cluster.ensures, c.of_one-shape.ensures) (clustering-start (g.W.Widths.presentation_of c.args.widths.now) (indexed_cell c.args.first) (cells_left c.args.rest) c.is_space.result c.is_space.ensures);
}

pub loop-cell-preserved-in-Some-grown : goal.loop-cell-preserved-in-Some-grown
loop-cell-preserved-in-Some-grown g c =
    let s = rw c.in-Some.ensures.steps.0 at c.loop-cell.invariant.clustering in
    let grows : grown c.loop-cell.shape c.in_ok-is_alike.is_alike c.is_space-is_space.result ≡ Some c.in-Some-grown.grown = sym c.in-Some-grown.ensures in
    record { can = tt; finite = tt; clustering = rw c.in_ok-add-in-Some-grown.ensures (clustering-grows (g.W.Widths.presentation_of c.args.widths.now) (indexed_cell c.args.first) (cells_left c.args.rest) (cells_left c.next.new.self) c.loop-cell.clusters.items c.loop-cell.cluster c.loop-cell.shape c.in-Some-grown.grown (indexed_cell c.in-Some.cell) c.in_ok-is_alike.is_alike c.is_space-is_space.result grows c.in_ok-is_alike.ensures c.is_space-is_space.ensures s) }

pub loop-cell-preserved : goal.loop-cell-preserved
loop-cell-preserved g c =
    let s = rw c.in-Some.ensures.steps.0 at c.loop-cell.invariant.clustering in
    let ends : grown c.loop-cell.shape c.in_ok-is_alike.is_alike c.is_space-is_space.result ≡ None = sym c.in-None-grown.ensures in
    record { can = tt; finite = tt; clustering = rw (c.in_ok-push-in-None-grown.ensures.items, c.in_ok-cluster-in-None-grown.ensures, c.of_one-shape-in-None-grown.ensures) (clustering-ends (g.W.Widths.presentation_of c.args.widths.now) (indexed_cell c.args.first) (cells_left c.args.rest) (cells_left c.next.new.self) c.loop-cell.clusters.items c.loop-cell.cluster c.loop-cell.shape (indexed_cell c.in-Some.cell) c.in_ok-is_alike.is_alike c.is_space-is_space.result ends c.in_ok-is_alike.ensures c.is_space-is_space.ensures s) }

pub returns : goal.returns
returns g c =
    let s = rw c.in-None.ensures.steps.0 at c.loop-cell.invariant.clustering in
    rw c.in_ok-push.ensures.items (clustering-done (g.W.Widths.presentation_of c.args.widths.now) (indexed_cell c.args.first) (cells_left c.args.rest) c.loop-cell.clusters.items c.loop-cell.cluster c.loop-cell.shape s)
