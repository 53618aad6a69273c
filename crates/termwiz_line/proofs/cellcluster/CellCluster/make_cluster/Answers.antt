use Rattle.termwiz_line.proofs.Clustering.{clusters-none}
use Rattle.termwiz_line.proofs.cellcluster.CellCluster.make_cluster.Goals as goal

pub returns-in-None : goal.returns-in-None
returns-in-None g c = rw (c.in-None.ensures.steps.0, c.new.ensures.items) (clusters-none (g.W.Widths.presentation_of c.args.widths.now))
