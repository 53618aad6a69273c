use Rattle.termwiz_line.proofs.ClustersAreOne.{clusters_are_one, bytes_tell_their_cells}
use Rattle.termwiz_line.proofs.ClustersJoin.{clusters_join}
use Rattle.termwiz_line.proofs.laws.cluster_laws.Goals as goal

pub returns-clause-one : goal.returns-clause-one
returns-clause-one c = clusters_are_one

pub returns-clause-joined : goal.returns-clause-joined
returns-clause-joined c = clusters_join

pub returns-clause-bytes : goal.returns-clause-bytes
returns-clause-bytes c = bytes_tell_their_cells
