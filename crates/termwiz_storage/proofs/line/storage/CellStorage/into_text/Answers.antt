use Rattle.std.proofs.Common.{sym}
use Rattle.termwiz_storage.proofs.Whole.{whole-is}
use Rattle.termwiz_storage.proofs.line.storage.CellStorage.into_text.Goals as goal

pub returns-in-Cluster : goal.returns-in-Cluster
returns-in-Cluster c = rw c.in-Cluster.is (sym (whole-is c.in-Cluster.line c.len-len.ensures.whole))
