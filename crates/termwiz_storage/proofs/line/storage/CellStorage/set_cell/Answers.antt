use Rattle.std.proofs.Common.{◌∙◌, sym}
use Rattle.termwiz_storage.proofs.SetAtEnd.{set_cell-at_end}
use Rattle.termwiz_storage.proofs.line.storage.CellStorage.set_cell.Goals as goal

pub returns-then-len-i-clause-ok : goal.returns-then-len-i-clause-ok
returns-then-len-i-clause-ok c =
    rw c.in-Cluster.is (c.in_ok-append.ensures.ok ∙ sym (set_cell-at_end c.args.i c.args.cell c.in-Cluster.line c.len.ensures.whole (sym c.len.ensures.len ∙ c.if-len-i.true)))
