use Rattle.std.proofs.Common.{subst}
use Rattle.termwiz_cell.proofs.ParamLists.{in-order}
use Rattle.termwiz_cell.specs.LinkText.{AreInOrder}
use Rattle.termwiz_cell.proofs.hyperlink.Hyperlink.params.Goals as goal

pub returns-clause-ordered : goal.returns-clause-ordered
returns-clause-ordered c = subst (λ link. AreInOrder link.params) c.self.view_is (in-order c.self.inside.params.entries c.len.ensures.ordered)
