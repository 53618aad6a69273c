use Rattle.std.proofs.lemmas.Bool.Decides.{Decides-at}
use Rattle.termwiz_cell.specs.Attributes.{attributes_eq-Decides}
use Rattle.termwiz_cell.proofs.cell.attributes.CellAttributesPartialEq.eq.Goals as goal

pub returns-clause-same : goal.returns-clause-same
returns-clause-same c = Decides-at c.is_same.result _ c.is_same.ensures (attributes_eq-Decides c.args.self.now c.args.other.now)
