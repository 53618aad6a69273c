use Rattle.termwiz_surface.proofs.Equality.{attribute_decides, change_decides}
use Rattle.termwiz_surface.proofs.laws.equality_laws.Goals as goal

pub returns-clause-attributes : goal.returns-clause-attributes
returns-clause-attributes c = attribute_decides

pub returns-clause-changes : goal.returns-clause-changes
returns-clause-changes c = change_decides
