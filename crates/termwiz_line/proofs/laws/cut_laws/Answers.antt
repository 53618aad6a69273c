use Rattle.termwiz_line.proofs.CutsAreOne.{zones_are_one, wraps_are_one, wraps_are_alike}
use Rattle.termwiz_line.proofs.laws.cut_laws.Goals as goal

pub returns-clause-zones : goal.returns-clause-zones
returns-clause-zones c = zones_are_one

pub returns-clause-wraps : goal.returns-clause-wraps
returns-clause-wraps c = wraps_are_one

pub returns-clause-alike : goal.returns-clause-alike
returns-clause-alike c = wraps_are_alike
