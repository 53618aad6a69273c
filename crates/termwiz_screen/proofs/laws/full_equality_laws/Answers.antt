use Rattle.termwiz_screen.proofs.Equality.{full_decides}
use Rattle.termwiz_screen.proofs.laws.full_equality_laws.Goals as goal

pub returns : goal.returns
returns c = full_decides
