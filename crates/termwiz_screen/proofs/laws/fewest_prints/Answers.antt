use Rattle.termwiz_screen.proofs.Diffs.FewestPrints.{fewest_prints, fewest_narrow}
use Rattle.termwiz_screen.proofs.laws.fewest_prints.Goals as goal

pub returns : goal.returns
returns c = record { thirds = fewest_prints; narrow = fewest_narrow }
