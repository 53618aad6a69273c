use Rattle.std.proofs.lemmas.Bool.Decides.{Decides-at}
use Rattle.termwiz_screen.specs.ScreenValue.{screen_value, screen_eq-Decides}
use Rattle.termwiz_screen.proofs.screen.ScreenPartialEq.eq.Goals as goal

pub returns-clause-same : goal.returns-clause-same
returns-clause-same c = Decides-at c.is_same.result _ c.is_same.ensures (screen_eq-Decides (screen_value c.args.self.now) (screen_value c.args.other.now))
