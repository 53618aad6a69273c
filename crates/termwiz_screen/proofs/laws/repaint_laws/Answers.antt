use Rattle.termwiz_screen.proofs.Repaints.Screen.{repaint_gives}
use Rattle.termwiz_screen.proofs.Repaints.Length.{repaint_short}
use Rattle.termwiz_screen.proofs.Repaints.LineEntries.{line_done}
use Rattle.termwiz_screen.proofs.laws.repaint_laws.Goals as goal

pub returns : goal.returns
returns c = record { gives = repaint_gives; short = repaint_short; line = line_done }
