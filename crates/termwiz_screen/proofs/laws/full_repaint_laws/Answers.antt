use Rattle.termwiz_screen.proofs.Repaints.Full.{full_repaint_gives}
use Rattle.termwiz_screen.proofs.FullScreens.{full_steps, full-replayed, full-resized}
use Rattle.termwiz_screen.proofs.Repaints.Length.{full_repaint_short}
use Rattle.termwiz_screen.proofs.TextScrolls.{texts_scroll}
use Rattle.termwiz_screen.proofs.laws.full_repaint_laws.Goals as goal

pub returns : goal.returns
returns c = record { step = full_steps; scrolled = texts_scroll; changes = full-replayed; resized = full-resized; gives = full_repaint_gives; short = λ t. full_repaint_short t }
