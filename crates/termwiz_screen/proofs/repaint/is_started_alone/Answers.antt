use Rattle.std.proofs.Common.{length, ap, arith}
use Rattle.std.proofs.lemmas.List.{length-map}
use Rattle.termwiz_cell.specs.ChangeValue.{change_value}
use Rattle.termwiz_screen.proofs.Repaints.LastChanges.{nothing_more}
use Rattle.termwiz_screen.proofs.repaint.is_started_alone.Goals as goal

pub returns : goal.returns
returns c = λ es e. nothing_more (length c.args.entries.now) es (omega (arith, length-map c.args.entries.now change_value, ap length e))
