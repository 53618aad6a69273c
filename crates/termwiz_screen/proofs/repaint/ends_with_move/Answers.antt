use Rattle.std.proofs.Common.{sym, ◌∙◌}
use Rattle.termwiz_cell.specs.ChangeValue.{change_value}
use Rattle.termwiz_screen.specs.Repaint.{is_move}
use Rattle.termwiz_line.proofs.LastChange.{last_of}
use Rattle.termwiz_screen.proofs.repaint.ends_with_move.Goals as goal

pub returns-in-Some : goal.returns-in-Some
returns-in-Some c =
    c.is_move.ensures ∙ sym (last_of is_move change_value c.args.entries.now c.in-Some.last.now (sym c.in-Some.ensures.value))
