use Rattle.std.proofs.Common.{◌≡◌, map, vec_len}
use Rattle.termwiz_cell.specs.ChangeValue.{change_value}
use Rattle.termwiz_screen.specs.Repaint.{without_last_moves}
use Rattle.termwiz_screen.proofs.repaint.drop_last_moves.Given as goal

abbrev pub invariant-loop-entries : goal.invariant-loop-entries
invariant-loop-entries l = without_last_moves (map change_value l.entries.items) ≡ without_last_moves (map change_value l.fn.entries.items)

abbrev pub decreases-loop-entries : goal.decreases-loop-entries
decreases-loop-entries l = vec_len l.entries
