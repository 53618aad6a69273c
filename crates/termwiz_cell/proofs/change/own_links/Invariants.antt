use Rattle.std.proofs.Common.{◌≡◌, map}
use Rattle.termwiz_cell.specs.{change_value}
use Rattle.termwiz_cell.proofs.change.own_links.Given as goal

-- each change has the value that it had
abbrev pub invariant-loop-change : goal.invariant-loop-change
invariant-loop-change l = map change_value l.changes ≡ map change_value l.fn.changes
