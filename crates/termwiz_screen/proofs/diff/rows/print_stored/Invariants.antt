use Rattle.std.proofs.Common.{◌-◌}
use Rattle.termwiz_screen.specs.Walked.{IsPrintedTo}
use Rattle.termwiz_screen.proofs.diff.rows.print_stored.Given as goal

-- what the columns so far need is printed
abbrev pub invariant-loop-next : goal.invariant-loop-next
invariant-loop-next l = IsPrintedTo l.own l.region.x l.cells l.region.other_x l.region.width l.row l.fn.writer l.writer l.next

abbrev pub decreases-loop-next : goal.decreases-loop-next
decreases-loop-next l = l.end - l.next
