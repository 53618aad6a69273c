use Rattle.std.proofs.Common.{◌≡◌, [], fold, map}
use Rattle.termwiz_screen.specs.Diff.{in_row, print_out, row_need}
use Rattle.termwiz_screen.proofs.diff.rows.print_blanks.Given as goal

-- what the columns so far need is printed
abbrev pub invariant-loop-k : goal.invariant-loop-k
invariant-loop-k l = l.writer ≡ fold print_out l.fn.writer (map (in_row l.row) (row_need l.own l.from [] 0 l.k))
