use Rattle.std.proofs.Common.{◌≡◌, fold, map, length, min}
use Rattle.std.specs.VecDeque.{deque_len}
use Rattle.termwiz_line.specs.Row.{row_of}
use Rattle.termwiz_screen.specs.Diff.{band, need_upto, print_out}
use Rattle.termwiz_screen.specs.ScreenValue.{cells_of}
use Rattle.termwiz_screen.specs.Walked.{AreHalved}
use Rattle.termwiz_screen.proofs.diff.rows.print_lines.Given as goal

-- what the rows so far need is printed
abbrev pub invariant-loop-row : goal.invariant-loop-row
invariant-loop-row l = AreHalved l.width (cells_of l.own.items) →
    l.writer ≡ fold print_out l.fn.writer (need_upto (map (row_of l.width) (cells_of l.own.items)) (map (λ line. row_of l.width line.now.cells) l.lines) (band l.width 0 0 (min (deque_len l.own) (length l.lines))) l.row)
