use Rattle.std.proofs.Common.{◌≡◌, ◌+◌, ◌++◌, replicate}
use Rattle.std.specs.VecDeque.{deque_len, deque_capacity}
use Rattle.termwiz_screen.specs.ScreenValue.{blank_line}
use Rattle.termwiz_screen.proofs.rows.add_blank_rows.Given as goal

abbrev pub invariant-loop-row : goal.invariant-loop-row
invariant-loop-row l = record {
  items : l.rows.items ≡ l.fn.rows.items ++ replicate l._row (blank_line l.width);
  len : deque_len l.rows ≡ deque_len l.fn.rows + l._row;
  room : deque_capacity l.rows ≡ deque_capacity l.fn.rows;
}
