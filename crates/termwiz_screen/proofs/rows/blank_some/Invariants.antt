use Rattle.std.proofs.Common.{◌≡◌, ◌-◌, ◌++◌, take, drop, replicate}
use Rattle.std.specs.VecDeque.{deque_len}
use Rattle.termwiz_screen.specs.ScreenValue.{blank_line}
use Rattle.termwiz_screen.specs.Sides.{AreVectors}
use Rattle.termwiz_screen.proofs.rows.blank_some.Given as goal

abbrev pub invariant-loop-i : goal.invariant-loop-i
invariant-loop-i l = record {
  items : l.rows.items ≡ take l.first l.fn.rows.items ++ (replicate (l.i - l.first) (blank_line l.width) ++ drop l.i l.fn.rows.items);
  len : deque_len l.rows ≡ deque_len l.fn.rows;
  vectors : AreVectors l.rows.items;
}
