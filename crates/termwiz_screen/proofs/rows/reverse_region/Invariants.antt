use Rattle.std.proofs.Common.{◌≡◌, ℕ, ◌+◌}
use Rattle.std.specs.VecDeque.{deque_len}
use Rattle.termwiz_screen.specs.ScrollRegions.{region_reversed}
use Rattle.termwiz_screen.proofs.rows.reverse_region.Given as goal

-- what is left to do leads to the whole
abbrev pub invariant-loop-i : goal.invariant-loop-i
invariant-loop-i l = record {
  left : (a n : ℕ) → a ≡ l.first + l.i → n + (l.i + l.i) ≡ l.size → region_reversed l.rows.items a n ≡ region_reversed l.fn.rows.items l.first l.size;
  len : deque_len l.rows ≡ deque_len l.fn.rows;
}
