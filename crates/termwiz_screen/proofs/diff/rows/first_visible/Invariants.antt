use Rattle.std.proofs.Common.{◌≡◌, ◌-◌, ◌<◌, ◌≤◌, ℕ, false, length, true}
use Rattle.termwiz_storage.specs.Stored.{hides}
use Rattle.termwiz_screen.proofs.diff.rows.first_visible.Given as goal

-- the next column starts a cell, and from the given one on only halves stand before it
abbrev pub invariant-loop-next : goal.invariant-loop-next
invariant-loop-next l = record {
  visible : hides l.cells l.next ≡ false;
  hidden : (k : ℕ) → l.from ≤ k → k < l.next → hides l.cells k ≡ true;
}

abbrev pub decreases-loop-next : goal.decreases-loop-next
decreases-loop-next l = length l.cells - l.next
