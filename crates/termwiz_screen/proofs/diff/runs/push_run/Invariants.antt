use Rattle.std.proofs.Common.{◌≡◌, ◌+◌, ◌-◌, ◌≤◌, ℕ, true}
use Rattle.termwiz_line.specs.GrowingText.{ends_printable}
use Rattle.termwiz_line.specs.LastChange.{last_is}
use Rattle.termwiz_screen.specs.Diff.{PrintedOut}
use Rattle.termwiz_screen.specs.Ends.{ended_at}
use Rattle.termwiz_screen.specs.Walked.{IsPrintedTo}
use Rattle.termwiz_screen.proofs.diff.runs.push_run.Given as goal

-- the texts so far are printed
abbrev pub invariant-loop-k : goal.invariant-loop-k
invariant-loop-k l = record {
  text : last_is ends_printable l.entries ≡ true;
  printed : (x q n row : ℕ) (d : PrintedOut) → l.column ≡ x + (l.from - q) → l.end ≤ q + n →
      IsPrintedTo l.own x l.cells q n row d (ended_at l.fn.entries l.column row l.pen) l.from → IsPrintedTo l.own x l.cells q n row d (ended_at l.entries (l.column + l.k) row l.pen) (l.from + l.k);
}
