use Rattle.std.proofs.Common.{◌≡◌, ◌+◌, ◌<◌, ℕ, false}
use Rattle.termwiz_cell.specs.CellValue.{is_wide}
use Rattle.termwiz_storage.specs.Stored.{stored}
use Rattle.termwiz_screen.proofs.diff.runs.count_same.Given as goal

abbrev pub invariant-loop-k : goal.invariant-loop-k
invariant-loop-k l = record {
  same : (j : ℕ) → j < l.k → stored l.own (l.column + j) ≡ stored l.cells (l.from + j);
  narrow : (j : ℕ) → j < l.k → is_wide (stored l.cells (l.from + j)) ≡ false;
}
