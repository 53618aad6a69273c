use Rattle.std.proofs.Common.{◌≡◌, ◌<◌, ℕ, suc, true}
use Rattle.termwiz_cell.specs.CellValue.{half}
use Rattle.termwiz_storage.specs.Stored.{hides, stored}
use Rattle.termwiz_storage.proofs.line.clusterline.is_whole.Given as goal

abbrev pub invariant-loop-i : goal.invariant-loop-i
invariant-loop-i l = record {
  hidden : l.hidden ≡ hides l.cells l.i;
  halves : (k : ℕ) → suc k < l.i → hides l.cells (suc k) ≡ true → stored l.cells (suc k) ≡ half (stored l.cells k);
}
