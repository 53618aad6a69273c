use Rattle.std.proofs.Common.{ℕ, ◌≡◌, ◌≤◌, length}
use Rattle.termwiz_cell.specs.CellValue.{blank}
use Rattle.termwiz_storage.specs.Stored.{stored}
use Rattle.termwiz_storage.proofs.line.vecstorage.VecStorage.filled_len.Given as goal

abbrev pub invariant-loop-end : goal.invariant-loop-end
invariant-loop-end l = record {
  within : l.end ≤ length l.self;
  rest : (x : ℕ) → l.end ≤ x → stored l.self x ≡ blank;
}

abbrev pub decreases-loop-end : goal.decreases-loop-end
decreases-loop-end l = l.end
