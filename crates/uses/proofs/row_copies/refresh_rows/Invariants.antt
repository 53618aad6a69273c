use Rattle.std.proofs.Common.{◌≡◌, ◌<◌, ◌≤◌, ℕ, length}
use Rattle.termwiz_surface.specs.{cells_of, row_at, row_of, shown_at}
use Rattle.uses.specs.RowCopies.{KeepsOthers}
use Rattle.uses.proofs.row_copies.refresh_rows.Given as goal

-- the rows before this one are copied where they may differ, and the others are as they were
abbrev pub invariant-loop-row : goal.invariant-loop-row
invariant-loop-row g l = record {
  all : length (cells_of l.copies) ≡ l.surface.height;
  done : (j : ℕ) → j < l.row → row_of l.surface.width (row_at (cells_of l.copies) j) ≡ shown_at l.surface j;
  left : (j : ℕ) → l.row ≤ j → row_at (cells_of l.copies) j ≡ row_at (cells_of l.fn.copies) j;
  kept : KeepsOthers l.since l.surface l.fn.copies l.copies;
}
