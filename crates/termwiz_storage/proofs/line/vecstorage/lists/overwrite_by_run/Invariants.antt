use Rattle.std.proofs.Common.{◌≡◌, false, map, take}
use Rattle.termwiz_cell.specs.CellValue.{plain_cell}
use Rattle.termwiz_storage.specs.Used.{OwnNothing}
use Rattle.termwiz_storage.proofs.line.vecstorage.lists.overwrite_by_run.Given as goal

-- the cells so far are those of the run so far
abbrev pub invariant-loop-k : goal.invariant-loop-k
invariant-loop-k l = record {
  written : take l.k l.cells ≡ map (λ b. plain_cell b l.attrs) (take l.k l.run);
  unowned : l.owns ≡ false → OwnNothing l.cells;
}
