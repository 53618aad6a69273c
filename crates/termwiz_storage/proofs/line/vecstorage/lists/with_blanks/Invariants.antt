use Rattle.std.proofs.Common.{◌≡◌, ◌-◌, ◌≤◌, ◌++◌, replicate, vec_capacity}
use Rattle.termwiz_cell.specs.CellValue.{blank}
use Rattle.termwiz_storage.proofs.line.vecstorage.lists.with_blanks.Given as goal

abbrev pub invariant-loop : goal.invariant-loop
invariant-loop l = record {
  items : l.cells.items ≡ l.initial.cells.items ++ replicate (l.counter - l.have) blank;
  room : l.len ≤ vec_capacity l.cells;
  capacity : vec_capacity l.cells ≡ vec_capacity l.initial.cells;
}
