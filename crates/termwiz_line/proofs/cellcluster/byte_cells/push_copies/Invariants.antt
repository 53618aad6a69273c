use Rattle.std.proofs.Common.{◌≡◌, ◌++◌, replicate}
use Rattle.termwiz_line.proofs.cellcluster.byte_cells.push_copies.Given as goal

abbrev pub invariant-loop : goal.invariant-loop
invariant-loop l = l.cells.items ≡ l.initial.cells.items ++ replicate l.counter l.cell
