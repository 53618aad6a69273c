use Rattle.std.proofs.Common.{◌≡◌}
use Rattle.termwiz_storage.proofs.line.vecstorage.lists.own_links.Given as goal

-- each cell is as it was
abbrev pub invariant-loop-cell : goal.invariant-loop-cell
invariant-loop-cell l = l.cells ≡ l.fn.cells
