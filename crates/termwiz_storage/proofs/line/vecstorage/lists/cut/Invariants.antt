use Rattle.std.proofs.Common.{◌≡◌, length, take}
use Rattle.termwiz_storage.proofs.line.vecstorage.lists.cut.Given as goal

-- the cells that are kept stay
abbrev pub invariant-loop-cells : goal.invariant-loop-cells
invariant-loop-cells l = take l.len l.cells.items ≡ take l.len l.initial.cells.items

abbrev pub decreases-loop-cells : goal.decreases-loop-cells
decreases-loop-cells l = length l.cells.items
