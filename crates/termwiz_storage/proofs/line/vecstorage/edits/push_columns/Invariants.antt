use Rattle.std.proofs.Common.{◌≡◌, ◌++◌}
use Rattle.termwiz_storage.specs.Edits.{columns_between}
use Rattle.termwiz_storage.proofs.Edits.{left}
use Rattle.termwiz_storage.proofs.line.vecstorage.edits.push_columns.Given as goal

-- what was pushed, and what the walk has left
abbrev pub invariant-loop-i : goal.invariant-loop-i
invariant-loop-i l = l.out.items ++ left l.from l.to l.i l.hidden l.cells ≡ l.initial.out.items ++ columns_between l.from l.to l.cells
