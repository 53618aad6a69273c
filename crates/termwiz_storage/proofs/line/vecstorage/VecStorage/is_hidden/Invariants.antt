use Rattle.std.proofs.Common.{◌≡◌, ◌≤◌, cond, not}
use Rattle.termwiz_storage.specs.Stored.{hides}
use Rattle.termwiz_storage.proofs.line.vecstorage.VecStorage.is_hidden.Given as goal

-- the cells from the first one on, up to column i, are wide
abbrev pub invariant-loop-first : goal.invariant-loop-first
invariant-loop-first l = record {
  within : l.first ≤ l.i;
  parity : hides l.self-inside.cells.items l.i ≡ cond l.hidden (not (hides l.self-inside.cells.items l.first)) (hides l.self-inside.cells.items l.first);
}

abbrev pub decreases-loop-first : goal.decreases-loop-first
decreases-loop-first l = l.first
