use Rattle.std.proofs.Common.{◌≡◌, ◌<◌, ℕ}
use Rattle.termwiz_storage.specs.Stored.{stored}
use Rattle.termwiz_storage.proofs.line.vecstorage.are_same.Given as goal

-- the cells so far are the same
abbrev pub invariant-loop-i : goal.invariant-loop-i
invariant-loop-i l = (k : ℕ) → k < l.i → stored l.cells k ≡ stored l.others k
