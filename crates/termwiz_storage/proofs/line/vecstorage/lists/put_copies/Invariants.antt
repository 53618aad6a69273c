use Rattle.std.proofs.Common.{◌≡◌, false, replicate}
use Rattle.termwiz_storage.specs.Stored.{put_run}
use Rattle.termwiz_storage.specs.Used.{OwnNothing}
use Rattle.termwiz_storage.proofs.line.vecstorage.lists.put_copies.Given as goal

-- the first k copies were put
abbrev pub invariant-loop-k : goal.invariant-loop-k
invariant-loop-k l = record {
  written : l.cells ≡ put_run l.from (replicate l.k l.byte) l.attrs l.initial.cells;
  unowned : l.owns ≡ false → OwnNothing l.cells;
}
