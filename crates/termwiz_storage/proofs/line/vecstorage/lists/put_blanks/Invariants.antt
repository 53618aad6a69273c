use Rattle.std.proofs.Common.{◌≡◌, replicate}
use Rattle.termwiz_storage.specs.Stored.{put_run}
use Rattle.termwiz_storage.specs.Used.{OwnNothing}
use Rattle.termwiz_storage.proofs.line.vecstorage.lists.put_blanks.Given as goal

-- the first k blanks were put
abbrev pub invariant-loop-k : goal.invariant-loop-k
invariant-loop-k l = record {
  written : l.cells ≡ put_run l.from (replicate l.k 32) l.attrs l.initial.cells;
  unowned : OwnNothing l.cells;
}
