use Rattle.std.proofs.Common.{◌≡◌, ◌*◌, false, drop}
use Rattle.std.specs.Str.{chars}
use Rattle.termwiz_storage.specs.Letters.{put_letters}
use Rattle.termwiz_storage.specs.Used.{OwnNothing}
use Rattle.termwiz_storage.proofs.line.vecstorage.lists.overwrite_by_letters.Given as goal

-- what is left to write leads to the whole run
abbrev pub invariant-loop-k : goal.invariant-loop-k
invariant-loop-k l = record {
  written : put_letters (2 * l.k) (drop l.k (chars l.run)) l.attrs l.cells ≡ put_letters 0 (chars l.run) l.attrs l.initial.cells;
  unowned : l.owns ≡ false → OwnNothing l.cells;
}
