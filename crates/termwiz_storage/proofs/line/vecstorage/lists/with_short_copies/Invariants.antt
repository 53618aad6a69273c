use Rattle.std.proofs.Common.{◌≡◌, ◌≤◌, ◌+◌, ◌++◌, length, take}
use Rattle.std.specs.Prelude.{vec_capacity, vec_len}
use Rattle.termwiz_storage.proofs.line.vecstorage.lists.with_short_copies.Given as goal
use Rattle.termwiz_storage.specs.Used.{OwnNothing}

-- what is copied, and what is left, are all
abbrev pub invariant-fours : goal.invariant-fours
invariant-fours l = record {
  items : l.list.items ++ l.rest ≡ l.initial.list.items ++ l.cells;
  unowned : OwnNothing l.rest;
  room : vec_len l.list + length l.rest ≤ vec_capacity l.list;
}

abbrev pub decreases-fours : goal.decreases-fours
decreases-fours l = length l.rest

abbrev pub invariant-loop-cell : goal.invariant-loop-cell
invariant-loop-cell l = record {
  items : l.list.items ≡ l.initial.list.items ++ take l.cell-index l.cell-items;
  room : vec_len l.list + length l.cell-items ≤ vec_capacity l.list + l.cell-index;
}
