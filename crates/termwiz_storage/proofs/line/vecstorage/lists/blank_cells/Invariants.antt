use Rattle.std.proofs.Common.{◌≡◌, ◌<◌, ◌≤◌, false}
use Rattle.termwiz_storage.specs.Used.{IsBlanked, OwnNothing}
use Rattle.termwiz_storage.proofs.line.vecstorage.lists.blank_cells.Given as goal

abbrev pub invariant-loop-i : goal.invariant-loop-i
invariant-loop-i l = record {
  blanked : IsBlanked l.from l.i l.initial.cells l.cells;
  unowned : l.owns ≡ false → OwnNothing l.cells;
  from : l.from ≤ l.i;
  upto : l.from < l.i → l.i ≤ l.to;
}
