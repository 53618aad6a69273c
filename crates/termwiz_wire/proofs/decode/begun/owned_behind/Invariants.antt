use Rattle.std.proofs.Common.{◌≡◌, ◌++◌, map}
use Rattle.termwiz_cell.specs.ChangeValue.{change_value}
use Rattle.termwiz_surface.specs.Unlogged.{lent_value}
use Rattle.termwiz_wire.proofs.decode.begun.owned_behind.Given as goal

abbrev pub invariant-loop-change : goal.invariant-loop-change
invariant-loop-change l = record {
  so_far : map change_value l.changes.items ≡ map change_value l.fn.begun.items ++ map lent_value l.yielded;
  left : l.yielded ++ l.change-iterator.rest.items ≡ l.fn.more.items;
}
