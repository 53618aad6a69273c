use Rattle.std.proofs.Common.{◌≡◌, ◌++◌, map, take, length}
use Rattle.std.specs.List.{AllByRecursion, flat_map}
use Rattle.termwiz_cell.specs.ChangeValue.{change_value}
use Rattle.termwiz_wire.specs.Forms.{IsChange}
use Rattle.termwiz_wire.specs.Encoding.{change}
use Rattle.cbor.specs.Encoding.{array, Extends}
use Rattle.termwiz_cell.specs.Measure.{measure}
use Rattle.termwiz_wire.proofs.encode.changes.encode_changes_within.Given as goal

abbrev pub invariant-loop-value : goal.invariant-loop-value
invariant-loop-value g l = record {
  written : l.out.items ≡ (l.fn.out.items ++ array (length l.values)) ++ flat_map (change (measure g.W.Widths.width_of l.widths)) (map change_value (take l.value-index l.values));
  kept : Extends l.fn.out.items l.out.items;
  each : AllByRecursion (IsChange (measure g.W.Widths.width_of l.widths)) (map change_value (take l.value-index l.values));
}
