use Rattle.std.proofs.Common.{List, inl, inr, map, sym, ap, subst}
use Rattle.std.specs.Prelude.{option_map}
use Rattle.termwiz_cell.specs.ChangeValue.{ChangeValue, change_value}
use Rattle.termwiz_screen.specs.RegionValue.{region_value}
use Rattle.tikeburo_c.specs.Diffs.{IsWrittenDiff}
use Rattle.tikeburo_c.proofs.diffs.give_diff.Goals as goal

pub returns : goal.returns
returns c =
    let lent = sym (ap (map change_value) c.deref.ensures.value) in
    let is = subst (λ (cs : List ChangeValue). IsWrittenDiff (option_map region_value c.args.region) c.args.surface.now c.args.other.now cs) lent c.in_ok-changes.ensures in
    elim c.give_all.ensures [
      | inl refused ↦ inl refused
      | inr gives ↦ inr (record { changes = _; is_diff = is; gives = gives })
    ]
