use Rattle.std.proofs.Common.{map, ap, ◌∙◌}
use Rattle.termwiz_cell.specs.ChangeValue.{change_value, is_text}
use Rattle.termwiz_line.specs.GrowingText.{with_text}
use Rattle.termwiz_line.specs.LastChange.{last_is}
use Rattle.termwiz_line.proofs.LastChange.{last_pushed}
use Rattle.termwiz_line.proofs.entries.list.EntryList.push.Goals as goal

pub invariant_of-self-2 : goal.invariant_of-self-2
invariant_of-self-2 c =
    let e = c.self.inside in
    λ _. ap (last_is is_text) c.in_ok-push_behind.ensures.ok
    ∙ last_pushed is_text (with_text (map change_value e.pushed.items) e.grows e.text) (change_value c.args.entry) ∙ c.requires
