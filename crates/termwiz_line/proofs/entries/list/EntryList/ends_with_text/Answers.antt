use Rattle.std.proofs.Common.{map, ap, ◌∙◌}
use Rattle.termwiz_cell.specs.ChangeValue.{change_value, is_text}
use Rattle.termwiz_line.specs.LastChange.{last_is}
use Rattle.termwiz_line.proofs.JoinedTexts.{ends_growing}
use Rattle.termwiz_line.proofs.entries.list.EntryList.ends_with_text.Goals as goal

pub returns : goal.returns
returns c =
    let e = c.self.inside in
    ends_growing (map change_value e.pushed.items) e.grows e.text c.self.invariant ∙ ap (last_is is_text) c.self.view_is
