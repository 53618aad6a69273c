use Rattle.std.proofs.Common.{◌&&◌, map, ap, sym, ◌∙◌}
use Rattle.termwiz_text.specs.Plain.{is_plain_last}
use Rattle.termwiz_cell.specs.ChangeValue.{change_value}
use Rattle.termwiz_line.specs.GrowingText.{ends_printable}
use Rattle.termwiz_line.specs.LastChange.{last_is}
use Rattle.termwiz_line.proofs.JoinedTexts.{ends_where}
use Rattle.termwiz_line.proofs.entries.list.EntryList.ends_printable.Goals as goal

pub returns-then-self : goal.returns-then-self
returns-then-self c =
    let e = c.self.inside in
    c.ends_plain.ensures ∙ sym (ap (λ b. b && is_plain_last e.text) c.if-self.true) ∙ sym (ends_where (map change_value e.pushed.items) e.grows e.text c.self.invariant)
    ∙ ap (last_is ends_printable) c.self.view_is

pub returns-else-self : goal.returns-else-self
returns-else-self c =
    let e = c.self.inside in
    c.if-self.false ∙ sym (ap (λ b. b && is_plain_last e.text) c.if-self.false) ∙ sym (ends_where (map change_value e.pushed.items) e.grows e.text c.self.invariant)
    ∙ ap (last_is ends_printable) c.self.view_is
