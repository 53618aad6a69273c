use Rattle.std.proofs.Common.{◌∷◌, [], map, ap, sym, ◌∙◌}
use Rattle.std.proofs.lemmas.Bool.{and_parts}
use Rattle.termwiz_text.specs.Plain.{is_plain_last}
use Rattle.termwiz_cell.specs.ChangeValue.{change_value}
use Rattle.termwiz_line.specs.Entries.{add_text}
use Rattle.termwiz_line.specs.GrowingText.{ends_printable, with_text}
use Rattle.termwiz_line.specs.LastChange.{last_is}
use Rattle.termwiz_line.proofs.JoinedTexts.{ends_where, plain_joined}
use Rattle.termwiz_line.proofs.entries.list.EntryList.push_plain.Goals as goal

pub push_plain-requires-clause-behind : goal.push_plain-requires-clause-behind
push_plain-requires-clause-behind c =
    let e = c.self.inside in
    let ends = ends_where (map change_value e.pushed.items) e.grows e.text c.self.invariant in
    (and_parts e.grows (is_plain_last e.text) (sym ends ∙ ap (last_is ends_printable) c.self.view_is ∙ c.requires.behind)).1

pub returns : goal.returns
returns c =
    let e = c.self.inside in
    let es = map change_value e.pushed.items in
    ap (with_text es e.grows) c.in_ok-push_plain.ensures.ok
    ∙ plain_joined es e.grows e.text c.args.byte c.self.invariant (ap (last_is ends_printable) c.self.view_is ∙ c.requires.behind) c.in_ok-push_plain.ensures.joins
    ∙ ap (λ es. add_text es (c.args.byte ∷ [])) c.self.view_is
