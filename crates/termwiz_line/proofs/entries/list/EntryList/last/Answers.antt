use Rattle.std.proofs.Common.{◌≡◌, ◌-◌, length, map, subst, None}
use Rattle.std.specs.Prelude.{slice_get}
use Rattle.std.specs.Option.{option_copied}
use Rattle.termwiz_cell.specs.ChangeValue.{change_value}
use Rattle.termwiz_line.specs.GrowingText.{IsLastOf}
use Rattle.termwiz_line.proofs.JoinedTexts.{no_last, last_of_pushed}
use Rattle.termwiz_line.proofs.entries.list.EntryList.last.Goals as goal

pub returns-then-self : goal.returns-then-self
returns-then-self c =
    let e = c.self.inside in
    subst (λ es. IsLastOf es None) c.self.view_is (no_last (map change_value e.pushed.items) e.grows e.text c.if-self.true)

pub returns : goal.returns
returns c =
    let e = c.self.inside in
    subst (λ es. IsLastOf es (option_copied c.last.result)) c.self.view_is
    (last_of_pushed e.pushed.items e.grows e.text (option_copied c.last.result) c.if-self.false
    (subst (λ xs. option_copied c.last.result ≡ slice_get xs (length xs - 1)) c.deref.ensures.value c.last.ensures.value))
