use Rattle.std.proofs.Common.{◌≡◌, map, ◌++◌, ◌∷◌, [], cond, ap, sym, ◌∙◌}
use Rattle.std.proofs.lemmas.Result.{on_ok_weaker}
use Rattle.termwiz_cell.specs.ChangeValue as change
use Rattle.termwiz_cell.specs.ChangeValue.{change_value}
use Rattle.termwiz_line.specs.Entries.{add_text}
use Rattle.termwiz_line.specs.GrowingText.{with_text}
use Rattle.termwiz_line.proofs.JoinedTexts.{joined, apart}
use Rattle.termwiz_line.proofs.entries.list.EntryList.push_text.Goals as goal

pub returns-then-branch : goal.returns-then-branch
returns-then-branch c =
    let e = c.self.inside in
    let more = c.args.more.now in
    joined (map change_value e.pushed.items) e.grows e.text more c.join_text.new.text
    (sym c.in_ok-join_text.ensures.joins ∙ c.if-branch.true)
    (c.in_ok-join_text.ensures.grown ∙ ap (λ b. cond b (e.text ++ more) e.text) c.if-branch.true)
    ∙ ap (λ es. add_text es more) c.self.view_is

pub returns : goal.returns
returns c =
    let e = c.self.inside in
    let es = map change_value e.pushed.items in
    let more = c.args.more.now in
    let same : c.join_text.new.text ≡ e.text = c.in_ok-join_text.ensures.grown ∙ ap (λ b. cond b (e.text ++ more) e.text) c.if-branch.false in
    on_ok_weaker c.start_text.result
    (λ started. started ∙ ap (λ t. with_text es e.grows t ++ change.Text more ∷ []) same
    ∙ apart es e.grows e.text more (sym c.in_ok-join_text.ensures.joins ∙ c.if-branch.false) c.self.invariant
    ∙ ap (λ es. add_text es more) c.self.view_is)
    c.start_text.ensures
