use Rattle.std.proofs.Common.{◌&&◌, sym, ap, ◌∙◌}
use Rattle.std.proofs.lemmas.Result.{IfOk-weaker}
use Rattle.termwiz_line.specs.Entries.{joins}
use Rattle.termwiz_line.proofs.JoinedTexts.{joins_is}
use Rattle.termwiz_line.proofs.entries.list.join_text.Goals as goal

pub returns-clause-joins : goal.returns-clause-joins
returns-clause-joins c =
    IfOk-weaker c.join.result _ _
    (λ joined h. joins_is joined _ _ h ∙ sym (ap (λ b. b && joins c.args.text.now c.args.more.now) c.if-not-grows.false))
    c.join.ensures.joins
