use Rattle.std.proofs.Common.{ap, ◌∙◌, sym, map, lit<}
use Rattle.std.proofs.lemmas.Iterator.Consumers.{YieldsList-at, YieldsList-end}
use Rattle.std.proofs.lemmas.Iterator.Splits.{YieldsList-from_str_split}
use Rattle.termwiz_cell.specs.LinkPairs.{pair_of, params_from, with_pair}
use Rattle.termwiz_cell.proofs.ParamLists.{params_from-push, params_parts-some}
use Rattle.termwiz_cell.proofs.hyperlink.params.read_params.Goals as goal

pub loop-part-preserved : goal.loop-part-preserved
loop-part-preserved c =
    c.in_ok-put_pair.ensures
    ∙ ap (λ params. with_pair params (pair_of c.in-Some.part.now)) c.loop-part.invariant
    ∙ sym (params_from-push (λ x. x.now) c.loop-part.yielded c.in-Some.part)

pub returns : goal.returns
returns c =
    let road = YieldsList-at c.into_iter-part-iterator.ensures.into_iter_gives (YieldsList-from_str_split 58 c.args.text.now (lit< tt) c.split-part-items.ensures.text c.split-part-items.ensures.has_more c.split-part-items.ensures.pattern) in
    let all = YieldsList-end road c.loop-part.yielded c.loop-part.part-iterator c.loop-part.yielded_by c.next.result c.next.new.self c.in-None.is c.next.ensures.steps in
    c.loop-part.invariant
    ∙ ap (λ parts. params_from (map pair_of parts)) (all.0 ∙ sym (params_parts-some c.args.text.now c.if-is_empty.ensures))
