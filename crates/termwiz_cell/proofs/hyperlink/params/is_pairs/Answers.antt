use Rattle.std.proofs.Common.{ap, ◌∙◌, sym, lit<, rules, tests}
use Rattle.std.proofs.lemmas.Iterator.Search.{all_from_yields_List}
use Rattle.std.proofs.lemmas.Iterator.Splits.{YieldsList-from_str_split}
use Rattle.std.specs.List.{list_all}
use Rattle.termwiz_cell.specs.LinkPairs.{has_equals}
use Rattle.termwiz_cell.proofs.ParamLists.{params_parts-some}
use Rattle.termwiz_cell.proofs.hyperlink.params.is_pairs.Goals as goal

pub returns-else-is_empty : goal.returns-else-is_empty
returns-else-is_empty c =
    all_from_yields_List has_equals _ _ _ c.all.ensures.ran (YieldsList-from_str_split 58 c.args.text.now (lit< tt) c.split.ensures.text c.split.ensures.has_more c.split.ensures.pattern) (λ x b q k. search (rules, tests))
    ∙ ap (list_all has_equals) (sym (params_parts-some c.args.text.now c.if-is_empty.ensures))
