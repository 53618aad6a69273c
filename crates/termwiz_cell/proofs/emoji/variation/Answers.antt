use Rattle.std.proofs.Common.{rules, tests}
use Rattle.std.proofs.lemmas.Iterator.{YieldsList-from_chars}
use Rattle.termwiz_cell.proofs.Selectors.{variation_of-find_map}
use Rattle.termwiz_cell.proofs.emoji.variation.Goals as goal

pub returns : goal.returns
returns c = variation_of-find_map _ _ (λ x r q k. search (rules, tests)) _ _ _ _ c.find_map.ensures.ran c.find_map.ensures.runs (YieldsList-from_chars c.args.text.now c.utf8.text cc)
