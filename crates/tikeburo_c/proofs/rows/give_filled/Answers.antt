use Rattle.std.proofs.Common.{subst}
use Rattle.tikeburo_c.specs.Results.{OrNoMemory}
use Rattle.tikeburo_c.specs.Rows.{GivesParts, row_place, row_value}
use Rattle.tikeburo_c.proofs.ShownRow.{is_filled}
use Rattle.tikeburo_c.proofs.rows.give_filled.Goals as goal

pub returns : goal.returns
returns c = subst (λ ps. OrNoMemory (GivesParts (row_value ps)) (row_place c.args.cells.now c.args.attributes.now c.args.text.now c.args.counts.now) c.give_parts.result (row_place c.give_parts.new.cells c.give_parts.new.attributes c.give_parts.new.text c.give_parts.new.counts)) (is_filled c.args.width c.args.stored.now c.requires) c.give_parts.ensures
