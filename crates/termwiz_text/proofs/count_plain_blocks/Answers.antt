use Rattle.std.proofs.Common.{sym, ◌∙◌}
use Rattle.termwiz_text.proofs.Plain.{block_more}
use Rattle.termwiz_text.proofs.count_plain_blocks.Goals as goal

pub loop-k-preserved : goal.loop-k-preserved
loop-k-preserved c = block_more c.args.bytes.now c.loop-k.k c.loop-k.invariant (sym c.are_plain.ensures ∙ c.if-not-are_plain.false)
