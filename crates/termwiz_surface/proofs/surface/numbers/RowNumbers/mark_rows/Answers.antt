use Rattle.std.proofs.Common.{arith, ◌∙◌}
use Rattle.termwiz_surface.proofs.RowNumbers.{marked-more, marked-whole}
use Rattle.termwiz_surface.proofs.surface.numbers.RowNumbers.mark_rows.Goals as goal

pub returns-then-count-len-clause-marked : goal.returns-then-count-len-clause-marked
returns-then-count-len-clause-marked c = marked-whole c.args.first c.args.count _ c.args.number _ _ (omega arith) c.requires c.mark_all.ensures.marked

pub loop-row-preserved : goal.loop-row-preserved
loop-row-preserved c = record {
  marked = marked-more _ _ _ c.args.first c.loop-row.row c.args.number (omega arith) c.loop-row.invariant.marked c.mark_row.ensures.marked;
  len = c.mark_row.ensures.len ∙ c.loop-row.invariant.len;
}
