use Rattle.std.proofs.Common.{arith}
use Rattle.termwiz_line.proofs.RowPainting.{clear_none}
use Rattle.termwiz_line.proofs.RowVisible.{visible_fixes}
use Rattle.termwiz_line.proofs.RowShows.{paint_row, paint_is_painted, clear_row, clear_is_cleared}
use Rattle.termwiz_line.proofs.laws.row_laws.Goals as goal

pub returns : goal.returns
returns c = record {
  paint = λ w r k x rr l. (paint_row w r k x rr l, paint_is_painted w r k x rr l);
  clear = λ w r k a rr l. (clear_row w r k a rr l, clear_is_cleared w r k a rr l);
  clear_past = λ w r k b rr l. clear_none r k b (omega (arith, rr.width));
  fixed = visible_fixes;
}
