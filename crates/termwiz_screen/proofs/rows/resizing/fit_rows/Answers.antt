use Rattle.std.proofs.Common.{sym, arith}
use Rattle.termwiz_screen.proofs.AlikeRows.{all_cut_alike, all_stay_alike}
use Rattle.termwiz_screen.proofs.rows.resizing.fit_rows.Goals as goal

pub cut_rows-requires : goal.cut_rows-requires
cut_rows-requires c = all_cut_alike c.in-Some.len c.args.width c.args.rows.now (omega arith) c.in-Some.ensures

pub returns-else-width-len-clause-ok : goal.returns-else-width-len-clause-ok
returns-else-width-len-clause-ok c = sym (all_stay_alike c.in-Some.len c.args.width c.args.rows.now (omega arith) c.in-Some.ensures)
