use Rattle.termwiz_line.proofs.Fills.{on_err}
use Rattle.termwiz_screen.proofs.RowChanges.Fills.{IsPartly-part}
use Rattle.termwiz_screen.proofs.rows.fill_line.Goals as goal

pub returns-in_err-fill_range-clause-err : goal.returns-in_err-fill_range-clause-err
returns-in_err-fill_range-clause-err c = λ l. on_err _ (IsPartly-part c.args.to c.args.from 0 c.args.cell.now c.args.line.now c.fill_range.new.self l c.in_err-fill_range.ensures.err)
