use Rattle.std.proofs.Common.{◌≡◌, ◌<◌, length, slice_set, arith}
use Rattle.termwiz_line.proofs.Fills.{on_err}
use Rattle.termwiz_screen.specs.Rows.{ArePartly}
use Rattle.termwiz_screen.specs.Screen.{row_at}
use Rattle.termwiz_screen.specs.ScreenValue.{cells_of}
use Rattle.termwiz_screen.proofs.Lines.{length-cells_of, cells-read, cells-set}
use Rattle.termwiz_screen.proofs.RowChanges.Filling.{filled-set, partly-set}
use Rattle.termwiz_screen.proofs.Sides.{sides-set}
use Rattle.termwiz_screen.proofs.rows.fill_row.Goals as goal

pub returns-in_err-fill_line-clause-err : goal.returns-in_err-fill_line-clause-err
returns-in_err-fill_line-clause-err c = λ l.
    let rows = c.args.rows.now.items in
    let inside : c.args.y < length rows = omega (arith, c.requires.inside, c.args.rows.now.ok.0) in
    let at : row_at (cells_of rows) c.args.y ≡ c.index_mut.result.now.cells = cells-read rows c.args.y c.index_mut.result.now inside c.index_mut.ensures.value in
    let done : ArePartly c.args.width c.args.cell.now (cells_of rows) (cells_of (slice_set rows c.args.y c.fill_line.new.line)) =
    rw (cells-set rows c.args.y c.fill_line.new.line)
    (partly-set c.args.width c.args.y c.args.cell.now (cells_of rows) c.fill_line.new.line.cells (omega (arith, length-cells_of rows)) (rw at (c.in_err-fill_line.ensures.err l))) in
    on_err _ done

pub returns-clause-ok : goal.returns-clause-ok
returns-clause-ok c =
    let rows = c.args.rows.now.items in
    let inside : c.args.y < length rows = omega (arith, c.requires.inside, c.args.rows.now.ok.0) in
    let at : row_at (cells_of rows) c.args.y ≡ c.index_mut.result.now.cells = cells-read rows c.args.y c.index_mut.result.now inside c.index_mut.ensures.value in
    rw (cells-set rows c.args.y c.fill_line.new.line)
    (filled-set c.args.width c.args.x c.args.y c.args.cell.now (cells_of rows) c.fill_line.new.line.cells (omega (arith, length-cells_of rows)) (rw at c.in_ok-fill_line.ensures.ok))

pub returns-clause-sides : goal.returns-clause-sides
returns-clause-sides c = sides-set c.args.rows.now.items c.args.y c.index_mut.result.now c.fill_line.new.line (omega (arith, c.requires.inside, c.args.rows.now.ok.0)) c.index_mut.ensures.value c.in_ok-fill_line.ensures.side

pub returns-in_err-fill_line-clause-sides : goal.returns-in_err-fill_line-clause-sides
returns-in_err-fill_line-clause-sides c = sides-set c.args.rows.now.items c.args.y c.index_mut.result.now c.fill_line.new.line (omega (arith, c.requires.inside, c.args.rows.now.ok.0)) c.index_mut.ensures.value c.in_err-fill_line.ensures.side
