use Rattle.std.proofs.Common.{◌<◌, List, length, set, arith, sym, ap, ◌∙◌}
use Rattle.termwiz_cell.specs.CellValue.{CellValue}
use Rattle.termwiz_line.proofs.Fills.{on_err}
use Rattle.termwiz_storage.specs.Stored.{set_run}
use Rattle.termwiz_screen.specs.ScreenValue.{cells_of}
use Rattle.termwiz_screen.proofs.Lines.{cells-read, cells-set, cells-set_same}
use Rattle.termwiz_screen.proofs.Sides.{side-edited, side-unchanged, sides-set}
use Rattle.termwiz_screen.proofs.rows.paint_run.Goals as goal

pub returns-clause-ok : goal.returns-clause-ok
returns-clause-ok c =
    let rows = c.args.rows.now.items in
    let inside : c.args.y < length rows = omega (arith, c.requires.inside, c.args.rows.now.ok.0) in
    cells-set rows c.args.y c.set_run.new.self
    ∙ ap (set (cells_of rows) c.args.y) (c.in_ok-set_run.ensures.ok.cells_are ∙ ap (λ (cs : List CellValue). set_run c.args.x c.args.run.now c.args.pen.now cs) (sym (cells-read rows c.args.y c.index_mut.result.now inside c.index_mut.ensures.value)))

pub returns-in_err-set_run-clause-err : goal.returns-in_err-set_run-clause-err
returns-in_err-set_run-clause-err c =
    let rows = c.args.rows.now.items in
    let inside : c.args.y < length rows = omega (arith, c.requires.inside, c.args.rows.now.ok.0) in
    on_err _ (cells-set_same rows c.args.y c.index_mut.result.now c.set_run.new.self inside c.index_mut.ensures.value c.in_err-set_run.ensures.err.cells)

pub returns-clause-sides : goal.returns-clause-sides
returns-clause-sides c = sides-set c.args.rows.now.items c.args.y c.index_mut.result.now c.set_run.new.self (omega (arith, c.requires.inside, c.args.rows.now.ok.0)) c.index_mut.ensures.value (side-edited c.in_ok-set_run.ensures.ok)

pub returns-in_err-set_run-clause-sides : goal.returns-in_err-set_run-clause-sides
returns-in_err-set_run-clause-sides c = sides-set c.args.rows.now.items c.args.y c.index_mut.result.now c.set_run.new.self (omega (arith, c.requires.inside, c.args.rows.now.ok.0)) c.index_mut.ensures.value (side-unchanged c.in_err-set_run.ensures.err)
