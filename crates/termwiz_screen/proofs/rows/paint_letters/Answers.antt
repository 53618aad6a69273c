use Rattle.std.proofs.Common.{◌<◌, List, length, set, arith, sym, ap, ◌∙◌}
use Rattle.std.specs.Str.{chars}
use Rattle.termwiz_cell.specs.CellValue.{CellValue}
use Rattle.termwiz_line.proofs.Fills.{on_err}
use Rattle.termwiz_storage.specs.Letters.{set_letters}
use Rattle.termwiz_screen.specs.ScreenValue.{cells_of}
use Rattle.termwiz_screen.proofs.Lines.{cells-read, cells-set, cells-set_same}
use Rattle.termwiz_screen.proofs.Sides.{side-edited, side-unchanged, sides-set}
use Rattle.termwiz_screen.proofs.rows.paint_letters.Goals as goal

pub returns-clause-ok : goal.returns-clause-ok
returns-clause-ok c =
    let rows = c.args.rows.now.items in
    let inside : c.args.y < length rows = omega (arith, c.requires.inside, c.args.rows.now.ok.0) in
    cells-set rows c.args.y c.set_letters.new.self
    ∙ ap (set (cells_of rows) c.args.y) (c.in_ok-set_letters.ensures.ok.cells_are ∙ ap (λ (cs : List CellValue). set_letters c.args.x (chars c.args.run.now) c.args.pen.now cs) (sym (cells-read rows c.args.y c.index_mut.result.now inside c.index_mut.ensures.value)))

pub returns-in_err-set_letters-clause-err : goal.returns-in_err-set_letters-clause-err
returns-in_err-set_letters-clause-err c =
    let rows = c.args.rows.now.items in
    let inside : c.args.y < length rows = omega (arith, c.requires.inside, c.args.rows.now.ok.0) in
    on_err _ (cells-set_same rows c.args.y c.index_mut.result.now c.set_letters.new.self inside c.index_mut.ensures.value c.in_err-set_letters.ensures.err.cells)

pub returns-clause-sides : goal.returns-clause-sides
returns-clause-sides c = sides-set c.args.rows.now.items c.args.y c.index_mut.result.now c.set_letters.new.self (omega (arith, c.requires.inside, c.args.rows.now.ok.0)) c.index_mut.ensures.value (side-edited c.in_ok-set_letters.ensures.ok)

pub returns-in_err-set_letters-clause-sides : goal.returns-in_err-set_letters-clause-sides
returns-in_err-set_letters-clause-sides c = sides-set c.args.rows.now.items c.args.y c.index_mut.result.now c.set_letters.new.self (omega (arith, c.requires.inside, c.args.rows.now.ok.0)) c.index_mut.ensures.value (side-unchanged c.in_err-set_letters.ensures.err)
