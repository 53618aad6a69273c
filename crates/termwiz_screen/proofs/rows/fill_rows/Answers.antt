use Rattle.std.proofs.Common.{◌≡◌, ◌<◌, length, slice_set, subst, sym, ◌∙◌, arith}
use Rattle.termwiz_line.proofs.Fills.{on_err}
use Rattle.termwiz_screen.specs.Rows.{ArePartly}
use Rattle.termwiz_screen.specs.Screen.{row_at}
use Rattle.termwiz_screen.specs.ScreenValue.{cells_of}
use Rattle.termwiz_screen.proofs.Lines.{length-cells_of, cells-read, cells-set}
use Rattle.termwiz_screen.proofs.RowChanges.Filling.{filling-more, filling-partly, filling-all}
use Rattle.termwiz_screen.proofs.Sides.{sides-set, sides-more}
use Rattle.termwiz_screen.proofs.rows.fill_rows.Goals as goal

pub loop-j-init : goal.loop-j-init
loop-j-init c = record { filled = c.in_ok-fill_row.ensures.ok; sides = c.in_ok-fill_row.ensures.sides }

pub fill_line-requires : goal.fill_line-requires
fill_line-requires c =
    let rows = c.loop-j.rows.items in
    let inside : c.loop-j.j < length rows = omega (arith, c.loop-j.invariant.filled.same_count, c.in_ok-fill_row.ensures.ok.same_count, length-cells_of rows, length-cells_of c.args.rows.now.items, length-cells_of c.fill_row.new.rows.items, c.fill_row.new.rows.ok.0) in
    let same : row_at (cells_of c.args.rows.now.items) c.loop-j.j ≡ c.index_mut.result.now.cells = sym (c.loop-j.invariant.filled.left c.loop-j.j (omega arith)) ∙ cells-read rows c.loop-j.j c.index_mut.result.now inside c.index_mut.ensures.value in
    subst (λ cs. 0 < length cs) same (c.requires.some c.loop-j.j (omega (arith, c.loop-j.invariant.filled.same_count, length-cells_of rows, length-cells_of c.args.rows.now.items, c.args.rows.now.ok.0)))

pub returns-clause-ok : goal.returns-clause-ok
returns-clause-ok c =
    filling-all c.args.width c.args.x c.args.y c.loop-j.j c.args.cell.now (cells_of c.args.rows.now.items) (cells_of c.loop-j.rows.items)
    (omega (arith, c.loop-j.invariant.filled.same_count, c.in_ok-fill_row.ensures.ok.same_count, length-cells_of c.args.rows.now.items, length-cells_of c.loop-j.rows.items, length-cells_of c.fill_row.new.rows.items, c.fill_row.new.rows.ok.0))
    c.loop-j.invariant.filled

pub returns-clause-sides : goal.returns-clause-sides
returns-clause-sides c = c.loop-j.invariant.sides

pub returns-in_err-fill_line-clause-err : goal.returns-in_err-fill_line-clause-err
returns-in_err-fill_line-clause-err c = λ l.
    let rows = c.loop-j.rows.items in
    let long : length (cells_of rows) ≡ length rows = length-cells_of rows in
    let inside : c.loop-j.j < length rows = omega (arith, c.loop-j.invariant.filled.same_count, c.in_ok-fill_row.ensures.ok.same_count, length-cells_of c.args.rows.now.items, length-cells_of c.fill_row.new.rows.items, c.fill_row.new.rows.ok.0) in
    let at : row_at (cells_of rows) c.loop-j.j ≡ c.index_mut.result.now.cells = cells-read rows c.loop-j.j c.index_mut.result.now inside c.index_mut.ensures.value in
    let done : ArePartly c.args.width c.args.cell.now (cells_of c.args.rows.now.items) (cells_of (slice_set rows c.loop-j.j c.fill_line.new.line)) =
    rw (cells-set rows c.loop-j.j c.fill_line.new.line)
    (filling-partly c.args.width c.args.x c.args.y c.loop-j.j c.args.cell.now (cells_of c.args.rows.now.items) (cells_of rows) c.fill_line.new.line.cells l (omega arith) (omega arith) c.loop-j.invariant.filled (rw at (c.in_err-fill_line.ensures.err (omega arith)))) in
    on_err _ done

pub returns-in_err-fill_line-clause-sides : goal.returns-in_err-fill_line-clause-sides
returns-in_err-fill_line-clause-sides c =
    let rows = c.loop-j.rows.items in
    let inside : c.loop-j.j < length rows = omega (arith, c.loop-j.invariant.filled.same_count, c.in_ok-fill_row.ensures.ok.same_count, length-cells_of rows, length-cells_of c.args.rows.now.items, length-cells_of c.fill_row.new.rows.items, c.fill_row.new.rows.ok.0) in
    sides-more c.loop-j.invariant.sides (sides-set rows c.loop-j.j c.index_mut.result.now c.fill_line.new.line inside c.index_mut.ensures.value c.in_err-fill_line.ensures.side)

pub loop-j-preserved : goal.loop-j-preserved
loop-j-preserved c =
    let rows = c.loop-j.rows.items in
    let long : length (cells_of rows) ≡ length rows = length-cells_of rows in
    let inside : c.loop-j.j < length rows = omega (arith, c.loop-j.invariant.filled.same_count, c.in_ok-fill_row.ensures.ok.same_count, length-cells_of c.args.rows.now.items, length-cells_of c.fill_row.new.rows.items, c.fill_row.new.rows.ok.0) in
    let at : row_at (cells_of rows) c.loop-j.j ≡ c.index_mut.result.now.cells = cells-read rows c.loop-j.j c.index_mut.result.now inside c.index_mut.ensures.value in
    record {
      filled = rw (cells-set rows c.loop-j.j c.fill_line.new.line)
          (filling-more c.args.width c.args.x c.args.y c.loop-j.j c.args.cell.now (cells_of c.args.rows.now.items) (cells_of rows) c.fill_line.new.line.cells (omega arith) (omega arith) c.loop-j.invariant.filled (rw at c.in_ok-fill_line.ensures.ok));
      sides = sides-more c.loop-j.invariant.sides (sides-set rows c.loop-j.j c.index_mut.result.now c.fill_line.new.line inside c.index_mut.ensures.value c.in_ok-fill_line.ensures.side);
    }
