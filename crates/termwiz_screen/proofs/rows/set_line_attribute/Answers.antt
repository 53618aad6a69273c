use Rattle.std.proofs.Common.{◌<◌, length, arith}
use Rattle.termwiz_screen.specs.Kept.{with_line_attribute}
use Rattle.termwiz_screen.proofs.Lines.{cells-set_same}
use Rattle.termwiz_screen.proofs.Sides.{flags-set}
use Rattle.termwiz_screen.proofs.rows.set_line_attribute.Goals as goal

pub returns-clause-cells : goal.returns-clause-cells
returns-clause-cells c =
    let rows = c.args.rows.now.items in
    let inside : c.args.y < length rows = omega (arith, c.requires, c.args.rows.now.ok.0) in
    cells-set_same rows c.args.y c.index_mut.result.now c.show_line.new.line inside c.index_mut.ensures.value c.show_line.ensures.cells

pub returns-clause-flags : goal.returns-clause-flags
returns-clause-flags c =
    let rows = c.args.rows.now.items in
    let inside : c.args.y < length rows = omega (arith, c.requires, c.args.rows.now.ok.0) in
    flags-set rows c.args.y c.index_mut.result.now c.show_line.new.line (with_line_attribute c.args.attribute) inside c.index_mut.ensures.value c.show_line.ensures.flags
