use Rattle.std.proofs.Common.{◌+◌, ◌<◌, fold, map, length, arith, sym, ap₂, ◌∙◌, subst}
use Rattle.termwiz_line.specs.Row.{HasHalves, row_of}
use Rattle.termwiz_screen.specs.Diff.{in_row, print_out, row_need}
use Rattle.termwiz_screen.specs.RegionValue.{region_value}
use Rattle.termwiz_screen.specs.ScreenValue.{cells_of}
use Rattle.termwiz_screen.proofs.Lines.{cells-read, row-read, length-cells_of}
use Rattle.termwiz_screen.proofs.Diffs.NeededRows.{more_rows}
use Rattle.termwiz_screen.proofs.diff.rows.print_rows.Goals as goal

pub loop-i-preserved : goal.loop-i-preserved
loop-i-preserved c = λ v w h a b.
    let r = c.args.region in
    let i = c.loop-i.i in
    let own = c.args.own.now.items in
    let other = c.args.other.now.items in
    let own_in : r.y + i < length own = omega (arith, c.requires.own_rows, c.loop-i-test.true) in
    let other_in : r.other_y + i < length other = omega (arith, c.requires.other_rows, c.loop-i-test.true) in
    let halves : HasHalves v c.index.result.now.cells = subst (HasHalves v) (cells-read own (r.y + i) c.index.result.now own_in c.index.ensures) (h.each (r.y + i) (omega (arith, own_in, length-cells_of own))) in
    more_rows (map (row_of v) (cells_of own)) (map (row_of w) (cells_of other)) (region_value r) i c.args.writer.now c.loop-i.writer c.print_row.new.writer (c.loop-i.invariant v w h a b)
    (c.in_ok-print_row.ensures v w halves a b
    ∙ ap₂ (λ p q. fold print_out c.loop-i.writer (map (in_row (r.y + i)) (row_need p r.x q r.other_x r.width)))
    (sym (row-read v own (r.y + i) c.index.result.now own_in c.index.ensures)) (sym (row-read w other (r.other_y + i) c.index-in-loop-i.result.now other_in c.index-in-loop-i.ensures)))
