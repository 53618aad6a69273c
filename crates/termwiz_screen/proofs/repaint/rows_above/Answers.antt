use Rattle.std.proofs.Common.{◌≡◌, ◌-◌, ◌<◌, List, map, length, replicate, true, false, arith, sym, ap, ◌∙◌, subst}
use Rattle.std.specs.Cmp.Lexicographic.{pointwise}
use Rattle.termwiz_cell.specs.CellValue.{CellValue, blank_of, cell_eq}
use Rattle.termwiz_line.specs.Row.{row_of}
use Rattle.termwiz_screen.specs.Padding.{IsPaddable}
use Rattle.termwiz_screen.specs.Screen.{row_at}
use Rattle.termwiz_screen.specs.ScreenValue.{cells_of}
use Rattle.termwiz_screen.proofs.Lines.{length-cells_of, cells-read, row-read}
use Rattle.termwiz_screen.proofs.RowChanges.Joined.{first_blank-above, first_blank-here}
use Rattle.termwiz_screen.proofs.repaint.rows_above.Goals as goal

pub is_blank_row-requires-clause-paddable : goal.is_blank_row-requires-clause-paddable
is_blank_row-requires-clause-paddable c =
    let ls = c.args.rows.now.items in
    let i = c.loop-above.above - 1 in
    let inside : i < length ls = omega (arith, length-cells_of ls) in
    subst (IsPaddable c.args.width) (cells-read ls i c.index.result.now inside c.index.ensures) (c.requires.paddable.each i (omega (arith, length-cells_of ls)))

pub loop-above-preserved : goal.loop-above-preserved
loop-above-preserved c =
    let w = c.args.width in
    let ls = c.args.rows.now.items in
    let i = c.loop-above.above - 1 in
    let inside : i < length ls = omega (arith, length-cells_of ls) in
    let here : pointwise cell_eq (row_at (map (row_of w) (cells_of ls)) i) (replicate w (blank_of c.args.attrs.now)) ≡ true =
    ap (λ (r : List CellValue). pointwise cell_eq r (replicate w (blank_of c.args.attrs.now))) (row-read w ls i c.index.result.now inside c.index.ensures)
    ∙ sym c.is_blank_row.ensures ∙ c.if-is_blank_row.true in
    record {
      within = omega arith;
      below = first_blank-above w c.args.attrs.now (map (row_of w) (cells_of ls)) c.loop-above.above (omega arith) here ∙ c.loop-above.invariant.below;
    }

pub returns-else-is_blank_row-clause-above : goal.returns-else-is_blank_row-clause-above
returns-else-is_blank_row-clause-above c =
    let w = c.args.width in
    let ls = c.args.rows.now.items in
    let i = c.loop-above.above - 1 in
    let inside : i < length ls = omega (arith, length-cells_of ls) in
    let here : pointwise cell_eq (row_at (map (row_of w) (cells_of ls)) i) (replicate w (blank_of c.args.attrs.now)) ≡ false =
    ap (λ (r : List CellValue). pointwise cell_eq r (replicate w (blank_of c.args.attrs.now))) (row-read w ls i c.index.result.now inside c.index.ensures)
    ∙ sym c.is_blank_row.ensures ∙ c.if-is_blank_row.false in
    first_blank-here w c.args.attrs.now (map (row_of w) (cells_of ls)) c.loop-above.above (omega arith) here ∙ c.loop-above.invariant.below
