use Rattle.std.proofs.Common.{◌≡◌, ◌-◌, length, arith, sym, ap, ◌∙◌}
use Rattle.termwiz_cell.specs.CellValue.{CellValue}
use Rattle.termwiz_line.specs.Entries.{pen_behind}
use Rattle.termwiz_screen.proofs.ShownCells.{past_blank, last_column}
use Rattle.termwiz_screen.proofs.shown.last_attrs.Goals as goal

pub returns-in-None : goal.returns-in-None
returns-in-None c =
    let row = c.args.row.now.cells in
    let full : length row ≡ c.args.width = sym c.len.ensures ∙ c.if-len-width.true in
    sym (ap (pen_behind c.loop-cell.attrs.now) c.in-None.ensures.steps.0)
    ∙ c.loop-cell.invariant ∙ last_column c.args.width row c.args.padding.now.attrs c.requires.paddable c.requires.some_column full

pub returns-else-len-width : goal.returns-else-len-width
returns-else-len-width c =
    let row = c.args.row.now.cells in
    let stored : c.len.result ≡ length row = c.len.ensures in
    c.attrs-attrs.ensures
    ∙ ap (λ (cell : CellValue). cell.attrs) (c.requires.blank ∙ sym (past_blank c.args.width row c.requires.paddable (c.args.width - 1) (omega (arith, c.requires.paddable.within)) (omega arith)))
