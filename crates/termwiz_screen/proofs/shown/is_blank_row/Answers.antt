use Rattle.std.proofs.Common.{◌≡◌, ◌<◌, false, length, arith, refl, sym, ap, ◌∙◌}
use Rattle.std.proofs.lemmas.Bool.{and_left}
use Rattle.termwiz_cell.specs.CellValue.{blank_of, cell_eq}
use Rattle.termwiz_storage.specs.CellRef.{ref_cell}
use Rattle.termwiz_storage.specs.CellsLeft.{cells_left}
use Rattle.termwiz_screen.specs.Padding.{all_are}
use Rattle.termwiz_screen.proofs.ShownCells.{full_row_of, short_row_of}
use Rattle.termwiz_screen.proofs.shown.is_blank_row.Goals as goal

pub returns-then-len-width : goal.returns-then-len-width
returns-then-len-width c =
    let short : length c.args.row.now.cells < c.args.width = omega (arith, c.len.ensures) in
    sym (short_row_of c.args.width c.args.row.now.cells (blank_of c.args.attrs.now) c.requires.paddable c.requires.other short)

pub returns-then-not-is_blank_of : goal.returns-then-not-is_blank_of
returns-then-not-is_blank_of c =
    let full : length c.args.row.now.cells ≡ c.args.width = omega (arith, c.len.ensures, c.requires.paddable.within) in
    let other : cell_eq (ref_cell c.in-Some.shown) (blank_of c.args.attrs.now) ≡ false = sym c.is_blank_of.ensures ∙ c.if-not-is_blank_of.true in
    sym (ap (all_are (blank_of c.args.attrs.now)) c.in-Some.ensures.steps.0 ∙ and_left _ (all_are (blank_of c.args.attrs.now) (cells_left c.next.new.self)) other)
    ∙ c.loop-shown.invariant ∙ full_row_of c.args.width c.args.row.now.cells (blank_of c.args.attrs.now) c.requires.paddable refl full

pub returns : goal.returns
returns c =
    let full : length c.args.row.now.cells ≡ c.args.width = omega (arith, c.len.ensures, c.requires.paddable.within) in
    sym (ap (all_are (blank_of c.args.attrs.now)) c.in-None.ensures.steps.0)
    ∙ c.loop-shown.invariant ∙ full_row_of c.args.width c.args.row.now.cells (blank_of c.args.attrs.now) c.requires.paddable refl full
