use Rattle.std.proofs.Common.{◌≡◌, ℕ, List, sym, subst}
use Rattle.termwiz_cell.specs.CellValue.{measured}
use Rattle.termwiz_cell.specs.Measure.{measure}
use Rattle.termwiz_screen.specs.Print.{printed_cell}
use Rattle.termwiz_screen.specs.Measured.{IsMeasured}
use Rattle.termwiz_cell.proofs.Graphemes.{single_same}
use Rattle.termwiz_screen.proofs.Measuring.{IsMeasured-measured}
use Rattle.termwiz_screen.proofs.print.printed_cell.Goals as goal

pub returns-clause-measured : goal.returns-clause-measured
returns-clause-measured g c =
    let f : List ℕ → ℕ = measure g.W.Widths.width_of c.args.widths.now in
    let text : List ℕ = c.args.grapheme.now in
    let made : c.in_ok-cell.cell ≡ measured f text c.in_ok-attrs.attrs = c.in_ok-cell.ensures.ok in
    let in_pen : c.in_ok-cell.cell ≡ measured f text c.args.pen.now = rw c.in_ok-attrs.ensures.cases at made in
    let alone : c.in_ok-cell.cell ≡ printed_cell f c.args.pen.now text = rw (← single_same text c.requires) at in_pen in
    subst (IsMeasured f) (sym alone) (IsMeasured-measured f text c.args.pen.now c.utf8.grapheme)
