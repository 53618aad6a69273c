use Rattle.std.proofs.Common.{◌≡◌, true, inl, inr, map, rules, subst}
use Rattle.termwiz_cell.specs.ChangeValue.{change_value}
use Rattle.termwiz_screen.specs.Printable.{ArePrintable}
use Rattle.termwiz_surface.specs.Measuring.{AreMeasured}
use Rattle.termwiz_surface.specs.Surface.{SurfaceValue}
use Rattle.tikeburo_c.specs.LineDrawing.{IsDrawing}
use Rattle.tikeburo_c.specs.Widths.{columns_by}
use Rattle.tikeburo_c.specs.declared.widths.ChosenWidths.{ChosenWidths}
use Rattle.tikeburo_c.proofs.LinesDrawn.{draws_line}
use Rattle.tikeburo_c.proofs.line_drawing.draw_line.Goals as goal

pub returns : goal.returns
returns c =
    let cells = c.args.line.now.cells in
    let is : c.measures.result ≡ true = search rules in
    let measured = subst (λ (s : SurfaceValue ChosenWidths). AreMeasured (columns_by s.widths) cells) c.surface.ensures.value (c.measures.ensures.measured.0 is) in
    let printable = subst (λ (s : SurfaceValue ChosenWidths). ArePrintable (columns_by s.widths) cells) c.surface.ensures.value (c.measures.ensures.printable is) in
    let drawing = subst (λ (s : SurfaceValue ChosenWidths). IsDrawing s c.args.row cells (map change_value c.in_ok-changes.changes.items)) c.surface-2.ensures.value c.in_ok-changes.ensures in
    inl (measured, inr (draws_line c.args.row cells c.args.surface.now c.add_changes.new.surface c.add_changes.result _ drawing printable c.add_changes.ensures))
