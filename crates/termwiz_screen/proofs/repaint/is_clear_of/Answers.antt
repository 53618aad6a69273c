use Rattle.std.proofs.Common.{sym, ap, ◌∙◌}
use Rattle.termwiz_cell.specs.Attributes.{color_eq}
use Rattle.termwiz_cell.specs.ChangeValue.{change_value}
use Rattle.termwiz_screen.specs.Repaint.{is_clear_of}
use Rattle.termwiz_screen.proofs.Repaints.LastChanges.{plain_clear}
use Rattle.termwiz_screen.proofs.repaint.is_clear_of.Goals as goal

pub returns-in-ClearToEndOfLine : goal.returns-in-ClearToEndOfLine
returns-in-ClearToEndOfLine c =
    let color = c.in-ClearToEndOfLine.color in
    c.is_color.ensures ∙ ap (color_eq color) c.background.ensures
    ∙ plain_clear c.args.attrs.now color c.requires ∙ sym (ap (λ e. is_clear_of c.args.attrs.now (change_value e)) c.in-ClearToEndOfLine.is)
