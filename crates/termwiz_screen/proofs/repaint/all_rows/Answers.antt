use Rattle.std.proofs.Common.{◌≡◌, List, map, length, sym, ap, ◌∙◌}
use Rattle.std.specs.VecDeque.{deque_len}
use Rattle.std.proofs.lemmas.Result.{IfOk-weaker}
use Rattle.termwiz_cell.specs.ChangeValue.{ChangeValue}
use Rattle.termwiz_line.specs.PennedValue.{penned_value}
use Rattle.termwiz_line.specs.Row.{row_of}
use Rattle.termwiz_line.specs.Writing.{behind}
use Rattle.termwiz_screen.specs.ScreenValue.{cells_of}
use Rattle.termwiz_screen.specs.Drawing.{AreApart, IsWrittenUpto}
use Rattle.termwiz_screen.specs.Repaint.{rows_upto, all_rows}
use Rattle.termwiz_screen.proofs.Lines.{length-cells_of}
use Rattle.termwiz_screen.proofs.RowChanges.Joined.{not_clearable}
use Rattle.termwiz_screen.proofs.repaint.all_rows.Goals as goal

pub returns : goal.returns
returns c =
    let w = c.args.width in
    let h = length (cells_of c.args.rows.now.items) in
    let long : h ≡ deque_len c.args.rows.now = length-cells_of c.args.rows.now.items ∙ sym c.args.rows.now.ok.0 in
    let rows = map (row_of w) (cells_of c.args.rows.now.items) in
    IfOk-weaker c.into_penned.result
    (λ drawn. penned_value drawn ≡ c.write_rows.new.writer.printed)
    (λ drawn. (first : List ChangeValue) → AreApart first → IsWrittenUpto first w rows 0 c.args.writer → penned_value drawn ≡ behind first (all_rows w h rows))
    (λ drawn e first apart none. e ∙ (c.in_ok-write_rows.ensures.upto first none).printed ∙ ap (λ j. behind first (rows_upto w rows j)) (c.len.ensures ∙ sym long)
    ∙ ap (behind first) (sym (not_clearable w h rows c.bottom_attrs-attrs.result.now c.bottom_attrs-attrs.ensures (sym c.is_clearable.ensures ∙ c.if-is_clearable.false))))
    c.into_penned.ensures
