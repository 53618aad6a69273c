use Rattle.std.proofs.Common.{◌≡◌, List, suc, ◌+◌, ◌-◌, ◌<◌, true, cond, map, length, arith, add-one, sym, ap, ◌∙◌, ◌≤◌}
use Rattle.std.specs.Option.{option_copied}
use Rattle.std.specs.VecDeque.{deque_len}
use Rattle.std.proofs.lemmas.Bool.{and_parts, not-true}
use Rattle.std.proofs.lemmas.Result.{IfOk-weaker}
use Rattle.termwiz_cell.specs.Attributes.{has_only_background}
use Rattle.termwiz_cell.specs.ChangeValue.{ChangeValue}
use Rattle.termwiz_line.specs.Entries.{Penned}
use Rattle.termwiz_line.specs.LastChange.{last_is}
use Rattle.termwiz_line.specs.PennedValue.{penned_value}
use Rattle.termwiz_line.specs.Row.{row_of}
use Rattle.termwiz_line.specs.Writing.{behind}
use Rattle.termwiz_screen.specs.ScreenValue.{cells_of}
use Rattle.termwiz_screen.specs.Drawing.{clears, AreApart, IsWrittenUpto}
use Rattle.termwiz_screen.specs.Repaint.{first_blank, ends_with, is_clear_of, rows_upto, all_rows}
use Rattle.termwiz_screen.proofs.Lines.{length-cells_of}
use Rattle.termwiz_screen.proofs.Repaints.LastChanges.{clears_is, ends_behind_first}
use Rattle.termwiz_screen.proofs.Repaints.Bottom.{first_blank_same, joined_ends}
use Rattle.termwiz_screen.proofs.RowChanges.Joined.{row_before, cleared_below, cleared_behind, joined, apart}
use Rattle.termwiz_screen.proofs.repaint.joined_rows.Goals as goal
use Rattle.termwiz_screen.proofs.repaint.joined_rows.Goals.{else-above-len-via-then-above-len+else-joined-len, else-above-len-via-else-above-len}

pub rows_above-above-requires-clause-other : goal.rows_above-above-requires-clause-other
rows_above-above-requires-clause-other c = not-true _ (and_parts (has_only_background c.args.attrs.now) _ c.requires.clearable).1

pub write_rows-requires-then-joined-len-clause-order : goal.write_rows-requires-then-joined-len-clause-order
write_rows-requires-then-joined-len-clause-order c = omega (arith, c.joined_row-joined.ensures, row_before (clears c.args.attrs.now (option_copied c.last.result)) c.rows_above-above.result)

pub returns-then-joined-len : goal.returns-then-joined-len
returns-then-joined-len c =
    let w = c.args.width in
    let h = length (cells_of c.args.rows.now.items) in
    let long : h ≡ deque_len c.args.rows.now = length-cells_of c.args.rows.now.items ∙ sym c.args.rows.now.ok.0 in
    let rows = map (row_of w) (cells_of c.args.rows.now.items) in
    let attrs = c.args.attrs.now in
    let above = c.rows_above-above.result in
    let row = c.joined_row-joined.result in
    let upto = rows_upto w rows (row + 1) in
    let is_above = c.rows_above-above.ensures.above in
    let parts = and_parts (has_only_background attrs) _ c.requires.clearable in
    let first : first_blank w attrs rows h ≤ above = omega (arith, is_above) in
    let inside : above < h = omega (arith, long) in
    IfOk-weaker c.clear_below.result
    (λ drawn. penned_value drawn ≡ cleared_below attrs (penned_value c.in_ok-drawn.drawn))
    (λ drawn. (first : List ChangeValue) → AreApart first → IsWrittenUpto first w rows 0 c.args.writer → penned_value drawn ≡ behind first (all_rows w h rows))
    (λ drawn e before apart_so none.
    let upper = c.in_ok-write_rows.ensures.upto before none in
    let clears_above = clears_is attrs c.write_rows.new.writer.printed.entries (option_copied c.last.result) c.last.ensures
    ∙ ap (λ (d : Penned). last_is (is_clear_of attrs) d.entries) upper.printed ∙ ends_behind_first attrs before (rows_upto w rows above).entries apart_so in
    let is_joined = c.joined_row-joined.ensures ∙ ap (λ b. cond b (above - 1) above) clears_above in
    let ends : ends_with attrs upto.entries ≡ true = ap (λ j. ends_with attrs (rows_upto w rows j).entries) (add-one row ∙ ap suc is_joined)
    ∙ joined_ends w attrs rows above c.requires.some_column parts.0 (not-true _ parts.1) (first_blank_same w attrs rows h above first inside) in
    e ∙ ap (cleared_below attrs) (c.in_ok-drawn.ensures ∙ (c.in_ok-write_rows-2.ensures.upto before upper).printed) ∙ cleared_behind attrs before upto ends
    ∙ ap (behind before) (sym (joined w h rows attrs c.requires.bottom c.requires.clearable above row is_above is_joined inside (omega (arith, long)))))
    c.clear_below.ensures

pub returns : goal.returns
returns c =
    let w = c.args.width in
    let h = length (cells_of c.args.rows.now.items) in
    let long : h ≡ deque_len c.args.rows.now = length-cells_of c.args.rows.now.items ∙ sym c.args.rows.now.ok.0 in
    let rows = map (row_of w) (cells_of c.args.rows.now.items) in
    let attrs = c.args.attrs.now in
    let above = c.rows_above-above.result in
    let row = c.joined_row-joined.result in
    let not_both : above < h → row + 1 < h → ⊥ = λ li lt. elim c.else-above-len.branch [
      | else-above-len-via-then-above-len+else-joined-len v ↦ omega (arith, long, v.if-joined-len.false)
      | else-above-len-via-else-above-len v ↦ omega (arith, long, v.if-above-len.false)
    ] in
    IfOk-weaker c.into_penned-2.result
    (λ drawn. penned_value drawn ≡ c.write_rows-2.new.writer.printed)
    (λ drawn. (first : List ChangeValue) → AreApart first → IsWrittenUpto first w rows 0 c.args.writer → penned_value drawn ≡ behind first (all_rows w h rows))
    (λ drawn e before apart_so none.
    let upper = c.in_ok-write_rows.ensures.upto before none in
    let clears_above = clears_is attrs c.write_rows.new.writer.printed.entries (option_copied c.last.result) c.last.ensures
    ∙ ap (λ (d : Penned). last_is (is_clear_of attrs) d.entries) upper.printed ∙ ends_behind_first attrs before (rows_upto w rows above).entries apart_so in
    let is_joined = c.joined_row-joined.ensures ∙ ap (λ b. cond b (above - 1) above) clears_above in
    e ∙ (c.in_ok-write_rows-3.ensures.upto before upper).printed ∙ ap (λ j. behind before (rows_upto w rows j)) (c.len-2.ensures ∙ sym long)
    ∙ ap (behind before) (sym (apart w h rows attrs c.requires.bottom c.requires.clearable above row c.rows_above-above.ensures.above is_joined not_both)))
    c.into_penned-2.ensures
