use Rattle.std.proofs.Common.{◌≡◌, ◌∙◌, map, pos, ap, arith}
use Rattle.termwiz_surface.specs.{SequenceValue, change_value, measure}
use Rattle.uses.proofs.Prompting.{added_columns, stopped_columns}
use Rattle.uses.proofs.prompt.show_prompt.Goals as goal

pub returns-clause-shown : goal.returns-clause-shown
returns-clause-shown g c =
    let before = c.add_changes.new.self in
    let old = c.args.sequence.now in
    let m = measure g.W.Widths.width_of old.widths in
    let columns : before.columns ≡ old.columns = ap (λ (s : SequenceValue _). s.columns) c.in_ok-add_changes.ensures.1 ∙ added_columns m old (map change_value c.in_ok-texts.field-0.items) in
    (λ i. (c.in_ok-move_to.ensures.1 i).cursor)
    ∙ c.sequence_laws.ensures.moves before.rows before.columns before.cursor (c.args.column, pos 0) (omega (arith, c.requires, columns)) c.current_cursor_position-form.ensures.form.some_row

pub returns-in_err-add_changes-clause-columns : goal.returns-in_err-add_changes-clause-columns
returns-in_err-add_changes-clause-columns g c =
    let old = c.args.sequence.now in
    stopped_columns (measure g.W.Widths.width_of old.widths) old (map change_value c.in_ok-texts.field-0.items) c.in_err-add_changes.field-0.0 c.add_changes.new.self c.in_err-add_changes.ensures
