use Rattle.std.proofs.Common.{map, length, arith, sym, ap, ◌∙◌}
use Rattle.std.proofs.lemmas.List.{length-map}
use Rattle.termwiz_cell.specs.ChangeValue.{change_value}
use Rattle.termwiz_line.specs.LastChange.{last_is}
use Rattle.termwiz_screen.specs.Repaint.{is_move, without_last_moves}
use Rattle.termwiz_screen.proofs.Repaints.LastChanges.{some_change, no_last_move, move_dropped}
use Rattle.termwiz_screen.proofs.Repaints.Bottom.{length-front_of}
use Rattle.termwiz_screen.proofs.repaint.drop_last_moves.Goals as goal

pub returns : goal.returns
returns c =
    let last = sym (c.ends_with_move.ensures ∙ ap (λ xs. last_is is_move (map change_value xs)) c.as_slice.ensures.value) ∙ c.loop-entries-test.false in
    sym (no_last_move (map change_value c.loop-entries.entries.items) last) ∙ c.loop-entries.invariant

pub loop-entries-preserved : goal.loop-entries-preserved
loop-entries-preserved c =
    let last = sym (c.ends_with_move.ensures ∙ ap (λ xs. last_is is_move (map change_value xs)) c.as_slice.ensures.value) ∙ c.loop-entries-test.true in
    ap without_last_moves c.drop_last.ensures ∙ move_dropped (map change_value c.loop-entries.entries.items) last ∙ c.loop-entries.invariant

pub loop-entries-smaller : goal.loop-entries-smaller
loop-entries-smaller c =
    let old = map change_value c.loop-entries.entries.items in
    let last = sym (c.ends_with_move.ensures ∙ ap (λ xs. last_is is_move (map change_value xs)) c.as_slice.ensures.value) ∙ c.loop-entries-test.true in
    omega (
      arith,
      some_change is_move old last,
      ap length c.drop_last.ensures,
      length-front_of old,
      length-map c.loop-entries.entries.items change_value,
      length-map c.drop_last.new.entries.items change_value,
      c.loop-entries.entries.ok.0,
      c.drop_last.new.entries.ok.0,
    )
