use Rattle.std.proofs.Common.{◌≡◌, ◌&&◌, cond, eqb, map, ◌++◌, ◌∷◌, [], sym, ap, ◌∙◌}
use Rattle.termwiz_cell.specs.ChangeValue.{change_value}
use Rattle.termwiz_line.specs.Entries.{Penned, pen_entry}
use Rattle.termwiz_screen.specs.Repaint.{cursor_entry, started_entries, without_last_moves}
use Rattle.termwiz_screen.specs.Place.{cursor_at}
use Rattle.termwiz_screen.proofs.repaint.placed.Goals as goal

pub returns : goal.returns
returns c =
    λ first d s e x y pen.
    let rows = without_last_moves (first ++ d.entries) in
    let dropped : map change_value c.drop_last_moves.new.entries.items ≡ started_entries ++ rows = c.drop_last_moves.ensures ∙ ap (λ (v : Penned). without_last_moves v.entries) e in
    let nothing = c.is_started_alone-nothing.ensures rows (ap (map change_value) c.as_slice.ensures.value ∙ dropped) in
    let put = c.in_ok-push_cursor.ensures ∙ (λ k. dropped k ++ cond (nothing k && (eqb c.args.x 0 && eqb c.args.y 0)) [] (cursor_at c.args.x c.args.y ∷ [])) in
    c.in_ok-push_pen.ensures ∙ (λ k. put k ++ pen_entry (e k).pen c.args.pen.now)
    ∙ sym (λ k. ((started_entries ++ rows) ++ cursor_entry rows (x k) (y k)) ++ pen_entry d.pen (pen k))
