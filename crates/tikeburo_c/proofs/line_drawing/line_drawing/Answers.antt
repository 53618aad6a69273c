use Rattle.std.proofs.Common.{◌≡◌, ◌++◌, take, drop, length, map, sym, ap, ◌∙◌, append-nil, arith}
use Rattle.std.proofs.lemmas.List.{drop_all, length-map, take_all}
use Rattle.termwiz_cell.specs.ChangeValue.{change_value}
use Rattle.tikeburo_c.proofs.LinesDrawn.{is_drawing}
use Rattle.tikeburo_c.proofs.line_drawing.line_drawing.Goals as goal

pub returns : goal.returns
returns c =
    let sound = c.dimensions-size.ensures.sound in
    let printed = c.in_ok-printed in
    let cursor = c.cursor_position.ensures in
    let old = c.in_ok-changes.changes in
    let new = c.own_links.new.changes in
    let own = rw c.deref_mut.ensures.value at c.own_links.ensures in
    let long : length new ≡ length old.items = sym (length-map new change_value) ∙ ap length own ∙ length-map old.items change_value in
    let written : take old.len (new ++ drop (length new) old.items) ≡ new =
    ap (λ rest. take old.len (new ++ rest)) (drop_all (length new) old.items (omega (arith, long))) ∙ ap (take old.len) (append-nil new) ∙ take_all old.len new (omega (arith, long, old.ok.0)) in
    rw written (is_drawing c.args.surface.now c.args.row c.args.line.now.cells _ _ _ (map change_value printed.printed.items) _ sound.column sound.row cursor.column cursor.row c.pen.ensures printed.ensures.entries printed.ensures.row (own ∙ c.in_ok-changes.ensures))
