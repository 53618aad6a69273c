use Rattle.std.proofs.Common.{◌++◌, sym, ap, ◌∙◌}
use Rattle.termwiz_line.specs.Entries.{pen_entry}
use Rattle.termwiz_screen.specs.FullScreen.{shape_of}
use Rattle.termwiz_screen.specs.Repaint.{started_entries, without_last_moves, cursor_entry, full_shown_entries}
use Rattle.termwiz_screen.proofs.Repaints.LastChanges.{all_pushed}
use Rattle.termwiz_screen.proofs.repaint.full.fully_framed.Goals as goal

pub returns : goal.returns
returns c =
    λ first d s e x y visibility pen.
    let rows = without_last_moves (first ++ d.entries) in
    let shown = full_shown_entries c.args.visibility (shape_of c.args.shape) in
    c.in_ok-push_fully_shown.ensures
    ∙ ap (λ l. l ++ shown) (c.in_ok-entries.ensures first d s e x y pen)
    ∙ all_pushed started_entries rows (cursor_entry rows s.x s.y) (pen_entry d.pen s.pen) shown
    ∙ ap (λ v. started_entries ++ (rows ++ (cursor_entry rows s.x s.y ++ (pen_entry d.pen s.pen ++ full_shown_entries v (shape_of c.args.shape))))) (sym visibility)
