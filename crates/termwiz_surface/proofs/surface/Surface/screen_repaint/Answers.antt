use Rattle.std.proofs.Common.{◌≡◌, map, length, ◌++◌, sym, ap, ◌∙◌}
use Rattle.std.proofs.lemmas.Result.{IfOk-weaker}
use Rattle.termwiz_cell.specs.ChangeValue.{change_value}
use Rattle.termwiz_line.specs.PennedValue.{penned_value}
use Rattle.termwiz_line.specs.Row.{row_of}
use Rattle.termwiz_screen.specs.ScreenValue.{cells_of}
use Rattle.termwiz_surface.specs.Surface.{SurfaceValue, screen_of}
use Rattle.termwiz_line.specs.Writing.{behind}
use Rattle.termwiz_screen.specs.Repaint.{started_entries, title_entry, all_rows, repaint}
use Rattle.termwiz_screen.proofs.RowChanges.Joined.{before_rows, none_drawn}
use Rattle.termwiz_screen.proofs.Repaints.LastChanges.{first_apart}
use Rattle.termwiz_surface.proofs.surface.Surface.screen_repaint.Goals as goal

pub all_rows-requires-clause-before : goal.all_rows-requires-clause-before
all_rows-requires-clause-before g c = before_rows (started_entries ++ title_entry c.as_str.result.now) c.in_ok-writer.writer c.in_ok-writer.ensures.printed (first_apart c.as_str.result.now) c.in_ok-writer.ensures.between

pub returns : goal.returns
returns g c =
    let shown = c.self.inside in
    let v = c.args.self.now in
    let s = screen_of v in
    let first = started_entries ++ title_entry v.title in
    let titled : c.as_str.result.now ≡ v.title = c.as_str.ensures.value ∙ ap (λ (v : SurfaceValue _). v.title) c.self.view_is in
    let drawn : penned_value c.in_ok-drawn.drawn ≡ behind first (all_rows s.width s.height s.rows) =
    c.in_ok-drawn.ensures (started_entries ++ title_entry c.as_str.result.now) (first_apart c.as_str.result.now) (none_drawn (started_entries ++ title_entry c.as_str.result.now) c.in_ok-writer.writer c.in_ok-writer.ensures.printed shown.width (map (row_of shown.width) (cells_of shown.rows.items)))
    ∙ ap (λ t. behind (started_entries ++ title_entry t) (all_rows shown.width (length (cells_of shown.rows.items)) (map (row_of shown.width) (cells_of shown.rows.items)))) titled
    ∙ ap (λ n. behind first (all_rows shown.width n (map (row_of shown.width) (cells_of shown.rows.items)))) c.self.invariant.0.full
    ∙ ap (λ (v' : SurfaceValue _). behind first (all_rows v'.width v'.height (map (row_of v'.width) v'.lines))) c.self.view_is in
    IfOk-weaker c.framed.result _ (λ changes. map change_value changes.items ≡ repaint s v.title v.shape)
    (λ changes framed.
    framed (title_entry v.title) (all_rows s.width s.height s.rows) s drawn (λ k. (sym c.self.view_is k).x) (λ k. (sym c.self.view_is k).y) (λ k. (sym c.self.view_is k).visibility) (λ k. (sym c.self.view_is k).pen)
    ∙ ap (λ (v' : SurfaceValue _). repaint s v.title v'.shape) c.self.view_is)
    c.framed.ensures
