use Rattle.std.proofs.Common.{◌≡◌, map, ◌++◌, sym, ap, ◌∙◌}
use Rattle.std.proofs.lemmas.Result.{IfOk-weaker}
use Rattle.termwiz_cell.specs.ChangeValue.{change_value}
use Rattle.termwiz_line.specs.PennedValue.{penned_value}
use Rattle.termwiz_line.specs.Row.{row_of}
use Rattle.termwiz_line.specs.Writing.{behind}
use Rattle.termwiz_screen.specs.FullScreen.{line_attribute, shape_of, full_screen}
use Rattle.termwiz_screen.specs.Repaint.{started_entries, full_entries, full_shown_entries, all_rows, repaint_of, full_repaint}
use Rattle.termwiz_screen.specs.ScreenValue.{cells_of}
use Rattle.termwiz_screen.specs.Sides.{row_flags}
use Rattle.termwiz_surface.specs.Surface.{SurfaceValue, screen_of, kept_of}
use Rattle.termwiz_screen.proofs.RowChanges.Joined.{before_rows, none_drawn}
use Rattle.termwiz_screen.proofs.Repaints.LastChanges.{full_apart}
use Rattle.termwiz_surface.proofs.surface.Surface.full_repaint.Goals as goal

pub all_rows-requires-clause-before : goal.all_rows-requires-clause-before
all_rows-requires-clause-before g c =
    let title = c.as_str-title.result.now in
    let color = c.self.inside.color in
    let lines = map line_attribute (row_flags c.self.inside.rows.items) in
    before_rows (started_entries ++ full_entries title color lines) c.in_ok-writer.writer c.in_ok-writer.ensures.printed (full_apart title color lines) c.in_ok-writer.ensures.between

pub returns : goal.returns
returns g c =
    let shown = c.self.inside in
    let v = c.args.self.now in
    let s = screen_of v in
    let f = full_screen s (kept_of v) in
    let first = full_entries f.title f.color f.lines in
    let title = c.as_str-title.result.now in
    let lines = map line_attribute (row_flags shown.rows.items) in
    let before = started_entries ++ full_entries title shown.color lines in
    let rows = map (row_of shown.width) (cells_of shown.rows.items) in
    let titled : title ≡ v.title = c.as_str-title.ensures.value ∙ ap (λ (v : SurfaceValue _). v.title) c.self.view_is in
    let drawn : penned_value c.in_ok-drawn.drawn ≡ behind (started_entries ++ first) (all_rows s.width s.height s.rows) =
    c.in_ok-drawn.ensures before (full_apart title shown.color lines) (none_drawn before c.in_ok-writer.writer c.in_ok-writer.ensures.printed shown.width rows)
    ∙ ap (λ n. behind before (all_rows shown.width n rows)) c.self.invariant.0.full
    ∙ (λ k. behind (started_entries ++ full_entries (titled k) (c.self.view_is k).color (map line_attribute (c.self.view_is k).flags)) (all_rows (c.self.view_is k).width (c.self.view_is k).height (map (row_of (c.self.view_is k).width) (c.self.view_is k).lines))) in
    IfOk-weaker c.fully_framed.result _ (λ changes. map change_value changes.items ≡ full_repaint f)
    (λ changes framed.
    framed first (all_rows s.width s.height s.rows) s drawn (λ k. (sym c.self.view_is k).x) (λ k. (sym c.self.view_is k).y) (λ k. (sym c.self.view_is k).visibility) (λ k. (sym c.self.view_is k).pen)
    ∙ ap (λ (v' : SurfaceValue _). repaint_of first (all_rows s.width s.height s.rows) s (full_shown_entries s.visibility (shape_of v'.shape))) c.self.view_is)
    c.fully_framed.ensures
