use Rattle.std.proofs.Common.{◌≡◌, map, min, length, sym, ap, ◌∙◌, subst}
use Rattle.std.proofs.lemmas.Result.{IfOk-weaker}
use Rattle.std.specs.Prelude.{None}
use Rattle.std.specs.VecDeque.{deque_len}
use Rattle.termwiz_cell.specs.ChangeValue.{change_value}
use Rattle.termwiz_cell.specs.Measure.{measure}
use Rattle.termwiz_line.specs.Row.{row_of}
use Rattle.termwiz_screen.specs.Diff.{band, diff, need}
use Rattle.termwiz_screen.specs.DiffLists.{IsDiff}
use Rattle.termwiz_screen.specs.ScreenValue.{cells_of}
use Rattle.termwiz_surface.specs.Surface.{SurfaceValue, IsSound, screen_of}
use Rattle.termwiz_surface.proofs.DiffSurfaces.{sound_rows, lines_diff, lines_gives}
use Rattle.termwiz_screen.proofs.Lines.{length-cells_of}
use Rattle.termwiz_surface.proofs.surface.Surface.diff_lines.Goals as goal

pub returns-clause-entries : goal.returns-clause-entries
returns-clause-entries g c =
    let lines = c.args.other_lines.items in
    let s = c.self.inside in
    let height : deque_len s.rows ≡ s.height = s.rows.ok.0 ∙ sym (length-cells_of s.rows.items) ∙ c.self.invariant.0.full in
    IfOk-weaker c.diff_lines.result _ _
    (λ l e. e
    ∙ ap (λ h. diff (map (row_of s.width) (cells_of s.rows.items)) (map (λ line. row_of s.width line.now.cells) lines) (band s.width 0 0 (min h (length lines)))) height
    ∙ ap (λ (u : SurfaceValue _). diff (screen_of u).rows (map (λ line. row_of u.width line.now.cells) lines) (band u.width 0 0 (min u.height (length lines)))) c.self.view_is)
    c.diff_lines.ensures

pub returns-clause-diff : goal.returns-clause-diff
returns-clause-diff g c = λ printable.
    let v = c.args.self.now in
    let a = screen_of v in
    let f = measure g.W.Widths.width_of v.widths in
    let lines = c.args.other_lines.items in
    let b = map (λ line. row_of v.width line.now.cells) lines in
    let n = min v.height (length lines) in
    IfOk-weaker c.diff_lines.result _ _
    (λ l e. subst (λ es. IsDiff f a (f ≡ f) (need a.rows b (band v.width 0 0 n)) es) (sym e)
    (lines_diff f (g.met.W.Widths.space_has_one v.widths None) a (λ line. line.now.cells) lines printable))
    (returns-clause-entries g c)

pub returns-clause-rows : goal.returns-clause-rows
returns-clause-rows g c = λ printable.
    let v = c.args.self.now in
    let f = measure g.W.Widths.width_of v.widths in
    let own = sound_rows f v (subst (λ (s : SurfaceValue _). IsSound (measure g.W.Widths.width_of s.widths) s) c.self.view_is c.self.invariant.0) in
    IfOk-weaker c.diff_lines.result _ _ (λ l d. lines_gives f (screen_of v) own (λ line. line.now.cells) c.args.other_lines.items (map change_value l.items) d) (returns-clause-diff g c printable)
