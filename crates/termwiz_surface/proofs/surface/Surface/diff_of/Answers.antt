use Rattle.std.proofs.Common.{◌≡◌, map, sym, ap₂, ◌∙◌, subst}
use Rattle.std.proofs.lemmas.Result.{IfOk-weaker}
use Rattle.std.specs.VecDeque.{deque_len}
use Rattle.termwiz_cell.specs.Measure.{measure}
use Rattle.termwiz_line.specs.Row.{row_of}
use Rattle.termwiz_screen.specs.Diff.{cut, diff, need}
use Rattle.termwiz_screen.specs.DiffLists.{IsDiff}
use Rattle.termwiz_screen.specs.RegionValue.{region_value}
use Rattle.termwiz_screen.specs.ScreenValue.{cells_of}
use Rattle.termwiz_surface.specs.Surface.{SurfaceValue, IsSound, screen_of}
use Rattle.termwiz_surface.proofs.DiffSurfaces.{sound_rows, sound_diff}
use Rattle.termwiz_screen.proofs.Lines.{length-cells_of}
use Rattle.termwiz_surface.proofs.surface.Surface.diff_of.Goals as goal

pub returns-clause-list : goal.returns-clause-list
returns-clause-list g c =
    let reg = region_value c.args.region in
    let a = c.self.inside in
    let b = c.other.inside in
    let own : deque_len a.rows ≡ a.height = a.rows.ok.0 ∙ sym (length-cells_of a.rows.items) ∙ c.self.invariant.0.full in
    let other : deque_len b.rows ≡ b.height = b.rows.ok.0 ∙ sym (length-cells_of b.rows.items) ∙ c.other.invariant.0.full in
    IfOk-weaker c.diff_rows.result _ _
    (λ l e. e ∙ ap₂ (λ h k. diff (map (row_of a.width) (cells_of a.rows.items)) (map (row_of b.width) (cells_of b.rows.items)) (cut reg a.width h b.width k)) own other
    ∙ ap₂ (λ (v w : SurfaceValue _). diff (screen_of v).rows (screen_of w).rows (cut reg v.width v.height w.width w.height)) c.self.view_is c.other.view_is)
    c.diff_rows.ensures

pub returns-clause-own : goal.returns-clause-own
returns-clause-own g c =
    sound_rows (measure g.W.Widths.width_of c.args.self.now.widths) c.args.self.now (subst (λ (s : SurfaceValue _). IsSound (measure g.W.Widths.width_of s.widths) s) c.self.view_is c.self.invariant.0)

pub returns-clause-other : goal.returns-clause-other
returns-clause-other g c =
    sound_rows (measure g.W.Widths.width_of c.args.other.now.widths) c.args.other.now (subst (λ (s : SurfaceValue _). IsSound (measure g.W.Widths.width_of s.widths) s) c.other.view_is c.other.invariant.0)

pub returns-clause-diff : goal.returns-clause-diff
returns-clause-diff g c =
    let a = c.args.self.now in
    let b = c.args.other.now in
    let f = measure g.W.Widths.width_of a.widths in
    let h = measure g.W.Widths.width_of b.widths in
    let sound = subst (λ (s : SurfaceValue _). IsSound (measure g.W.Widths.width_of s.widths) s) c.other.view_is c.other.invariant.0 in
    let r = region_value c.args.region in
    IfOk-weaker c.diff_rows.result _ _
    (λ l e. subst (λ es. IsDiff f (screen_of a) (f ≡ h) (need (screen_of a).rows (screen_of b).rows (cut r a.width a.height b.width b.height)) es) (sym e) (sound_diff h b sound f (screen_of a) r))
    (returns-clause-list g c)
