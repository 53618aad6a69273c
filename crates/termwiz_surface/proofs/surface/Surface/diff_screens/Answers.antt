use Rattle.std.proofs.Common.{◌≡◌, map, ap, ◌∙◌, subst}
use Rattle.std.proofs.lemmas.Result.{IfOk-weaker}
use Rattle.termwiz_cell.specs.ChangeValue.{change_value}
use Rattle.termwiz_cell.specs.Measure.{measure}
use Rattle.termwiz_screen.specs.Diff.{cut, diff, need, whole}
use Rattle.termwiz_screen.specs.DiffLists.{IsDiff}
use Rattle.termwiz_screen.specs.RegionValue.{region_value}
use Rattle.termwiz_surface.specs.Surface.{SurfaceValue, screen_of}
use Rattle.termwiz_screen.proofs.Diffs.Calls.{same_rows, equal_rows}
use Rattle.termwiz_surface.proofs.surface.Surface.diff_screens.Goals as goal

pub returns-clause-rows : goal.returns-clause-rows
returns-clause-rows g c = λ w h e.
    let a = c.args.self.now in
    let b = c.args.other.now in
    let f = measure g.W.Widths.width_of a.widths in
    let k = measure g.W.Widths.width_of b.widths in
    let all : region_value c.band.result ≡ whole a.width a.height = c.band.ensures ∙ ap (λ (s : SurfaceValue _). whole s.width s.height) c.self.view_is in
    IfOk-weaker c.diff_of.result _ _
    (λ l d. same_rows f k (screen_of a) (screen_of b) (map change_value l.items) c.diff_of.ensures.own c.diff_of.ensures.other w h e
    (subst (λ r. IsDiff f (screen_of a) (f ≡ k) (need (screen_of a).rows (screen_of b).rows (cut r a.width a.height b.width b.height)) (map change_value l.items)) all d))
    c.diff_of.ensures.diff

pub returns-clause-entries : goal.returns-clause-entries
returns-clause-entries g c =
    let a = c.args.self.now in
    let b = c.args.other.now in
    let all : region_value c.band.result ≡ whole a.width a.height = c.band.ensures ∙ ap (λ (s : SurfaceValue _). whole s.width s.height) c.self.view_is in
    IfOk-weaker c.diff_of.result _ _
    (λ l d. d ∙ ap (λ r. diff (screen_of a).rows (screen_of b).rows (cut r a.width a.height b.width b.height)) all)
    c.diff_of.ensures.list

pub returns-clause-equal : goal.returns-clause-equal
returns-clause-equal g c = λ e w h.
    let a = c.args.self.now in
    let b = c.args.other.now in
    let f = measure g.W.Widths.width_of a.widths in
    let k = measure g.W.Widths.width_of b.widths in
    IfOk-weaker c.diff_of.result _ _
    (λ l d. equal_rows f k (screen_of a) (screen_of b) (map change_value l.items) c.diff_of.ensures.own c.diff_of.ensures.other w h e d)
    (returns-clause-entries g c)
