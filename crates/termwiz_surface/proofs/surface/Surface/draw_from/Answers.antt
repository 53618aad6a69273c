use Rattle.std.proofs.Common.{◌≡◌, inl, map, refl, subst}
use Rattle.termwiz_cell.specs.ChangeValue.{change_value}
use Rattle.termwiz_cell.specs.Measure.{measure}
use Rattle.termwiz_surface.specs.Copies.{cut_to, region_at}
use Rattle.termwiz_screen.specs.DiffRegions.{CrossNone, HaveRegion}
use Rattle.termwiz_screen.specs.Screen.{Screen}
use Rattle.termwiz_surface.specs.Surface.{SurfaceValue, IsSound, screen_of}
use Rattle.termwiz_surface.proofs.Copying.{Adds-restored, drawn_screen, drawn_no_scroll}
use Rattle.termwiz_surface.proofs.surface.Surface.draw_from.Goals as goal

-- no step is named after the call that adds the list, so that a body which goes on there is refused
-- by a clause
pub returns-clause-drawn : goal.returns-clause-drawn
returns-clause-drawn g c =
    let f = measure g.W.Widths.width_of c.args.self.now.widths in
    let changes = map change_value c.in_ok-printed.printed.items in
    inl (record {
      changes = changes;
      entries = c.in_ok-printed.ensures.entries;
      is_diff = c.in_ok-printed.ensures.diff;
      done = Adds-restored f c.args.self.now c.add_own_changes.new.self _ (map change_value c.in_ok-changes.changes.items) changes c.add_own_changes.result c.self.view_is c.in_ok-changes.ensures c.add_own_changes.ensures.adds;
    })

pub returns-clause-restores : goal.returns-clause-restores
returns-clause-restores g c =
    let f = measure g.W.Widths.width_of c.args.self.now.widths in
    let changes = map change_value c.in_ok-printed.printed.items in
    let adds = Adds-restored f c.args.self.now c.add_own_changes.new.self _ (map change_value c.in_ok-changes.changes.items) changes c.add_own_changes.result c.self.view_is c.in_ok-changes.ensures c.add_own_changes.ensures.adds in
    let sound = subst (λ (v : SurfaceValue _). IsSound (measure g.W.Widths.width_of v.widths) v) c.self.view_is c.self.invariant.0 in
    drawn_screen f c.args.self.now c.add_own_changes.new.self c.add_own_changes.result _ changes c.in_ok-printed.ensures.diff.drawing sound adds
    (λ (s : Screen). s ≡ record (screen_of c.args.self.now) { rows = s.rows }) refl

pub returns-clause-region : goal.returns-clause-region
returns-clause-region g c =
    let f = measure g.W.Widths.width_of c.args.self.now.widths in
    let changes = map change_value c.in_ok-printed.printed.items in
    let adds = Adds-restored f c.args.self.now c.add_own_changes.new.self _ (map change_value c.in_ok-changes.changes.items) changes c.add_own_changes.result c.self.view_is c.in_ok-changes.ensures c.add_own_changes.ensures.adds in
    let sound = subst (λ (v : SurfaceValue _). IsSound (measure g.W.Widths.width_of v.widths) v) c.self.view_is c.self.invariant.0 in
    let a = screen_of c.args.self.now in
    let b = screen_of c.args.other.now in
    let r = cut_to c.args.self.now c.args.other.now (region_at c.args.dest_x c.args.dest_y c.args.width c.args.height c.args.src_x c.args.src_y) in
    drawn_screen f c.args.self.now c.add_own_changes.new.self c.add_own_changes.result _ changes c.in_ok-printed.ensures.diff.drawing sound adds
    (λ (s : Screen). f ≡ measure g.W.Widths.width_of c.args.other.now.widths → CrossNone a.width b.width a.rows b.rows r → HaveRegion a.width s.rows a.rows b.rows r)
    c.in_ok-printed.ensures.region

pub returns-clause-no_scroll : goal.returns-clause-no_scroll
returns-clause-no_scroll g c =
    let f = measure g.W.Widths.width_of c.args.self.now.widths in
    let changes = map change_value c.in_ok-printed.printed.items in
    let adds = Adds-restored f c.args.self.now c.add_own_changes.new.self _ (map change_value c.in_ok-changes.changes.items) changes c.add_own_changes.result c.self.view_is c.in_ok-changes.ensures c.add_own_changes.ensures.adds in
    drawn_no_scroll f c.args.self.now c.add_own_changes.new.self c.add_own_changes.result _ changes c.in_ok-printed.ensures.diff.drawing adds
