use Rattle.std.proofs.Common.{◌≡◌, inl, map, refl, subst}
use Rattle.termwiz_cell.specs.ChangeValue.{change_value}
use Rattle.termwiz_cell.specs.Measure.{measure}
use Rattle.termwiz_surface.specs.Copies.{copied_region}
use Rattle.termwiz_screen.specs.DiffRegions.{CrossNone, HaveRegion}
use Rattle.termwiz_screen.specs.Screen.{Screen}
use Rattle.termwiz_surface.specs.Surface.{SurfaceValue, IsSound, screen_of}
use Rattle.termwiz_surface.proofs.Copying.{Adds-restoring, drawn_screen, drawn_no_scroll}
use Rattle.termwiz_surface.proofs.surface.Surface.draw_region.Goals as goal

pub returns-clause-drawn : goal.returns-clause-drawn
returns-clause-drawn g c =
    let f = measure g.W.Widths.width_of c.args.self.now.widths in
    let changes = map change_value c.in_ok-printed.printed.items in
    inl (record {
      changes = changes;
      entries = c.in_ok-printed.ensures.entries;
      is_diff = c.in_ok-printed.ensures.diff;
      done = Adds-restoring f c.args.self.now c.add_changes.new.self _ c.in_ok-drawn.drawn changes c.add_changes.result c.self.view_is c.in_ok-drawn.ensures c.add_changes.ensures.adds;
    })

pub returns-clause-restores : goal.returns-clause-restores
returns-clause-restores g c =
    let f = measure g.W.Widths.width_of c.args.self.now.widths in
    let changes = map change_value c.in_ok-printed.printed.items in
    let adds = Adds-restoring f c.args.self.now c.add_changes.new.self _ c.in_ok-drawn.drawn changes c.add_changes.result c.self.view_is c.in_ok-drawn.ensures c.add_changes.ensures.adds in
    let sound = subst (λ (v : SurfaceValue _). IsSound (measure g.W.Widths.width_of v.widths) v) c.self.view_is c.self.invariant.0 in
    drawn_screen f c.args.self.now c.add_changes.new.self c.add_changes.result _ changes c.in_ok-printed.ensures.diff.drawing sound adds
    (λ (s : Screen). s ≡ record (screen_of c.args.self.now) { rows = s.rows }) refl

pub returns-clause-region : goal.returns-clause-region
returns-clause-region g c =
    let f = measure g.W.Widths.width_of c.args.self.now.widths in
    let changes = map change_value c.in_ok-printed.printed.items in
    let adds = Adds-restoring f c.args.self.now c.add_changes.new.self _ c.in_ok-drawn.drawn changes c.add_changes.result c.self.view_is c.in_ok-drawn.ensures c.add_changes.ensures.adds in
    let sound = subst (λ (v : SurfaceValue _). IsSound (measure g.W.Widths.width_of v.widths) v) c.self.view_is c.self.invariant.0 in
    let a = screen_of c.args.self.now in
    let r = copied_region a c.args.src_x c.args.src_y c.args.width c.args.height c.args.dest_x c.args.dest_y in
    drawn_screen f c.args.self.now c.add_changes.new.self c.add_changes.result _ changes c.in_ok-printed.ensures.diff.drawing sound adds
    (λ (s : Screen). CrossNone a.width a.width a.rows a.rows r → HaveRegion a.width s.rows a.rows a.rows r)
    (c.in_ok-printed.ensures.region (λ i. f))

pub returns-clause-no_scroll : goal.returns-clause-no_scroll
returns-clause-no_scroll g c =
    let f = measure g.W.Widths.width_of c.args.self.now.widths in
    let changes = map change_value c.in_ok-printed.printed.items in
    let adds = Adds-restoring f c.args.self.now c.add_changes.new.self _ c.in_ok-drawn.drawn changes c.add_changes.result c.self.view_is c.in_ok-drawn.ensures c.add_changes.ensures.adds in
    drawn_no_scroll f c.args.self.now c.add_changes.new.self c.add_changes.result _ changes c.in_ok-printed.ensures.diff.drawing adds
