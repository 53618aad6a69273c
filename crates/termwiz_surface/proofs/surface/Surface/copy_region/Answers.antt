use Rattle.std.proofs.Common.{inl, map, refl}
use Rattle.termwiz_cell.specs.ChangeValue.{change_value}
use Rattle.termwiz_cell.specs.Measure.{measure}
use Rattle.termwiz_surface.specs.Copies.{copied_region}
use Rattle.termwiz_screen.specs.DiffRegions.{CrossNone, HaveRegion}
use Rattle.termwiz_screen.specs.Screen.{Screen}
use Rattle.termwiz_surface.specs.Surface.{screen_of}
use Rattle.termwiz_surface.proofs.Copying.{Adds-values, added_screen, copied_no_scroll}
use Rattle.termwiz_surface.proofs.surface.Surface.copy_region.Goals as goal

pub returns-clause-copied : goal.returns-clause-copied
returns-clause-copied g c =
    let changes = map change_value c.in_ok-copies.copies.items in
    inl (record {
      changes = changes;
      entries = c.in_ok-copies.ensures.entries;
      is_diff = c.in_ok-copies.ensures.diff;
      done = Adds-values (measure g.W.Widths.width_of c.args.self.now.widths) c.args.self.now c.add_changes.new.self c.in_ok-copies.copies changes c.add_changes.result refl c.add_changes.ensures.adds;
    })

pub returns-clause-region : goal.returns-clause-region
returns-clause-region g c =
    let a = screen_of c.args.self.now in
    let r = copied_region a c.args.src_x c.args.src_y c.args.width c.args.height c.args.dest_x c.args.dest_y in
    added_screen (measure g.W.Widths.width_of c.args.self.now.widths) c.args.self.now c.add_changes.new.self c.add_changes.result _ (map change_value c.in_ok-copies.copies.items) c.add_changes.ensures.adds
    (λ (s : Screen). CrossNone a.width a.width a.rows a.rows r → HaveRegion a.width s.rows a.rows a.rows r)
    (c.in_ok-copies.ensures.region (λ i. measure g.W.Widths.width_of c.args.self.now.widths))

pub returns-clause-no_scroll : goal.returns-clause-no_scroll
returns-clause-no_scroll g c =
    copied_no_scroll (measure g.W.Widths.width_of c.args.self.now.widths) c.args.self.now c.add_changes.new.self c.add_changes.result _ (map change_value c.in_ok-copies.copies.items) c.in_ok-copies.ensures.diff.drawing c.add_changes.ensures.adds
