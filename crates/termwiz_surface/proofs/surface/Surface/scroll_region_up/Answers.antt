use Rattle.std.proofs.Common.{◌≡◌, ◌∙◌, [], ◌+◌, ◌<◌, ◌≤◌, length, ap, refl, sym, subst, arith}
use Rattle.std.specs.Prelude.{None}
use Rattle.termwiz_cell.specs.Measure.{measure}
use Rattle.termwiz_line.specs.LineValue.{LineValue}
use Rattle.termwiz_screen.specs.ScreenValue.{blank_line, cells_of}
use Rattle.termwiz_surface.specs.Surface.{SurfaceValue}
use Rattle.termwiz_line.specs.LineFlags.{no_flags}
use Rattle.std.proofs.lemmas.List.{length-map}
use Rattle.termwiz_screen.proofs.Lines.{length-cells_of}
use Rattle.termwiz_screen.specs.Sides.{row_flags}
use Rattle.termwiz_screen.proofs.Sides.{sides-full}
use Rattle.termwiz_surface.proofs.Drawn.{any_flags, any_numbers, IsSound-partly_reset, IsSound-up}
use Rattle.termwiz_screen.proofs.RowChanges.Scrolled.{cells-up, flags-up, lengths-up, partly-map, rows-up, vectors-up, vectors-partly}
use Rattle.termwiz_surface.proofs.Painted.{becomes-painted}
use Rattle.termwiz_surface.proofs.RowNumbers.{marks-range, range-scroll, up-outside, up-still}
use Rattle.termwiz_surface.proofs.surface.Surface.scroll_region_up.Goals as goal

pub invariant_of-self : goal.invariant_of-self
invariant_of-self g c = (
  any_flags _ _ _ (sides-full c.scroll_region_up.new.rows.items refl) (IsSound-partly_reset (measure g.W.Widths.width_of c.self.inside.widths) _ (record { space = g.met.W.Widths.space_has_one c.self.inside.widths None }) c.self.invariant.0 _ (partly-map (λ (l : LineValue). l.cells) (blank_line c.self.inside.width) c.self.inside.rows.items c.scroll_region_up.new.rows.items c.in_err-scroll_region_up.ensures.err)),
  vectors-partly c.self.inside.width c.self.inside.rows.items c.scroll_region_up.new.rows.items c.in_err-scroll_region_up.ensures.err c.self.invariant.1,
  c.self.invariant.2,
)

pub invariant_of-self-2 : goal.invariant_of-self-2
invariant_of-self-2 g c =
    let inside : c.args.first + c.args.size ≤ c.self.inside.height = subst (λ (s : SurfaceValue _). c.args.first + c.args.size ≤ s.height) (sym c.self.view_is) c.requires in
    let cells = cells-up c.self.inside.width c.self.inside.rows.items c.scroll_region_up.new.rows.items c.args.first c.args.size c.args.count c.in_ok-scroll_region_up.ensures.ok in (
      rw cells
          (any_numbers _ _ _ _ (any_flags _ _ _ (sides-full c.scroll_region_up.new.rows.items (ap length cells)) (IsSound-up (measure g.W.Widths.width_of c.self.inside.widths) _ (record { space = g.met.W.Widths.space_has_one c.self.inside.widths None }) c.self.invariant.0 c.args.first c.args.size c.args.count inside))),
      vectors-up c.self.inside.width c.self.inside.rows.items c.scroll_region_up.new.rows.items c.args.first c.args.size c.args.count c.in_ok-scroll_region_up.ensures.ok c.self.invariant.1,
      c.mark_rows.ensures.len ∙ c.self.invariant.2,
    )

pub returns-clause-ok : goal.returns-clause-ok
returns-clause-ok g c =
    let inside : c.args.first + c.args.size ≤ c.self.inside.height = subst (λ (s : SurfaceValue _). c.args.first + c.args.size ≤ s.height) (sym c.self.view_is) c.requires in
    let long : c.args.first + c.args.size ≤ length (cells_of c.self.inside.rows.items) = omega (arith, inside, c.self.invariant.0.full) in
    let some : 0 < c.args.count = omega arith in
    let cells = cells-up c.self.inside.width c.self.inside.rows.items c.scroll_region_up.new.rows.items c.args.first c.args.size c.args.count c.in_ok-scroll_region_up.ensures.ok in
    let flags = flags-up c.self.inside.width c.self.inside.rows.items c.scroll_region_up.new.rows.items c.args.first c.args.size c.args.count c.in_ok-scroll_region_up.ensures.ok in
    rw (← c.self.view_is, cells) (becomes-painted
    (marks-range _ _ _ c.args.first c.args.size (range-scroll _ c.args.first c.args.size c.args.count some) refl c.mark_rows.ensures.marked
    (λ j out. up-outside _ (cells_of c.self.inside.rows.items) c.args.first c.args.size c.args.count j [] long out)
    (λ j out. rw flags (up-outside no_flags (row_flags c.self.inside.rows.items) c.args.first c.args.size c.args.count j no_flags (omega (arith, long, length-map c.self.inside.rows.items (λ l. l.flags), length-cells_of c.self.inside.rows.items)) out)))
    (rows-up c.self.inside.width (cells_of c.self.inside.rows.items) c.args.first c.args.size c.args.count)
    (lengths-up c.self.inside.width (cells_of c.self.inside.rows.items) c.args.first c.args.size c.args.count)
    flags)

pub returns-then-count-eq0-clause-ok : goal.returns-then-count-eq0-clause-ok
returns-then-count-eq0-clause-ok g c =
    let none : c.args.count ≡ 0 = omega arith in
    up-still c.args.self.now c.args.first c.args.size c.args.count none
