use Rattle.std.proofs.Common.{◌∙◌, ◌≡◌, ◌+◌, false, length, ap, arith}
use Rattle.std.specs.Prelude.{None, nat_lt, not}
use Rattle.std.proofs.lemmas.Bool.{le-ltb}
use Rattle.termwiz_cell.specs.Measure.{measure}
use Rattle.termwiz_screen.specs.ScreenValue.{cells_of}
use Rattle.termwiz_screen.proofs.RowChanges.Scrolled.{cells-scrolled, flags-scrolled, vectors-scrolled}
use Rattle.termwiz_screen.proofs.Sides.{sides-full}
use Rattle.termwiz_surface.proofs.Drawn.{any_flags, any_numbers, IsSound-scrolled, rows-scrolled, lengths-scrolled}
use Rattle.termwiz_surface.proofs.Painted.{becomes-painted}
use Rattle.termwiz_surface.proofs.RowNumbers.{marks-all, marks-alike}
use Rattle.termwiz_surface.specs.Touching.{every_row}
use Rattle.termwiz_surface.proofs.surface.Surface.line_feed.Goals as goal

pub invariant_of-self-2 : goal.invariant_of-self-2
invariant_of-self-2 g c =
    let cells = cells-scrolled c.self.inside.width c.self.inside.rows.items c.scroll_rows.new.rows.items c.in_ok-scroll_rows.ensures.ok in (
      rw cells (any_numbers _ _ _ _ (any_flags _ _ _ (sides-full c.scroll_rows.new.rows.items (ap length cells)) (IsSound-scrolled (measure g.W.Widths.width_of c.self.inside.widths) _ (record { space = g.met.W.Widths.space_has_one c.self.inside.widths None }) c.self.invariant.0))),
      vectors-scrolled c.self.inside.width c.self.inside.rows.items c.scroll_rows.new.rows.items c.in_ok-scroll_rows.ensures.ok c.self.invariant.1,
      c.mark_all.ensures.len ∙ c.self.invariant.2,
    )

pub returns-clause-ok : goal.returns-clause-ok
returns-clause-ok g c =
    let last : nat_lt (c.self.inside.y + 1) c.self.inside.height ≡ false = le-ltb _ _ c.if-self.false in
    let cells = cells-scrolled c.self.inside.width c.self.inside.rows.items c.scroll_rows.new.rows.items c.in_ok-scroll_rows.ensures.ok in
    let flags = flags-scrolled c.self.inside.width c.self.inside.rows.items c.scroll_rows.new.rows.items c.in_ok-scroll_rows.ensures.ok in
    rw (← c.self.view_is, cells, last) (becomes-painted
    (marks-alike every_row _ _ _ (λ j. ap not last) (marks-all _ _ _ (omega (arith, c.self.invariant.2)) c.mark_all.ensures.marked))
    (rows-scrolled c.self.inside.width (cells_of c.self.inside.rows.items))
    (lengths-scrolled c.self.inside.width (cells_of c.self.inside.rows.items))
    flags)
