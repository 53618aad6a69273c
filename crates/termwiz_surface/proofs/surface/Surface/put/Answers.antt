use Rattle.std.proofs.Common.{◌≡◌, ◌+◌, ◌<◌, ℕ, List, min, ap, refl, sym, subst, ◌∙◌}
use Rattle.std.specs.Prelude.{None}
use Rattle.termwiz_cell.specs.CellValue.{columns}
use Rattle.termwiz_cell.specs.Measure.{measure}
use Rattle.termwiz_surface.specs.Surface.{SurfaceValue}
use Rattle.termwiz_screen.specs.Measured.{IsMeasured}
use Rattle.termwiz_surface.proofs.Drawn.{any_numbers, IsSound-put, rows-put, lengths-put}
use Rattle.termwiz_surface.proofs.Painted.{becomes-painted}
use Rattle.termwiz_surface.proofs.RowNumbers.{marks-set}
use Rattle.termwiz_surface.proofs.surface.Surface.put.Given as given
use Rattle.termwiz_surface.proofs.surface.Surface.put.Goals as goal

module _ (g : given.Over) (c : goal.After-self-1 g) where
  abbrev width : List ℕ → ℕ
  width = measure g.W.Widths.width_of c.self.inside.widths

  inside : c.self.inside.x < c.self.inside.width
  inside = subst (λ (s : SurfaceValue _). s.x < s.width) (sym c.self.view_is) c.requires.inside

  measured_so : IsMeasured width c.args.cell
  measured_so = subst (λ (s : SurfaceValue _). IsMeasured (measure g.W.Widths.width_of s.widths) c.args.cell) (sym c.self.view_is) c.requires.measured

  x_is : c.min-self-inside.result ≡ min (c.self.inside.x + columns c.args.cell) c.self.inside.width
  x_is = c.min-self-inside.ensures ∙ ap (λ n. min (c.self.inside.x + n) c.self.inside.width) c.width.ensures.value

pub invariant_of-self-2 : goal.invariant_of-self-2
invariant_of-self-2 g c = (
  rw (c.in_ok-paint_row.ensures.ok, c.in_ok-paint_row.ensures.sides.flags, x_is g c)
      (any_numbers _ _ _ _ (IsSound-put (width g c) _ c.args.cell c.self.invariant.0 (inside g c) (record { space = g.met.W.Widths.space_has_one c.self.inside.widths None }) (measured_so g c))),
  c.in_ok-paint_row.ensures.sides.vectors c.self.invariant.1,
  c.mark_row.ensures.len ∙ c.self.invariant.2,
)

pub returns-clause-ok : goal.returns-clause-ok
returns-clause-ok g c =
    rw (← c.self.view_is, c.in_ok-paint_row.ensures.ok, x_is g c) (becomes-painted
    (marks-set c.self.inside.y _ _ _ refl c.mark_row.ensures.marked refl c.in_ok-paint_row.ensures.sides.flags)
    (rows-put (width g c) _ c.args.cell c.self.invariant.0 (inside g c))
    (lengths-put (width g c) _ c.args.cell c.self.invariant.0 (inside g c))
    c.in_ok-paint_row.ensures.sides.flags)
