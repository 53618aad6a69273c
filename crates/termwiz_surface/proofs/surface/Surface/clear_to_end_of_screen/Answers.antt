use Rattle.std.proofs.Common.{◌∙◌, inl, inr, List, get_or, refl, ap, arith}
use Rattle.termwiz_line.specs.LineFlags.{LineFlags, no_flags}
use Rattle.std.specs.Prelude.{None}
use Rattle.termwiz_cell.specs.Attributes.{with_background}
use Rattle.termwiz_cell.specs.Measure.{measure}
use Rattle.termwiz_screen.specs.ScreenValue.{cells_of}
use Rattle.termwiz_surface.proofs.Changed.{IsSound-partly, IsSound-eos, rows-eos, lengths-eos}
use Rattle.termwiz_surface.proofs.Drawn.{any_numbers}
use Rattle.termwiz_surface.proofs.Painted.{becomes-painted}
use Rattle.termwiz_surface.proofs.RowNumbers.{marks-range, range-from}
use Rattle.termwiz_surface.proofs.surface.Surface.clear_to_end_of_screen.Goals as goal

pub invariant_of-self : goal.invariant_of-self
invariant_of-self g c = (
  rw c.in_err-fill_rows.ensures.sides.flags
      (IsSound-partly (measure g.W.Widths.width_of c.self.inside.widths) _ (record { space = g.met.W.Widths.space_has_one c.self.inside.widths None }) c.self.invariant.0 (with_background c.args.color.now) _ (rw (c.in_ok-cleared.ensures, c.in_ok-pen.ensures) at (c.in_err-fill_rows.ensures.err c.self.invariant.0.column))),
  c.in_err-fill_rows.ensures.sides.vectors c.self.invariant.1,
  c.self.invariant.2,
)

pub invariant_of-self-2 : goal.invariant_of-self-2
invariant_of-self-2 g c = (
  rw (c.in_ok-pen.ensures, c.in_ok-fill_rows.ensures.sides.flags)
      (any_numbers _ _ _ _ (IsSound-eos (measure g.W.Widths.width_of c.self.inside.widths) _ (record { space = g.met.W.Widths.space_has_one c.self.inside.widths None }) c.self.invariant.0 (with_background c.args.color.now) _ (rw (c.in_ok-cleared.ensures, c.in_ok-pen.ensures) at c.in_ok-fill_rows.ensures.ok))),
  c.in_ok-fill_rows.ensures.sides.vectors c.self.invariant.1,
  c.mark_rows.ensures.len ∙ c.self.invariant.2,
)

pub returns-clause-ok : goal.returns-clause-ok
returns-clause-ok g c =
    let f = measure g.W.Widths.width_of c.self.inside.widths in
    let done = rw (c.in_ok-cleared.ensures, c.in_ok-pen.ensures) at c.in_ok-fill_rows.ensures.ok in
    rw (← c.self.view_is, c.in_ok-pen.ensures) (becomes-painted
    (marks-range _ _ _ c.self.inside.y _ (range-from c.self.inside.height c.self.inside.y) refl c.mark_rows.ensures.marked
    (λ j out. elim out [ inl before ↦ done.above j before | inr behind ↦ done.left j (omega (arith, behind, c.self.invariant.0.full, c.self.invariant.0.row)) ])
    (λ j out. ap (λ (fs : List LineFlags). get_or fs j no_flags) c.in_ok-fill_rows.ensures.sides.flags))
    (rows-eos f _ (record { space = g.met.W.Widths.space_has_one c.self.inside.widths None }) c.self.invariant.0 (with_background c.args.color.now) (cells_of c.fill_rows.new.rows.items) done)
    (lengths-eos f _ (record { space = g.met.W.Widths.space_has_one c.self.inside.widths None }) c.self.invariant.0 (with_background c.args.color.now) (cells_of c.fill_rows.new.rows.items) done)
    c.in_ok-fill_rows.ensures.sides.flags)
