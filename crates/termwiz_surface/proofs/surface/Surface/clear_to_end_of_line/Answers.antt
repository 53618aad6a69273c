use Rattle.std.proofs.Common.{◌≡◌, ◌-◌, ◌<◌, ◌∙◌, ◌&&◌, inl, inr, List, get_or, nat_lt, refl, ap, subst, arith}
use Rattle.std.proofs.lemmas.Bool.{and_left, cases_lt, le-ltb, lt-ltb}
use Rattle.termwiz_line.specs.LineFlags.{LineFlags, no_flags}
use Rattle.std.specs.Prelude.{◌==◌, None}
use Rattle.termwiz_cell.specs.Attributes.{with_background}
use Rattle.termwiz_cell.specs.CellValue.{blank_of}
use Rattle.termwiz_cell.specs.Measure.{measure}
use Rattle.termwiz_screen.specs.ScreenValue.{cells_of}
use Rattle.termwiz_surface.proofs.Changed.{IsSound-partly, IsSound-eol, rows-eol, lengths-eol}
use Rattle.termwiz_surface.proofs.Drawn.{any_numbers}
use Rattle.termwiz_line.proofs.StoredRows.{row-pruned}
use Rattle.termwiz_storage.specs.Stored.{IsPruned, fill}
use Rattle.termwiz_screen.specs.Screen.{row_at}
use Rattle.termwiz_surface.proofs.Painted.{becomes-painted}
use Rattle.termwiz_surface.proofs.RowNumbers.{marks-alike, marks-one, marks-shown}
use Rattle.termwiz_surface.proofs.surface.Surface.clear_to_end_of_line.Goals as goal

pub invariant_of-self : goal.invariant_of-self
invariant_of-self g c = (
  rw c.in_err-fill_row.ensures.sides.flags
      (IsSound-partly (measure g.W.Widths.width_of c.self.inside.widths) _ (record { space = g.met.W.Widths.space_has_one c.self.inside.widths None }) c.self.invariant.0 (with_background c.args.color.now) _ (rw (c.in_ok-cleared.ensures, c.in_ok-pen.ensures) at (c.in_err-fill_row.ensures.err c.self.invariant.0.column))),
  c.in_err-fill_row.ensures.sides.vectors c.self.invariant.1,
  c.self.invariant.2,
)

pub invariant_of-self-then-self : goal.invariant_of-self-then-self
invariant_of-self-then-self g c = (
  rw (c.in_ok-pen.ensures, c.in_ok-fill_row.ensures.sides.flags)
      (IsSound-eol (measure g.W.Widths.width_of c.self.inside.widths) _ (record { space = g.met.W.Widths.space_has_one c.self.inside.widths None }) c.self.invariant.0 (with_background c.args.color.now) _ (rw (c.in_ok-cleared.ensures, c.in_ok-pen.ensures) at c.in_ok-fill_row.ensures.ok)),
  c.in_ok-fill_row.ensures.sides.vectors c.self.invariant.1,
  c.self.invariant.2,
)

pub invariant_of-self-2 : goal.invariant_of-self-2
invariant_of-self-2 g c = (
  rw (c.in_ok-pen.ensures, c.in_ok-fill_row.ensures.sides.flags)
      (any_numbers _ _ _ _ (IsSound-eol (measure g.W.Widths.width_of c.self.inside.widths) _ (record { space = g.met.W.Widths.space_has_one c.self.inside.widths None }) c.self.invariant.0 (with_background c.args.color.now) _ (rw (c.in_ok-cleared.ensures, c.in_ok-pen.ensures) at c.in_ok-fill_row.ensures.ok))),
  c.in_ok-fill_row.ensures.sides.vectors c.self.invariant.1,
  c.mark_row.ensures.len ∙ c.self.invariant.2,
)

pub returns-then-self-clause-ok : goal.returns-then-self-clause-ok
returns-then-self-clause-ok g c =
    let f = measure g.W.Widths.width_of c.self.inside.widths in
    let done = rw (c.in_ok-cleared.ensures, c.in_ok-pen.ensures) at c.in_ok-fill_row.ensures.ok in
    let y = c.self.inside.y in
    let width = c.self.inside.width in
    let none : width - c.self.inside.x ≡ 0 = omega (arith, c.if-self.true) in
    rw (← c.self.view_is, c.in_ok-pen.ensures) (becomes-painted
    (marks-shown _ y _ _ (λ j. and_left (nat_lt c.self.inside.x width) (j == y) (le-ltb c.self.inside.x width (omega (arith, c.if-self.true)))) refl refl
    (row-pruned width _ _ (subst (λ k. IsPruned (fill k c.self.inside.x (blank_of (with_background c.args.color.now)) (row_at (cells_of c.self.inside.rows.items) y)) (row_at (cells_of c.fill_row.new.rows.items) y)) none done.here))
    (λ j out. elim out [ inl before ↦ done.above j before | inr behind ↦ done.left j behind ])
    c.in_ok-fill_row.ensures.sides.flags)
    (rows-eol f _ (record { space = g.met.W.Widths.space_has_one c.self.inside.widths None }) c.self.invariant.0 (with_background c.args.color.now) (cells_of c.fill_row.new.rows.items) done)
    (lengths-eol f _ (record { space = g.met.W.Widths.space_has_one c.self.inside.widths None }) c.self.invariant.0 (with_background c.args.color.now) (cells_of c.fill_row.new.rows.items) done)
    c.in_ok-fill_row.ensures.sides.flags)

pub returns-clause-ok : goal.returns-clause-ok
returns-clause-ok g c =
    let f = measure g.W.Widths.width_of c.self.inside.widths in
    let done = rw (c.in_ok-cleared.ensures, c.in_ok-pen.ensures) at c.in_ok-fill_row.ensures.ok in
    let y = c.self.inside.y in
    let inner : c.self.inside.x < c.self.inside.width = elim (cases_lt c.self.inside.x c.self.inside.width) [
      | inl less ↦ less
      | inr full ↦ absurd (c.if-self.false (omega (arith, full, c.self.invariant.0.column)))
    ] in
    rw (← c.self.view_is, c.in_ok-pen.ensures) (becomes-painted
    (marks-alike (λ j. j == y) _ _ _ (λ j. ap (λ b. b && (j == y)) (lt-ltb c.self.inside.x c.self.inside.width inner))
    (marks-one y _ _ refl c.mark_row.ensures.marked
    (λ j out. elim out [ inl before ↦ done.above j before | inr behind ↦ done.left j behind ])
    (λ j out. ap (λ (fs : List LineFlags). get_or fs j no_flags) c.in_ok-fill_row.ensures.sides.flags)))
    (rows-eol f _ (record { space = g.met.W.Widths.space_has_one c.self.inside.widths None }) c.self.invariant.0 (with_background c.args.color.now) (cells_of c.fill_row.new.rows.items) done)
    (lengths-eol f _ (record { space = g.met.W.Widths.space_has_one c.self.inside.widths None }) c.self.invariant.0 (with_background c.args.color.now) (cells_of c.fill_row.new.rows.items) done)
    c.in_ok-fill_row.ensures.sides.flags)
