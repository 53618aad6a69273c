use Rattle.std.proofs.Common.{◌≡◌, ◌∷◌, ◌∙◌, ℕ, suc, List, [], true, false, sym, subst, arith, rules}
use Rattle.std.proofs.lemmas.Bool.{true≢false}
use Rattle.std.proofs.lemmas.List.Elements.{All-cons, All-head, All-nil}
use Rattle.termwiz_cell.specs.Measure.{measure}
use Rattle.termwiz_storage.specs.CellRef.{indexed_cell}
use Rattle.termwiz_storage.specs.CellsLeft.{cells_left}
use Rattle.termwiz_storage.specs.VisibleCell.{VisibleCell}
use Rattle.termwiz_screen.specs.Measured.{IsMeasured}
use Rattle.termwiz_surface.specs.Surface.{SurfaceValue}
use Rattle.termwiz_surface.proofs.Measuring.{measured_printable}
use Rattle.termwiz_surface.proofs.surface.Surface.measures.Goals as goal

pub loop-cell-preserved : goal.loop-cell-preserved
loop-cell-preserved g c =
    let f = λ (s : SurfaceValue _). measure g.W.Widths.width_of s.widths in
    let cell : VisibleCell = indexed_cell c.in-Some.cell in
    let here : cells_left c.loop-cell.cell-iterator ≡ cell ∷ cells_left c.next.new.self = c.in-Some.ensures.steps.0 in
    let is = subst (λ (s : SurfaceValue _). IsMeasured (f s) cell.cell) c.self.view_is (c.is_measured.ensures.0 (search rules)) in
    let inv = rw here at c.loop-cell.invariant in
    (λ a. inv.0 (All-cons (λ (p : VisibleCell). IsMeasured (f c.args.self.now) p.cell) cell (cells_left c.next.new.self) is a), λ a k d l. inv.1 a (suc k) d (omega (arith, l)))

pub returns-then-not-is_measured-clause-measured : goal.returns-then-not-is_measured-clause-measured
returns-then-not-is_measured-clause-measured g c =
    let f = λ (s : SurfaceValue _). measure g.W.Widths.width_of s.widths in
    let cell : VisibleCell = indexed_cell c.in-Some.cell in
    let here : cells_left c.loop-cell.cell-iterator ≡ cell ∷ cells_left c.next.new.self = c.in-Some.ensures.steps.0 in
    let inv = rw here at c.loop-cell.invariant in
    let other : c.is_measured.result ≡ false = search rules in (
      λ no. absurd (true≢false (sym no)),
      λ all.
          let is = All-head (λ (p : VisibleCell). IsMeasured (f c.args.self.now) p.cell) cell (cells_left c.next.new.self) (inv.1 all) in
          let same : c.is_measured.result ≡ true = c.is_measured.ensures.1 (subst (λ (s : SurfaceValue _). IsMeasured (f s) cell.cell) (sym c.self.view_is) is) in
          absurd (true≢false (sym same ∙ other)),
    )

pub returns-clause-printable : goal.returns-clause-printable
returns-clause-printable g c =
    let f : List ℕ → ℕ = measure g.W.Widths.width_of c.args.self.now.widths in
    let none : cells_left c.loop-cell.cell-iterator ≡ [] = c.in-None.ensures.steps.0 in
    let inv = rw none at c.loop-cell.invariant in
    λ e. measured_printable f c.args.line.now.cells (inv.0 (All-nil (λ (p : VisibleCell). IsMeasured f p.cell)))
