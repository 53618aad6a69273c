use Rattle.std.proofs.Common.{◌↔◌, ℕ, List}
use Rattle.std.specs.List.{All}
use Rattle.termwiz_cell.specs.Measure.{measure}
use Rattle.termwiz_storage.specs.CellsLeft.{cells_left}
use Rattle.termwiz_screen.specs.Measured.{IsMeasured}
use Rattle.termwiz_surface.specs.Measuring.{AreMeasured}
use Rattle.termwiz_surface.proofs.surface.Surface.measures.Given as goal

-- those before are measured
abbrev pub invariant-loop-cell : goal.invariant-loop-cell
invariant-loop-cell g l =
    let f : List ℕ → ℕ = measure g.W.Widths.width_of l.fn.self.widths in
    All (λ p. IsMeasured f p.cell) (cells_left l.cell-iterator) ↔ AreMeasured f l.fn.line.cells
