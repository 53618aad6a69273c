use Rattle.std.proofs.Common.{◌≡◌, ◌↔◌}
use Rattle.std.specs.List.{All}
use Rattle.termwiz_cell.specs.CellValue.{space}
use Rattle.termwiz_storage.specs.CellsLeft.{cells_left}
use Rattle.termwiz_storage.specs.Stored.{visible}
use Rattle.termwiz_line.proofs.line.line.Line.is_whitespace.Given as goal

-- those before are spaces
abbrev pub invariant-loop-cell : goal.invariant-loop-cell
invariant-loop-cell l = All (λ p. p.cell.text ≡ space) (cells_left l.cell-iterator) ↔ All (λ p. p.cell.text ≡ space) (visible l.self.cells)
