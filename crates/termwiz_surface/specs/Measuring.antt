-- Lines that are as wide as they are measured.
use Rattle.std.specs.Prelude.{ℕ, List}
use Rattle.std.specs.List.{All}
use Rattle.termwiz_cell.specs.CellValue.{CellValue}
use Rattle.termwiz_storage.specs.Stored.{visible}
use Rattle.termwiz_screen.specs.Measured.{IsMeasured}

-- each visible cell is one clean grapheme, with the width that is measured
abbrev pub AreMeasured : (List ℕ → ℕ) → List CellValue → Type 0
AreMeasured measure cells = All (λ p. IsMeasured measure p.cell) (visible cells)
