-- What doesn't depend on the form in which a line stores its cells, and which lists may stand in a
-- text.
use Rattle.std.specs.Prelude.{◌≡◌, ◌↔◌, true, List}
use Rattle.termwiz_cell.specs.CellValue.{CellValue}
use Rattle.termwiz_storage.specs.Clustered.{IsWhole}
use Rattle.termwiz_storage.specs.Edits.{with_halves}
use Rattle.termwiz_storage.specs.Stored.{visible}
use Rattle.termwiz_line.specs.LineEq.{line_eq}
use Rattle.termwiz_line.specs.LineValue.{LineValue}

-- lines are equal exactly where cells, number and flags are
abbrev pub EqualInAnyForm : Type 0
EqualInAnyForm =
    (a b : LineValue) →
    (line_eq a b ≡ true) ↔ ((a.cells ≡ b.cells) × ((a.seqno ≡ b.seqno) × (a.flags ≡ b.flags)))

-- in a list each hidden cell is its cell's half, and none is lacking, exactly where the list is its
-- visible cells with their halves
abbrev pub WholeIsVisible : Type 0
WholeIsVisible = (cs : List CellValue) → IsWhole cs ↔ (with_halves (visible cs) ≡ cs)
