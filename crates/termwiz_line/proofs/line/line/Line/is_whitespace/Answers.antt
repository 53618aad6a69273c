use Rattle.std.proofs.Common.{◌≡◌, ◌∷◌, suc, rules, arith}
use Rattle.std.proofs.lemmas.List.Elements.{All-cons}
use Rattle.termwiz_cell.specs.CellValue.{space}
use Rattle.termwiz_storage.specs.CellRef.{indexed_cell}
use Rattle.termwiz_storage.specs.CellsLeft.{cells_left}
use Rattle.termwiz_storage.specs.VisibleCell.{VisibleCell}
use Rattle.termwiz_line.proofs.line.line.Line.is_whitespace.Goals as goal

pub loop-cell-preserved : goal.loop-cell-preserved
loop-cell-preserved c =
    let here : cells_left c.loop-cell.cell-iterator ≡ indexed_cell c.in-Some.cell ∷ cells_left c.next.new.self = c.in-Some.ensures.steps.0 in
    let is : (indexed_cell c.in-Some.cell).cell.text ≡ space = c.is_space.ensures.0 (search rules) in
    let inv = rw here at c.loop-cell.invariant in
    (λ a. inv.0 (All-cons (λ (p : VisibleCell). p.cell.text ≡ space) (indexed_cell c.in-Some.cell) (cells_left c.next.new.self) is a), λ a k d l. inv.1 a (suc k) d (omega (arith, l)))
