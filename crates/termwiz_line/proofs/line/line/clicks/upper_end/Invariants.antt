use Rattle.std.proofs.Common.{ℕ, ◌<◌, ◌≤◌, Bool, List}
use Rattle.std.specs.Fn.{FnReturnsAt}
use Rattle.std.specs.List.{All}
use Rattle.termwiz_storage.specs.CellsLeft.{cells_left}
use Rattle.termwiz_line.specs.Clicks.{AnswersAs}
use Rattle.termwiz_line.proofs.Clicking.{IsUppering}
use Rattle.termwiz_line.proofs.line.line.clicks.upper_end.Given as goal

abbrev pub invariant-loop-cell : goal.invariant-loop-cell
invariant-loop-cell g l = record {
  can : (goal.iterator-loop-cell g).can_next l.cell-iterator;
  finite : (goal.iterator-loop-cell g).is_finite l.cell-iterator;
  at_least : l.click ≤ l.upper;
  at_most : l.upper ≤ l.len;
  indices : All (λ p. p.column < l.len) (cells_left l.cell-iterator);
  agreed : (word : List ℕ → Bool) → AnswersAs (FnReturnsAt g.F.Fn l.is_word) word → IsUppering word (cells_left l.fn.cells) (cells_left l.cell-iterator) l.click l.upper;
}
