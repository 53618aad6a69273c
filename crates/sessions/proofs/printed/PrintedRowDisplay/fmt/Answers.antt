use Rattle.std.proofs.Common.{ℕ, List, [], ◌++◌, sym, ap, ◌∙◌, append_assoc, rules}
use Rattle.std.proofs.Output.{has_written_append}
use Rattle.termwiz_storage.specs.CellsLeft.{cells_left}
use Rattle.termwiz_line.specs.Texts.{texts_of}
use Rattle.sessions.proofs.printed.PrintedRowDisplay.fmt.Goals as goal

pub loop-cell-init : goal.loop-cell-init
loop-cell-init g c =
    λ plain. ([], search rules, ap texts_of (ap cells_left c.into_iter-cell-iterator.ensures.into_iter_gives ∙ c.visible_cells-cell-items.ensures))

pub loop-cell-preserved : goal.loop-cell-preserved
loop-cell-preserved g c =
    λ plain.
    let now = c.loop-cell.invariant plain in
    let left : List ℕ = texts_of (cells_left c.next.new.self) in (
      now.0 ++ c.str.result.now,
      has_written_append _ _ _ _ _ _ now.1 (search rules),
      append_assoc now.0 c.str.result.now left ∙ ap (λ (t : List ℕ). now.0 ++ t) ((λ i. c.str.ensures i ++ left) ∙ sym (ap texts_of c.in-Some.ensures.steps.0)) ∙ now.2,
    )
