use Rattle.std.proofs.Common.{◌∷◌}
use Rattle.termwiz_storage.specs.CellRef.{indexed_cell}
use Rattle.termwiz_storage.specs.CellsLeft.{cells_left}
use Rattle.termwiz_storage.specs.VisibleCell.{VisibleCell}
use Rattle.termwiz_line.specs.Clicks.{IsLower}
use Rattle.termwiz_line.proofs.Clicking.{IsLowering, is_word, is_no_word, or_click, or_click_is, none_is, some_is, lower-start, lower-skip, lower-resets, lower-begins, lower-goes_on, lower-done}
use Rattle.termwiz_line.proofs.line.line.clicks.lower_end.Goals as goal

pub loop-cell-init : goal.loop-cell-init
loop-cell-init g c = record { can = tt; finite = tt; at_most = tt; agreed = λ word a. rw c.into_iter-cell-iterator.ensures.into_iter_gives (lower-start word (cells_left c.args.cells) c.args.click) }

pub loop-cell-preserved-then-not-is_in_word : goal.loop-cell-preserved-then-not-is_in_word
loop-cell-preserved-then-not-is_in_word g c =
    let x : VisibleCell = indexed_cell c.in-Some.cell in
    let h = rw c.cell_index-index.ensures at c.if-index-click.true in
    record {
      can = tt;
      finite = tt;
      at_most = tt;
      agreed = λ word a. lower-resets word (cells_left c.args.cells) (cells_left c.next.new.self) c.args.click c.loop-cell.start x h (is_no_word word x (c.is_in_word.ensures word a) c.if-not-is_in_word.true) (rw c.in-Some.ensures.steps.0 at (c.loop-cell.invariant.agreed word a));
    }

pub loop-cell-preserved-then-is_none : goal.loop-cell-preserved-then-is_none
loop-cell-preserved-then-is_none g c =
    let x : VisibleCell = indexed_cell c.in-Some.cell in
    let h = rw c.cell_index-index.ensures at c.if-index-click.true in
    rw c.cell_index-index.ensures (record {
      can = tt;
      finite = tt;
      at_most = h;
      agreed = λ word a.
          let u : IsLowering word (cells_left c.args.cells) (x ∷ cells_left c.next.new.self) c.args.click c.loop-cell.start = rw c.in-Some.ensures.steps.0 at (c.loop-cell.invariant.agreed word a) in
          lower-begins word (cells_left c.args.cells) (cells_left c.next.new.self) c.args.click x h (is_word word x (c.is_in_word.ensures word a) c.if-not-is_in_word.false) (rw (none_is c.loop-cell.start c.if-is_none.ensures) at u);
    })

pub loop-cell-preserved-else-is_none : goal.loop-cell-preserved-else-is_none
loop-cell-preserved-else-is_none g c =
    let x : VisibleCell = indexed_cell c.in-Some.cell in
    let h = rw c.cell_index-index.ensures at c.if-index-click.true in
    record {
      can = tt;
      finite = tt;
      at_most = c.loop-cell.invariant.at_most;
      agreed = λ word a. lower-goes_on word (cells_left c.args.cells) (cells_left c.next.new.self) c.args.click c.loop-cell.start x (some_is c.loop-cell.start c.if-is_none.ensures) h (is_word word x (c.is_in_word.ensures word a) c.if-not-is_in_word.false) (rw c.in-Some.ensures.steps.0 at (c.loop-cell.invariant.agreed word a));
    }

pub loop-cell-preserved : goal.loop-cell-preserved
loop-cell-preserved g c =
    let x : VisibleCell = indexed_cell c.in-Some.cell in
    let h = rw c.cell_index-index.ensures at c.if-index-click.false in
    record {
      can = tt;
      finite = tt;
      at_most = c.loop-cell.invariant.at_most;
      agreed = λ word a. lower-skip word (cells_left c.args.cells) (cells_left c.next.new.self) c.args.click c.loop-cell.start x h (rw c.in-Some.ensures.steps.0 at (c.loop-cell.invariant.agreed word a));
    }

pub returns-clause-agreed : goal.returns-clause-agreed
returns-clause-agreed g c word a =
    let u : IsLower word (cells_left c.args.cells) c.args.click (or_click c.args.click c.loop-cell.start) = lower-done word (cells_left c.args.cells) c.args.click c.loop-cell.start (rw c.in-None.ensures.steps.0 at (c.loop-cell.invariant.agreed word a)) in
    rw (c.unwrap_or.ensures, or_click_is c.loop-cell.start c.args.click) u
