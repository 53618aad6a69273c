use Rattle.std.proofs.Common.{◌<◌, arith}
use Rattle.std.proofs.lemmas.List.Elements.{All-head, All-tail}
use Rattle.termwiz_storage.specs.CellRef.{indexed_cell}
use Rattle.termwiz_storage.specs.CellsLeft.{cells_left}
use Rattle.termwiz_storage.specs.VisibleCell.{VisibleCell}
use Rattle.termwiz_line.proofs.Clicking.{is_word, is_no_word, upper-skip, upper-grows, upper-stops, upper-done}
use Rattle.termwiz_line.proofs.line.line.clicks.upper_end.Goals as goal

pub loop-cell-preserved-then-index-click : goal.loop-cell-preserved-then-index-click
loop-cell-preserved-then-index-click g c =
    let x : VisibleCell = indexed_cell c.in-Some.cell in
    let i = rw c.in-Some.ensures.steps.0 at c.loop-cell.invariant.indices in
    let h = rw c.cell_index-index.ensures at c.if-index-click.true in
    rw c.cell_index-index.ensures (record {
      can = tt;
      finite = tt;
      at_least = omega arith;
      at_most = let b : x.column < c.args.len = All-head (λ (p : VisibleCell). p.column < c.args.len) x (cells_left c.next.new.self) i in omega (arith, b);
      indices = All-tail (λ (p : VisibleCell). p.column < c.args.len) x (cells_left c.next.new.self) i;
      agreed = λ word a. upper-grows word (cells_left c.args.cells) (cells_left c.next.new.self) c.args.click c.loop-cell.upper x h (is_word word x (c.is_in_word.ensures word a) c.if-not-is_in_word.false) (rw c.in-Some.ensures.steps.0 at (c.loop-cell.invariant.agreed word a));
    })

pub loop-cell-preserved : goal.loop-cell-preserved
loop-cell-preserved g c =
    let x : VisibleCell = indexed_cell c.in-Some.cell in
    let h = rw c.cell_index-index.ensures at c.if-index-click.false in
    record {
      can = tt;
      finite = tt;
      at_least = c.loop-cell.invariant.at_least;
      at_most = c.loop-cell.invariant.at_most;
      indices = All-tail (λ (p : VisibleCell). p.column < c.args.len) x (cells_left c.next.new.self) (rw c.in-Some.ensures.steps.0 at c.loop-cell.invariant.indices);
      agreed = λ word a. upper-skip word (cells_left c.args.cells) (cells_left c.next.new.self) c.args.click c.loop-cell.upper x h (rw c.in-Some.ensures.steps.0 at (c.loop-cell.invariant.agreed word a));
    }

pub returns-in-None-clause-agreed : goal.returns-in-None-clause-agreed
returns-in-None-clause-agreed g c word a = upper-done word (cells_left c.args.cells) c.args.click c.loop-cell.upper (rw c.in-None.ensures.steps.0 at (c.loop-cell.invariant.agreed word a))

pub returns-then-not-is_in_word-clause-agreed : goal.returns-then-not-is_in_word-clause-agreed
returns-then-not-is_in_word-clause-agreed g c word a =
    let x : VisibleCell = indexed_cell c.in-Some.cell in
    let h = rw c.cell_index-index.ensures at c.if-index-click.true in
    upper-stops word (cells_left c.args.cells) (cells_left c.next.new.self) c.args.click c.loop-cell.upper x h (is_no_word word x (c.is_in_word.ensures word a) c.if-not-is_in_word.true) (rw c.in-Some.ensures.steps.0 at (c.loop-cell.invariant.agreed word a))
