use Rattle.std.proofs.Common.{◌∷◌, [], rules}
use Rattle.std.proofs.lemmas.Bool.{iff_false}
use Rattle.termwiz_storage.specs.CellRef.{indexed_cell}
use Rattle.termwiz_storage.specs.CellsLeft.{cells_left}
use Rattle.termwiz_line.specs.Wraps.{IsSpace}
use Rattle.termwiz_line.proofs.Trims.{IsTrimUnderWay, trim-start, trim-dull, trim-counts, trim-done}
use Rattle.termwiz_line.proofs.line.line.wraps.text_count.Goals as goal

pub loop-cell-init : goal.loop-cell-init
loop-cell-init c = record { can = tt; finite = tt; trim = rw c.into_iter-cell-iterator.ensures.into_iter_gives (trim-start IsSpace (cells_left c.args.cells)) }

pub loop-cell-preserved-then-not-is_space : goal.loop-cell-preserved-then-not-is_space
loop-cell-preserved-then-not-is_space c =
    let t : IsTrimUnderWay IsSpace (cells_left c.args.cells) c.loop-cell.seen c.loop-cell.kept (indexed_cell c.in-Some.cell ∷ cells_left c.next.new.self) = rw c.in-Some.ensures.steps.0 at c.loop-cell.invariant.trim in
    record { can = tt; finite = tt; trim = trim-counts IsSpace (cells_left c.args.cells) c.loop-cell.seen c.loop-cell.kept (indexed_cell c.in-Some.cell) (cells_left c.next.new.self) (iff_false c.is_space.ensures c.if-not-is_space.true) t }

pub loop-cell-preserved : goal.loop-cell-preserved
loop-cell-preserved c =
    let t : IsTrimUnderWay IsSpace (cells_left c.args.cells) c.loop-cell.seen c.loop-cell.kept (indexed_cell c.in-Some.cell ∷ cells_left c.next.new.self) = rw c.in-Some.ensures.steps.0 at c.loop-cell.invariant.trim in
    record { can = tt; finite = tt; trim = trim-dull IsSpace (cells_left c.args.cells) c.loop-cell.seen c.loop-cell.kept (indexed_cell c.in-Some.cell) (cells_left c.next.new.self) (c.is_space.ensures.0 (search rules)) t }

pub returns : goal.returns
returns c =
    let t : IsTrimUnderWay IsSpace (cells_left c.args.cells) c.loop-cell.seen c.loop-cell.kept [] = rw c.in-None.ensures.steps.0 at c.loop-cell.invariant.trim in
    trim-done IsSpace (cells_left c.args.cells) c.loop-cell.seen c.loop-cell.kept t
