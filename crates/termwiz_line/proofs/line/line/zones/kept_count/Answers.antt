use Rattle.std.proofs.Common.{◌∷◌, [], rules}
use Rattle.std.proofs.lemmas.Bool.{iff_false}
use Rattle.termwiz_cell.specs.CellValue.{blank}
use Rattle.termwiz_storage.specs.CellRef.{indexed_cell}
use Rattle.termwiz_storage.specs.CellsLeft.{cells_left}
use Rattle.termwiz_storage.proofs.CellRefs.{ref_cell-is, contents-is}
use Rattle.termwiz_line.specs.Zones.{IsBlank}
use Rattle.termwiz_line.proofs.Trims.{IsTrimUnderWay, trim-start, trim-dull, trim-counts, trim-done}
use Rattle.termwiz_line.proofs.line.line.zones.kept_count.Goals as goal

pub loop-cell-init : goal.loop-cell-init
loop-cell-init c = record { can = tt; finite = tt; trim = rw c.into_iter-cell-iterator.ensures.into_iter_gives (trim-start IsBlank (cells_left c.args.cells)) }

pub loop-cell-preserved-then-not-is_blank : goal.loop-cell-preserved-then-not-is_blank
loop-cell-preserved-then-not-is_blank c =
    let t : IsTrimUnderWay IsBlank (cells_left c.args.cells) c.loop-cell.seen c.loop-cell.kept (indexed_cell c.in-Some.cell ∷ cells_left c.next.new.self) = rw c.in-Some.ensures.steps.0 at c.loop-cell.invariant.trim in
    record { can = tt; finite = tt; trim = trim-counts IsBlank (cells_left c.args.cells) c.loop-cell.seen c.loop-cell.kept (indexed_cell c.in-Some.cell) (cells_left c.next.new.self) (λ e. iff_false c.is_blank.ensures c.if-not-is_blank.true (contents-is c.in-Some.cell blank c.in-Some.ensures.steps.1.width e)) t }

pub loop-cell-preserved : goal.loop-cell-preserved
loop-cell-preserved c =
    let t : IsTrimUnderWay IsBlank (cells_left c.args.cells) c.loop-cell.seen c.loop-cell.kept (indexed_cell c.in-Some.cell ∷ cells_left c.next.new.self) = rw c.in-Some.ensures.steps.0 at c.loop-cell.invariant.trim in
    record { can = tt; finite = tt; trim = trim-dull IsBlank (cells_left c.args.cells) c.loop-cell.seen c.loop-cell.kept (indexed_cell c.in-Some.cell) (cells_left c.next.new.self) (ref_cell-is c.in-Some.cell blank c.in-Some.ensures.steps.1.width (c.is_blank.ensures.0 (search rules))) t }

pub returns : goal.returns
returns c =
    let t : IsTrimUnderWay IsBlank (cells_left c.args.cells) c.loop-cell.seen c.loop-cell.kept [] = rw c.in-None.ensures.steps.0 at c.loop-cell.invariant.trim in
    trim-done IsBlank (cells_left c.args.cells) c.loop-cell.seen c.loop-cell.kept t
