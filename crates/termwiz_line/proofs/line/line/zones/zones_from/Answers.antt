use Rattle.std.proofs.Common.{◌≡◌, ◌-◌, [], rules, take, refl}
use Rattle.std.proofs.lemmas.Bool.{iff_false}
use Rattle.termwiz_storage.specs.CellRef.{indexed_cell}
use Rattle.termwiz_storage.specs.CellsLeft.{cells_left}
use Rattle.termwiz_line.proofs.Takes.{take_one, take_nil}
use Rattle.termwiz_line.proofs.Zoning.{zoning-start, zoning-grows, zoning-ends, zoning-done}
use Rattle.termwiz_line.proofs.line.line.zones.zones_from.Goals.{in-None, in-Some+then-left-eq0}
use Rattle.termwiz_line.proofs.line.line.zones.zones_from.Goals as goal

pub loop-cell-init : goal.loop-cell-init
loop-cell-init c = record { can = tt; finite = tt; zoning = rw (c.into_iter-cell-iterator.ensures.into_iter_gives, c.new-zones.ensures.items, c.zone_at-zone.ensures) (zoning-start (indexed_cell c.args.first) (take c.args.count (cells_left c.args.rest))) }

pub loop-cell-preserved-then-has_type : goal.loop-cell-preserved-then-has_type
loop-cell-preserved-then-has_type c =
    let e = take_one c.loop-cell.left (cells_left c.loop-cell.cell-iterator) (cells_left c.next.new.self) (indexed_cell c.in-Some.cell) c.if-left-eq0.false c.in-Some.ensures.steps.0 in
    let z = rw e at c.loop-cell.invariant.zoning in
    record { can = tt; finite = tt; zoning = rw c.cell_index-zone.ensures (zoning-grows (indexed_cell c.args.first) (take c.args.count (cells_left c.args.rest)) (take (c.loop-cell.left - 1) (cells_left c.next.new.self)) c.loop-cell.zones.items c.loop-cell.zone (indexed_cell c.in-Some.cell) (c.has_type.ensures.0 (search rules)) z) }

pub loop-cell-preserved : goal.loop-cell-preserved
loop-cell-preserved c =
    let e = take_one c.loop-cell.left (cells_left c.loop-cell.cell-iterator) (cells_left c.next.new.self) (indexed_cell c.in-Some.cell) c.if-left-eq0.false c.in-Some.ensures.steps.0 in
    let z = rw e at c.loop-cell.invariant.zoning in
    record { can = tt; finite = tt; zoning = rw (c.in_ok-push.ensures.items, c.zone_at-zone-else-has_type.ensures) (zoning-ends (indexed_cell c.args.first) (take c.args.count (cells_left c.args.rest)) (take (c.loop-cell.left - 1) (cells_left c.next.new.self)) c.loop-cell.zones.items c.loop-cell.zone (indexed_cell c.in-Some.cell) (iff_false c.has_type.ensures c.if-has_type.false) z) }

pub returns : goal.returns
returns c =
    let e : take c.loop-cell.left (cells_left c.loop-cell.cell-iterator) ≡ [] = elim c.match-next.branch [
      | in-None w ↦ rw w.in-None.ensures.steps.0 (take_nil c.loop-cell.left)
      | in-Some+then-left-eq0 w ↦ rw w.if-left-eq0.true refl
    ] in
    rw c.in_ok-push-2.ensures.items (zoning-done (indexed_cell c.args.first) (take c.args.count (cells_left c.args.rest)) c.loop-cell.zones.items c.loop-cell.zone (rw e at c.loop-cell.invariant.zoning))
