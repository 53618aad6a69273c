use Rattle.std.proofs.Common.{◌≡◌, ◌-◌, ◌+◌, ◌≤◌, ◌∷◌, ◌++◌, [], List, rules, take, refl, ap, ◌∙◌, true}
use Rattle.std.proofs.lemmas.Bool.{iff_false}
use Rattle.termwiz_cell.specs.CellValue.{CellValue, columns}
use Rattle.termwiz_storage.specs.CellRef.{indexed_cell, ref_cell}
use Rattle.termwiz_storage.specs.CellsLeft.{cells_left}
use Rattle.termwiz_storage.specs.Edits.{with_half}
use Rattle.termwiz_storage.specs.Wrapped.{with_wrapped}
use Rattle.termwiz_line.specs.LineValue.{LineValue}
use Rattle.termwiz_line.specs.Wraps.{new_line}
use Rattle.termwiz_line.proofs.Takes.{take_one, take_nil}
use Rattle.termwiz_line.proofs.Wrapping.{wrapping-start, wrapping-grows, wrapping-ends, wrapping-done}
use Rattle.termwiz_line.proofs.line.line.wraps.lines_from.Goals.{in-None, in-Some+then-left-eq0}
use Rattle.termwiz_line.proofs.line.line.wraps.lines_from.Goals as goal

pub loop-cell-init : goal.loop-cell-init
loop-cell-init c = record {
  can = tt;
  finite = tt;
  of_cell = c.requires;
  wrapping = rw (c.into_iter-cell-iterator.ensures.into_iter_gives, c.new-lines.ensures.items, c.new-line.ensures.items) (wrapping-start c.args.width c.args.seqno (indexed_cell c.args.first) (take c.args.count (cells_left c.args.rest)) c.width-used.result (c.width-used.ensures ∙ c.requires.width));
}

pub loop-cell-preserved-in_ok-push_copy : goal.loop-cell-preserved-in_ok-push_copy
loop-cell-preserved-in_ok-push_copy c =
    let e = take_one c.loop-cell.left (cells_left c.loop-cell.cell-iterator) (cells_left c.next.new.self) (indexed_cell c.in-Some.cell) c.if-left-eq0.false c.in-Some.ensures.steps.0 in
    let z = rw e at c.loop-cell.invariant.wrapping in
    let more : c.width-more.result ≡ columns (ref_cell c.in-Some.cell) = c.width-more.ensures ∙ c.in-Some.ensures.steps.1.width in
    let room : c.loop-cell.used + c.width-more.result ≤ c.args.width = c.has_room.ensures.0 (search rules) in
    record {
      can = tt;
      finite = tt;
      of_cell = c.in-Some.ensures.steps.1;
      wrapping = rw (c.in_ok-push_copy.ensures, more) (wrapping-grows c.args.width c.args.seqno (indexed_cell c.args.first) (take c.args.count (cells_left c.args.rest)) (take (c.loop-cell.left - 1) (cells_left c.next.new.self)) c.loop-cell.lines.items c.loop-cell.line.items (indexed_cell c.loop-cell.last) (indexed_cell c.in-Some.cell) c.loop-cell.used (rw more at room) z);
    }

pub loop-cell-preserved : goal.loop-cell-preserved
loop-cell-preserved c =
    let e = take_one c.loop-cell.left (cells_left c.loop-cell.cell-iterator) (cells_left c.next.new.self) (indexed_cell c.in-Some.cell) c.if-left-eq0.false c.in-Some.ensures.steps.0 in
    let z = rw e at c.loop-cell.invariant.wrapping in
    let more : c.width-more.result ≡ columns (ref_cell c.in-Some.cell) = c.width-more.ensures ∙ c.in-Some.ensures.steps.1.width in
    let room : c.loop-cell.used + c.width-more.result ≤ c.args.width → ⊥ = iff_false c.has_room.ensures c.if-has_room.false in
    let line : List CellValue = c.loop-cell.line.items ++ with_half (with_wrapped true (ref_cell c.loop-cell.last)) in
    let made : c.from_cells.result ≡ new_line c.args.seqno line = c.from_cells.ensures ∙ ap (new_line c.args.seqno) c.in_ok-push_marked.ensures in
    let lines : c.push.new.self.items ≡ c.loop-cell.lines.items ++ new_line c.args.seqno line ∷ [] = c.in_ok-push.ensures.items ∙ ap (λ (l : LineValue). c.loop-cell.lines.items ++ l ∷ []) made in
    record {
      can = tt;
      finite = tt;
      of_cell = c.in-Some.ensures.steps.1;
      wrapping = rw (lines, c.new-line-else-has_room.ensures.items) (wrapping-ends c.args.width c.args.seqno (indexed_cell c.args.first) (take c.args.count (cells_left c.args.rest)) (take (c.loop-cell.left - 1) (cells_left c.next.new.self)) c.loop-cell.lines.items c.loop-cell.line.items (indexed_cell c.loop-cell.last) (indexed_cell c.in-Some.cell) c.loop-cell.used c.width-more.result more (rw more at room) z);
    }

pub returns : goal.returns
returns c =
    let e : take c.loop-cell.left (cells_left c.loop-cell.cell-iterator) ≡ [] = elim c.match-next.branch [
      | in-None w ↦ rw w.in-None.ensures.steps.0 (take_nil c.loop-cell.left)
      | in-Some+then-left-eq0 w ↦ rw w.if-left-eq0.true refl
    ] in
    let z = rw e at c.loop-cell.invariant.wrapping in
    let line : List CellValue = c.loop-cell.line.items ++ with_half (ref_cell c.loop-cell.last) in
    let made : c.from_cells-2.result ≡ new_line c.args.seqno line = c.from_cells-2.ensures ∙ ap (new_line c.args.seqno) c.in_ok-push_copy-2.ensures in
    let lines : c.push-2.new.self.items ≡ c.loop-cell.lines.items ++ new_line c.args.seqno line ∷ [] = c.in_ok-push-2.ensures.items ∙ ap (λ (l : LineValue). c.loop-cell.lines.items ++ l ∷ []) made in
    rw lines (wrapping-done c.args.width c.args.seqno (indexed_cell c.args.first) (take c.args.count (cells_left c.args.rest)) c.loop-cell.lines.items c.loop-cell.line.items (indexed_cell c.loop-cell.last) c.loop-cell.used z)
