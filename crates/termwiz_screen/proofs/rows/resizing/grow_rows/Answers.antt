use Rattle.std.proofs.Common.{◌≡◌, ◌<◌, ◌++◌, ◌∷◌, [], get_or, length, length-append, ap, arith}
use Rattle.std.proofs.lemmas.List.{get_or_default}
use Rattle.termwiz_screen.proofs.RowChanges.Grown.{can_undo_last, undo_last}
use Rattle.termwiz_screen.proofs.rows.resizing.grow_rows.Goals as goal

pub undo_row-requires : goal.undo_row-requires
undo_row-requires c =
    let old = c.args.rows.now in
    let undos = c.loop-row.undos.items in
    let us = c.pop.new.self.items in
    let u = c.unwrap-undo.result in
    let pop : undos ≡ us ++ u ∷ [] = rw c.unwrap-undo.ensures at c.pop.ensures.items in
    let here : c.len.result ≡ length us = omega (arith, c.len.ensures, c.pop.new.self.ok.0) in
    let inside : c.len.result < length old = omega (arith, ap length pop, length-append us (u ∷ []), c.loop-row.invariant.within, c.loop-row.undos.ok.0) in
    let rows = c.loop-row.rows in
    let row = get_or rows c.len.result c.index-rows-len.result in
    let read : row ≡ get_or rows c.len.result row = get_or_default rows c.len.result c.index-rows-len.result row (omega arith) in
    can_undo_last c.args.width old rows undos us c.len.result row u c.loop-row.invariant.grown here inside read pop

pub loop-row-preserved : goal.loop-row-preserved
loop-row-preserved c =
    let old = c.args.rows.now in
    let undos = c.loop-row.undos.items in
    let us = c.pop.new.self.items in
    let u = c.unwrap-undo.result in
    let pop : undos ≡ us ++ u ∷ [] = rw c.unwrap-undo.ensures at c.pop.ensures.items in
    let here : c.len.result ≡ length us = omega (arith, c.len.ensures, c.pop.new.self.ok.0) in
    let inside : c.len.result < length old = omega (arith, ap length pop, length-append us (u ∷ []), c.loop-row.invariant.within, c.loop-row.undos.ok.0) in
    let rows = c.loop-row.rows in
    let row = get_or rows c.len.result c.index-rows-len.result in
    let read : row ≡ get_or rows c.len.result row = get_or_default rows c.len.result c.index-rows-len.result row (omega arith) in
    record {
      grown = undo_last c.args.width old rows undos us c.len.result row u c.loop-row.invariant.grown here inside read pop c.undo_row.new.row c.undo_row.ensures;
      count = omega (arith, ap length pop, length-append us (u ∷ []), c.loop-row.undos.ok.0, c.pop.new.self.ok.0, c.loop-row.invariant.count);
      within = omega (arith, ap length pop, length-append us (u ∷ []), c.loop-row.undos.ok.0, c.pop.new.self.ok.0, c.loop-row.invariant.within);
    }
