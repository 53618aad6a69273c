use Rattle.std.proofs.Common.{◌≡◌, ◌<◌, get_or, length, arith}
use Rattle.std.proofs.lemmas.List.{get_or_default}
use Rattle.termwiz_screen.proofs.RowChanges.Grown.{grow_more}
use Rattle.termwiz_screen.proofs.rows.resizing.grow_some.Goals as goal

pub loop-i-preserved : goal.loop-i-preserved
loop-i-preserved c =
    let old = c.args.rows.now in
    let undos = c.loop-i.undos.items in
    let i = c.loop-i.i in
    let here : i ≡ length undos = omega (arith, c.loop-i.invariant.count, c.loop-i.undos.ok.0) in
    let inside : i < length old = omega arith in
    let rows = c.loop-i.rows in
    let row = get_or rows i c.index-rows-i.result in
    let read : row ≡ get_or rows i row = get_or_default rows i c.index-rows-i.result row (omega arith) in
    record {
      grown = grow_more c.args.width old rows undos c.push_reserved.new.self.items i row c.grow_row.new.row c.in_ok-undo.undo c.loop-i.invariant.grown here inside read c.in_ok-undo.ensures.ok c.in_ok-undo.ensures.undo c.push_reserved.ensures.items;
      count = omega (arith, c.push_reserved.ensures.len, c.loop-i.invariant.count);
      room = omega (arith, c.push_reserved.ensures.capacity, c.loop-i.invariant.room);
    }
