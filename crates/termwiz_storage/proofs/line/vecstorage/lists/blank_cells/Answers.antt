use Rattle.std.proofs.Common.{◌<◌, length, arith, refl}
use Rattle.termwiz_storage.proofs.Owned.{nothing_set}
use Rattle.termwiz_storage.proofs.Used.{blanked-more, blanked-cut}
use Rattle.termwiz_storage.proofs.line.vecstorage.lists.blank_cells.Goals as goal

pub overwrite-requires : goal.overwrite-requires
overwrite-requires c = λ h. c.loop-i.invariant.unowned h c.loop-i.i _ (omega (arith, c.loop-i.invariant.blanked.len))

pub loop-i-preserved : goal.loop-i-preserved
loop-i-preserved c =
    let p = c.loop-i.invariant.blanked in
    let l : c.loop-i.i < length c.loop-i.cells = omega (arith, p.len) in
    rw (c.overwrite.ensures, c.blank.ensures) (record {
      blanked = blanked-more c.args.from c.loop-i.i c.args.cells.now c.loop-i.cells c.loop-i.invariant.from l p;
      unowned = λ h. nothing_set c.loop-i.cells c.loop-i.i _ refl (c.loop-i.invariant.unowned h);
      from = omega arith;
      upto = λ u. omega arith;
    })

pub returns : goal.returns
returns c = blanked-cut c.args.from c.args.to c.loop-i.i c.args.cells.now c.loop-i.cells (omega arith) c.loop-i.invariant.upto c.loop-i.invariant.blanked
