use Rattle.std.proofs.Common.{◌<◌, refl, arith}
use Rattle.std.proofs.lemmas.List.{get_or-take}
use Rattle.termwiz_surface.proofs.RowNumbers.{comes-in}
use Rattle.termwiz_surface.proofs.surface.numbers.RowNumbers.fit.Goals as goal

pub loop-row-init : goal.loop-row-init
loop-row-init c = record {
  own = λ j l.
      let inside : j < c.args.height = omega arith in
      rw c.truncate.ensures.items (get_or-take c.args.height c.args.self.now.own.items j 0 inside);
  from = omega arith;
  all = refl;
  len = omega arith;
  room = omega arith;
}

pub loop-row-preserved : goal.loop-row-preserved
loop-row-preserved c =
    let before = c.loop-row.invariant in
    record {
      own = rw c.push_reserved.ensures.items (comes-in c.loop-row.self.own.items c.args.self.now.own.items c.loop-row._row (omega (arith, before.len, c.loop-row.self.own.ok.0)) (omega (arith, before.from, c.args.self.now.own.ok.0)) before.own);
      from = omega (arith, before.from);
      all = before.all;
      len = omega (arith, before.len);
      room = omega (arith, before.room);
    }
