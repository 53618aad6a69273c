use Rattle.std.proofs.Common.{refl, arith}
use Rattle.termwiz_surface.proofs.RowNumbers.{owns-all, owns-more, owns-none}
use Rattle.termwiz_surface.proofs.surface.numbers.RowNumbers.own_all.Goals as goal

pub loop-row-init : goal.loop-row-init
loop-row-init c = record { owns = owns-none c.args.self.now.all c.args.self.now.own.items; all = refl; len = refl; capacity = refl }

pub loop-row-preserved : goal.loop-row-preserved
loop-row-preserved c =
    let before = c.loop-row.invariant in
    record {
      owns = owns-more _ _ c.loop-row.self.own.items c.loop-row.row c.get.result (omega (arith, before.len, c.loop-row.self.own.ok.0)) (rw before.all at c.get.ensures) before.owns;
      all = before.all;
      len = before.len;
      capacity = before.capacity;
    }

pub returns-clause-own : goal.returns-clause-own
returns-clause-own c = owns-all _ _ c.loop-row.row c.loop-row.self.own.items (omega (arith, c.args.self.now.own.ok.0)) c.loop-row.invariant.owns
