use Rattle.std.proofs.Common.{arith}
use Rattle.termwiz_surface.specs.Surface.{numbers_over}
use Rattle.termwiz_surface.proofs.RowNumbers.{renewed}
use Rattle.termwiz_surface.proofs.surface.numbers.RowNumbers.renew.Goals as goal

pub returns-clause-marked : goal.returns-clause-marked
returns-clause-marked c =
    renewed c.args.height c.args.first c.args.number c.bound_all.new.self.all (numbers_over c.args.self.now.all c.args.self.now.own.items) c.bound_all.new.self.own.items c.fit.new.self.own.items _ c.requires.inside
    (omega (arith, c.requires.kept, c.bound_all.ensures.len, c.bound_all.new.self.own.ok.0)) c.bound_all.ensures.bounded (omega (arith, c.fit.ensures.len, c.fit.new.self.own.ok.0)) c.bound_all.ensures.same c.fit.ensures.own
    (rw c.fit.ensures.all at c.mark_rows.ensures.marked)
