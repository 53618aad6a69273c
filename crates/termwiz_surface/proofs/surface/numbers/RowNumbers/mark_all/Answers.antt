use Rattle.std.proofs.Common.{sym}
use Rattle.termwiz_surface.proofs.RowNumbers.{marked-all}
use Rattle.termwiz_surface.proofs.surface.numbers.RowNumbers.mark_all.Goals as goal

pub returns-clause-marked : goal.returns-clause-marked
returns-clause-marked c = marked-all c.args.self.now.all c.args.number _ c.args.self.now.own.items _ (sym c.args.self.now.own.ok.0) c.max-self.ensures
