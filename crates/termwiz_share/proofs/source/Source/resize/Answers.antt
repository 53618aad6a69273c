use Rattle.termwiz_cell.specs.Measure.{measure}
use Rattle.termwiz_share.proofs.Served.{serves_on}
use Rattle.termwiz_share.proofs.source.Source.resize.Goals as goal

pub returns-clause-preserves : goal.returns-clause-preserves
returns-clause-preserves g c =
    rw (← c.self.view_is) (serves_on (measure g.W.Widths.width_of) c.self.inside.number c.self.inside.surface c.resize.new.self c.resize.ensures.preserves)
