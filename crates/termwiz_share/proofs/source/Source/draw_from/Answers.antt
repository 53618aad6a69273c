use Rattle.termwiz_cell.specs.Measure.{measure}
use Rattle.termwiz_share.proofs.Served.{serves_on}
use Rattle.termwiz_surface.proofs.Preserving.{preserves-then}
use Rattle.termwiz_share.proofs.source.Source.draw_from.Goals as goal

pub returns-clause-preserves : goal.returns-clause-preserves
returns-clause-preserves g c =
    let f = measure g.W.Widths.width_of in
    let s = c.self.inside.surface in
    rw (← c.self.view_is) (serves_on f c.self.inside.number s c.draw_from.new.self (preserves-then f s c.forget_unneeded.new.self c.draw_from.new.self c.forget_unneeded.ensures.preserves c.draw_from.ensures.preserves))

pub returns-clause-region : goal.returns-clause-region
returns-clause-region g c = rw (← c.self.view_is) (rw c.forget_unneeded.ensures.forgets at c.draw_from.ensures.region)
