use Rattle.termwiz_cell.specs.Measure.{measure}
use Rattle.termwiz_surface.proofs.Viewing.{FollowsTo-missed}
use Rattle.termwiz_surface.proofs.view.viewer.Viewer.fetch.Goals as goal

pub returns-in-Err-clause-missed : goal.returns-in-Err-clause-missed
returns-in-Err-clause-missed g c =
    FollowsTo-missed (measure g.W.Widths.width_of) (measure g.W.Widths.width_of c.args.source.now.widths) c.args.source.now c.args.self.now c.ask.new.self _ c.in-Err.error c.in-Err.ensures.fetches c.forget.ensures
