use Rattle.std.proofs.Common.{refl}
use Rattle.termwiz_cell.specs.Measure.{measure}
use Rattle.termwiz_surface.proofs.Running.{Allows-acts, Allows-follows}
use Rattle.termwiz_surface.proofs.view.serving.serve.Goals as goal

pub returns-in-Some-clause-step : goal.returns-in-Some-clause-step
returns-in-Some-clause-step g c =
    Allows-acts (measure g.W.Widths.width_of) c.args.surface.now c.act.new.surface c.args.viewer.now c.args.event c.in-Some.outcome c.in-Some.ensures.step

pub returns-in_ok-outcome-in-None-clause-step : goal.returns-in_ok-outcome-in-None-clause-step
returns-in_ok-outcome-in-None-clause-step g c =
    Allows-follows (measure g.W.Widths.width_of) c.args.surface.now c.act.new.surface c.args.viewer.now c.follow.new.viewer c.forget_made.new.viewer c.args.event c.in_ok-outcome-in-None.outcome (c.in-None.ensures.none refl) c.requires.follows c.in_ok-outcome-in-None.ensures.views c.forget_made.ensures.forgets
