use Rattle.std.proofs.Common.{sym, ap, ◌∙◌}
use Rattle.termwiz_cell.specs.Measure.{measure}
use Rattle.termwiz_surface.specs.Surface.{SurfaceValue}
use Rattle.termwiz_share.proofs.Served.{serves_first}
use Rattle.termwiz_share.proofs.source.Source.new.Goals as goal

pub returns-clause-serves : goal.returns-clause-serves
returns-clause-serves g c = λ client other one.
    let f = measure g.W.Widths.width_of in
    serves_first f (record { surface = c.in_ok-surface.surface; number = c.args.number }) client (ap (λ (s : SurfaceValue _). s.log) c.in_ok-surface.ensures) (one ∙ sym (ap (λ (s : SurfaceValue _). f s.widths) c.in_ok-surface.ensures)) other
