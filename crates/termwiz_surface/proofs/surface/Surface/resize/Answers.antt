use Rattle.termwiz_cell.specs.Measure.{measure}
use Rattle.termwiz_surface.proofs.Preserving.{preserves-resized}
use Rattle.termwiz_surface.proofs.surface.Surface.resize.Goals as goal

pub returns-clause-preserves : goal.returns-clause-preserves
returns-clause-preserves g c = preserves-resized (measure g.W.Widths.width_of) c.args.self.now c.change_size.new.self c.args.width c.args.height c.in_ok-change_size.ensures.ok
