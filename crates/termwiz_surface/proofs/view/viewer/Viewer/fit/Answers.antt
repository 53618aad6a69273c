use Rattle.termwiz_surface.proofs.ResizedSize.{full_size-resized}
use Rattle.termwiz_surface.proofs.view.viewer.Viewer.fit.Goals as goal

pub returns-in_ok-resize-clause-sized : goal.returns-in_ok-resize-clause-sized
returns-in_ok-resize-clause-sized g c =
    let asked = c.dimensions-width in
    rw (← asked.ensures.width, ← asked.ensures.height) (full_size-resized c.self.inside.surface _ asked.result.0 asked.result.1 c.in_ok-resize.ensures.resizes.1)
