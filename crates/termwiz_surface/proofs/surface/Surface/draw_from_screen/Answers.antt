use Rattle.termwiz_surface.proofs.surface.Surface.draw_from_screen.Goals as goal

pub returns-clause-drawn : goal.returns-clause-drawn
returns-clause-drawn g c =
    let size = c.dimensions-width.ensures in
    rw (size.width, size.height) at c.draw_from.ensures.drawn

pub returns-clause-region : goal.returns-clause-region
returns-clause-region g c =
    let size = c.dimensions-width.ensures in
    rw (size.width, size.height) at c.draw_from.ensures.region
