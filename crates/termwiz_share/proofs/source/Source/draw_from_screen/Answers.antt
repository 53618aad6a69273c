use Rattle.termwiz_share.proofs.source.Source.draw_from_screen.Goals as goal

pub returns-clause-draws : goal.returns-clause-draws
returns-clause-draws g c =
    let size = c.dimensions-width.ensures in
    rw (size.width, size.height) at c.draw_from.ensures.draws

pub returns-clause-region : goal.returns-clause-region
returns-clause-region g c =
    let size = c.dimensions-width.ensures in
    rw (size.width, size.height) at c.draw_from.ensures.region
