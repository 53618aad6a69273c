use Rattle.uses.proofs.window.draw_rows.Goals as goal

pub returns-clause-drawn : goal.returns-clause-drawn
returns-clause-drawn g c = rw c.dimensions-width.ensures.width at c.draw_from.ensures.drawn

pub returns-clause-rows : goal.returns-clause-rows
returns-clause-rows g c = rw c.dimensions-width.ensures.width at c.draw_from.ensures.region
