use Rattle.std.proofs.Common.{List, ℕ, ap, map, sym, ◌∙◌}
use Rattle.termwiz_cell.specs.Measure.{measure}
use Rattle.termwiz_surface.specs.Surface.{full_of}
use Rattle.termwiz_surface.specs.Unlogged.{lent_value}
use Rattle.termwiz_wire.specs.Lent.{lent_answer}
use Rattle.termwiz_share.proofs.Taking.{delta_taken, made_of}
use Rattle.termwiz_share.proofs.client.display.Display.take_delta.Goals as goal

pub returns-clause-takes : goal.returns-clause-takes
returns-clause-takes g c =
    let m : List ℕ → ℕ = measure g.W.Widths.width_of c.self.inside.surface.widths in
    let made = made_of m c.self.inside.surface c.add.new.self _ (lent_answer c.args.answer).answer.changes _ c.add.result (sym c.is_err.ensures.value ∙ c.if-is_err.false) (ap (map lent_value) c.deref.ensures.value) c.add.ensures.adds in
    let fit = rw (← c.self.view_is) at c.requires.fits in
    let size = rw (← c.self.view_is) at c.requires.size in
    let both = delta_taken m _ c.args.answer.source (lent_answer c.args.answer).answer (full_of c.add.new.self) c.requires.delta fit size made.0 in
    rw (← c.self.view_is) (both.0, both.1, both.2, made.1)
