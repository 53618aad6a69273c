use Rattle.std.proofs.Common.{sym, ◌∙◌}
use Rattle.termwiz_cell.specs.Measure.{measure}
use Rattle.termwiz_screen.specs.Stream.{stream_of}
use Rattle.termwiz_surface.proofs.Preserving.{preserves-made, preserves-unmade}
use Rattle.termwiz_surface.proofs.surface.Surface.add_own_changes.Goals as goal

pub returns-then-is_err-clause-preserves : goal.returns-then-is_err-clause-preserves
returns-then-is_err-clause-preserves g c =
    preserves-unmade (measure g.W.Widths.width_of) c.args.self.now c.make_own.new.self _ c.make_own.result (sym c.is_err.ensures.value ∙ c.if-is_err.true) c.make_own.ensures.err c.restart.ensures.frame c.restart.ensures.numbered

pub returns-clause-preserves : goal.returns-clause-preserves
returns-clause-preserves g c =
    preserves-made (measure g.W.Widths.width_of) c.args.self.now c.make_own.new.self (stream_of c.args.changes) c.make_own.result (sym c.is_err.ensures.value ∙ c.if-is_err.false) c.make_own.ensures.none c.make_own.ensures.ok
