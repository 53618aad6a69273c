use Rattle.std.proofs.Common.{ap, ◌∙◌, arith}
use Rattle.termwiz_cell.specs.Measure.{measure}
use Rattle.termwiz_surface.proofs.Drawn.{any_log}
use Rattle.termwiz_screen.proofs.Logs.{flushed_number, flushed_alike, flushed_whole}
use Rattle.termwiz_screen.specs.Log.{flushed}
use Rattle.termwiz_screen.proofs.LogRegions.{regions-flushed}
use Rattle.termwiz_surface.proofs.Preserving.{preserves-flushed}
use Rattle.termwiz_surface.proofs.surface.Surface.flush_changes_older_than.Goals as goal

pub invariant_of-self : goal.invariant_of-self
invariant_of-self g c =
    let log = c.self.inside.log in
    let form = c.self.invariant.0 in (
      rw c.flush.ensures (any_log _ _ _ form (omega (arith, flushed_number log c.args.seq, form.number_fits)) (regions-flushed c.self.inside.height c.args.seq log form.regions)),
      c.self.invariant.1,
      c.self.invariant.2,
    )

pub returns-clause-answers : goal.returns-clause-answers
returns-clause-answers g c =
    λ n most from. rw (← c.self.view_is, c.flush.ensures) (flushed_alike c.self.inside.log c.args.seq n most from)

pub returns-clause-emptied : goal.returns-clause-emptied
returns-clause-emptied g c =
    let log = c.self.inside.log in
    rw (← c.self.view_is, c.flush.ensures) (λ whole. ap (λ n. (flushed log n).changes) whole ∙ flushed_whole log)

pub returns-clause-preserves : goal.returns-clause-preserves
returns-clause-preserves g c =
    rw (← c.self.view_is, c.flush.ensures) (preserves-flushed (measure g.W.Widths.width_of) _ c.args.seq)
