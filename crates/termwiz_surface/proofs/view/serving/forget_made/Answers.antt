use Rattle.std.proofs.Common.{ap, ◌∙◌}
use Rattle.termwiz_screen.specs.Log.{flushed, next_number}
use Rattle.termwiz_surface.specs.Adding.{with_log}
use Rattle.termwiz_surface.proofs.view.serving.forget_made.Goals as goal

pub returns-clause-forgets : goal.returns-clause-forgets
returns-clause-forgets g c =
    let flush = c.flush_changes_older_than.ensures in
    let s = c.args.viewer.now.surface in
    let number = c.current_seqno.ensures.value ∙ ap (λ v. next_number v.log) c.surface.ensures in
    λ i. record { surface = (flush.flushes ∙ ap (λ n. with_log s (flushed s.log n)) number) i; last = flush.last i }
