use Rattle.std.proofs.Common.{[], ◌∷◌, ◌++◌, refl, sym, ◌∙◌, ap, subst}
use Rattle.std.proofs.lemmas.List.{append_assoc, append-nil}
use Rattle.std.proofs.lemmas.List.Elements.{All-head, All-tail}
use Rattle.std.specs.List.{All}
use Rattle.termwiz_surface.specs.Schedule.{Ended, IsInRange}
use Rattle.termwiz_surface.proofs.Running.{Runs-push}
use Rattle.termwiz_surface.proofs.view.serve_all.Goals as goal

pub loop-event-init : goal.loop-event-init
loop-event-init g c = rw (c.new-outcomes.ensures.items, c.new-waiting.ensures) ([], refl, c.requires.sizes, c.requires.follows, Ended c.args.surface.now c.args.viewer.now)

pub serve-requires-clause-range : goal.serve-requires-clause-range
serve-requires-clause-range g c =
    let (done, all, in_range, follows, run) = c.loop-event.invariant in
    All-head IsInRange c.in-Some.event _ (subst (All IsInRange) c.in-Some.ensures in_range)

pub loop-event-preserved : goal.loop-event-preserved
loop-event-preserved g c =
    let (done, all, in_range, follows, run) = c.loop-event.invariant in
    let event = c.in-Some.event in (
      done ++ event ∷ [],
      append_assoc done (event ∷ []) _ ∙ ap (λ waiting. done ++ waiting) (sym c.in-Some.ensures) ∙ all,
      All-tail IsInRange event _ (subst (All IsInRange) c.in-Some.ensures in_range),
      c.in_ok-serve.ensures.follows,
      rw c.in_ok-push.ensures.items (Runs-push event c.in_ok-serve.field-0 c.serve.new.surface c.serve.new.viewer run c.in_ok-serve.ensures.step),
    )

pub returns : goal.returns
returns g c =
    let (done, all, in_range, follows, run) = c.loop-event.invariant in
    let whole = sym (append-nil done) ∙ ap (λ waiting. done ++ waiting) (sym c.in_default.ensures) ∙ all in
    rw (← whole) run
