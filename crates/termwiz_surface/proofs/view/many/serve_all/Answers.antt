use Rattle.std.proofs.Common.{[], ◌∷◌, ◌++◌, refl, sym, ◌∙◌, ap, subst}
use Rattle.std.proofs.lemmas.List.{append_assoc, append-nil}
use Rattle.std.proofs.lemmas.List.Elements.{All-head, All-tail}
use Rattle.std.specs.List.{All}
use Rattle.termwiz_surface.specs.ManySchedule.{IsManyInRange, Ended}
use Rattle.termwiz_surface.specs.ManySteps.{many_state}
use Rattle.termwiz_surface.proofs.ManyRuns.{RunsMany-push}
use Rattle.termwiz_surface.proofs.view.many.serve_all.Goals as goal

pub loop-event-init : goal.loop-event-init
loop-event-init g c =
    rw (c.new-outcomes.ensures.items, c.new-answers.ensures.items, c.new-waiting.ensures) ([], refl, c.requires.sizes, [], c.requires.remembers, Ended (many_state c.args.surface.now c.args.viewers.now.items []))

pub serve-requires : goal.serve-requires
serve-requires g c =
    let (done, all, in_range, held, remembers, run) = c.loop-event.invariant in
    All-head IsManyInRange c.in-Some.event _ (subst (All IsManyInRange) c.in-Some.ensures in_range)

pub loop-event-preserved : goal.loop-event-preserved
loop-event-preserved g c =
    let (done, all, in_range, held, remembers, run) = c.loop-event.invariant in
    let event = c.in-Some.event in
    let served = c.in_ok-serve.ensures held remembers in (
      done ++ event ∷ [],
      append_assoc done (event ∷ []) _ ∙ ap (λ waiting. done ++ waiting) (sym c.in-Some.ensures) ∙ all,
      All-tail IsManyInRange event _ (subst (All IsManyInRange) c.in-Some.ensures in_range),
      served.later,
      served.remembers,
      rw c.in_ok-push.ensures.items (RunsMany-push event c.in_ok-serve.field-0 (many_state c.serve.new.surface c.serve.new.viewers.items served.later) run served.allows),
    )

pub returns : goal.returns
returns g c =
    let (done, all, in_range, held, remembers, run) = c.loop-event.invariant in
    let whole = sym (append-nil done) ∙ ap (λ waiting. done ++ waiting) (sym c.in_default.ensures) ∙ all in
    (many_state c.loop-event.surface c.loop-event.viewers.items held, rw (← whole) run)
