use Rattle.std.proofs.Common.{◌≡◌, List, [], ◌∷◌, length, refl, sym, ap, subst, ◌∙◌, rules, arith}
use Rattle.std.proofs.lemmas.List.Elements.{All-tail}
use Rattle.std.proofs.lemmas.List.{nil_from_length}
use Rattle.std.specs.Vec.Iter.{into_iter_items}
use Rattle.sessions.specs.Sending.{IsSendInRange}
use Rattle.sessions.specs.declared.send.runs.SendEvent.{SendEvent}
use Rattle.sessions.specs.declared.send.runs.SendOutcome.{SendOutcome}
use Rattle.sessions.proofs.Leading.{nobody}
use Rattle.sessions.proofs.Sent.{HasRun, first_run, next_run, ended_run}
use Rattle.sessions.proofs.send.runs.sent.Goals as goal

pub loop-event-init : goal.loop-event-init
loop-event-init c =
    let given = c.into_iter-event-iterator.ensures.into_iter_gives in
    let s = c.in_ok-source.source in
    let P : List SendOutcome → Type 0 = λ os. HasRun c.args.number c.args.width c.args.height c.args.events.items (into_iter_items c.into_iter-event-iterator.result) os s 0 in
    let Q : List SendEvent → Type 0 = λ left. HasRun c.args.number c.args.width c.args.height c.args.events.items left [] s 0 in
    let serves = c.in_ok-source.ensures.serves nobody (λ none. absurd (omega (arith, none, c.requires.source))) refl in
    record {
      run = subst P (sym c.new-outcomes.ensures.items) (subst Q (sym given.0) (first_run c.args.number c.args.width c.args.height c.args.events.items s 0 c.in_ok-source.ensures.blank refl serves c.requires.sizes));
      count = search rules;
    }

pub loop-event-preserved : goal.loop-event-preserved
loop-event-preserved c =
    let at = c.loop-event in
    let left : List SendEvent = into_iter_items c.next.new.self in
    let steps : into_iter_items at.event-iterator ≡ c.in-Some.event ∷ left = c.in-Some.ensures.steps.0 in
    let short = ap length steps in
    let P : List SendEvent → Type 0 = λ events. HasRun c.args.number c.args.width c.args.height c.args.events.items events at.outcomes.items at.source at.last in
    let run : HasRun c.args.number c.args.width c.args.height c.args.events.items (c.in-Some.event ∷ left) at.outcomes.items at.source at.last = subst P steps at.invariant.run in
    let Q : List SendOutcome → Type 0 = λ os. HasRun c.args.number c.args.width c.args.height c.args.events.items left os c.serve.new.source c.serve.new.last in
    record {
      run = subst Q (sym c.in_ok-push.ensures.items)
          (next_run c.args.number c.args.width c.args.height c.args.events.items left at.outcomes.items at.source c.serve.new.source at.last c.serve.new.last c.in-Some.event c.in_ok-outcome.outcome run
          (c.in_ok-outcome.ensures.steps run.viewing run.named) (All-tail IsSendInRange c.in-Some.event left run.in_range));
      count = omega (arith, c.in-Some.ensures.steps.1, at.invariant.count, short);
    }

pub returns : goal.returns
returns c =
    let at = c.loop-event in
    ended_run c.args.number c.args.width c.args.height c.args.events.items (into_iter_items at.event-iterator) at.outcomes.items at.source at.last
    (nil_from_length (into_iter_items at.event-iterator) (sym at.invariant.count ∙ c.in-None.ensures.steps.0)) at.invariant.run
