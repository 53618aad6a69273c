use Rattle.std.proofs.Common.{◌≡◌, List, Option, Result, ap, arith, inl, inr, map, refl, subst, sym}
use Rattle.std.specs.Prelude.{IfErr}
use Rattle.std.specs.Option.{is_some}
use Rattle.termwiz_cell.specs.Measure.{measure}
use Rattle.termwiz_share.specs.Client.{ClientValue, shown_by}
use Rattle.termwiz_share.specs.declared.taken.Taken.{Taken}
use Rattle.termwiz_share.specs.declared.error.ClientError.{ClientError}
use Rattle.termwiz_share.specs.declared.error.ClientError.TheVariants as errors
use Rattle.termwiz_surface.specs.{FullScreen, full_value}
use Rattle.uses.specs.Watching.{FailsBehind, FailsToTakeEach, StopsShowing}
use Rattle.uses.proofs.Returned.{returned}
use Rattle.uses.proofs.Taken.{as_kept, shown_last, shown_more, shown_none, stale_one, stopped_as_kept, stops_behind, stops_next, takes_none, takes_one}
use Rattle.uses.proofs.watching.show_each.Goals as goal

pub overflow_add-stale : goal.overflow_add-stale
overflow_add-stale g c = omega (arith, c.loop-taken.invariant.few, c.in_ok-keep.ensures.few, c.in_ok-taken.ensures.shorter (ap (λ (o : Option Taken). is_some o) c.in-Some.is))

pub loop-taken-init : goal.loop-taken-init
loop-taken-init g c = record {
  few = omega arith;
  takes = takes_none (measure g.W.Widths.width_of) c.keep.new.self;
  shown = λ histories sent future follows. shown_none (measure g.W.Widths.width_of) histories sent future c.keep.new.self (map full_value c.args.screens.now.items) follows;
}

pub loop-taken-preserved : goal.loop-taken-preserved
loop-taken-preserved g c =
    let at = c.loop-taken in
    let shorter = c.in_ok-taken.ensures.shorter (ap (λ (o : Option Taken). is_some o) c.in-Some.is) in
    record {
      few = omega (arith, at.invariant.few, shorter);
      takes = takes_one (measure g.W.Widths.width_of) c.keep.new.self at.client c.take_answer.new.self at.invariant.takes c.in_ok-taken.field-0 c.in-Some.taken c.in-Some.is c.in_ok-taken.ensures.takes;
      shown = λ histories sent future follows.
          let f = measure g.W.Widths.width_of in
          let so_far = at.invariant.shown histories sent future follows in
          let next = rw (c.in-Some.is, c.in-Stale.is) at c.in_ok-taken.ensures.follows histories so_far.has.others future so_far.has.follows in
          stale_one f histories sent future c.keep.new.self (map full_value c.args.screens.now.items) at.stale at.client c.take_answer.new.self (map full_value at.screens.items) so_far c.in-Stale.at next;
    }

pub loop-taken-preserved-in-Continue-branch-4 : goal.loop-taken-preserved-in-Continue-branch-4
loop-taken-preserved-in-Continue-branch-4 g c =
    let at = c.loop-taken in
    let shorter = c.in_ok-taken.ensures.shorter (ap (λ (o : Option Taken). is_some o) c.in-Some.is) in
    record {
      few = omega (arith, at.invariant.few, shorter);
      takes = takes_one (measure g.W.Widths.width_of) c.keep.new.self at.client c.take_answer.new.self at.invariant.takes c.in_ok-taken.field-0 c.in-Some.taken c.in-Some.is c.in_ok-taken.ensures.takes;
      shown = λ histories sent future follows.
          let f = measure g.W.Widths.width_of in
          let so_far = at.invariant.shown histories sent future follows in
          let next = rw (c.in-Some.is, c.in-Shown.is) at c.in_ok-taken.ensures.follows histories so_far.has.others future so_far.has.follows in
          shown_more f histories sent future c.keep.new.self (map full_value c.args.screens.now.items) at.stale at.client c.take_answer.new.self (map full_value at.screens.items) so_far (map full_value c.add_screen.new.screens.items) next c.in_ok-add_screen-in-Shown.ensures.added;
    }

pub returns-clause-shows : goal.returns-clause-shows
returns-clause-shows g c = λ histories sent future follows.
    let f = measure g.W.Widths.width_of in
    let at = c.loop-taken in
    let kept = c.in_ok-keep.ensures in
    let so_far = at.invariant.shown histories sent future (kept.follows histories sent future follows) in
    let next = rw c.in_default.is at c.in_ok-taken.ensures.follows histories so_far.has.others future so_far.has.follows in
    as_kept f histories sent future c.args.client.now c.keep.new.self c.take_answer.new.self (map full_value c.args.screens.now.items) (map full_value at.screens.items) at.stale (ap shown_by kept.keeps.1)
    (shown_last f histories sent future c.keep.new.self (map full_value c.args.screens.now.items) at.stale at.client c.take_answer.new.self (map full_value at.screens.items) so_far next)

pub returns-in_err-taken-clause-fails : goal.returns-in_err-taken-clause-fails
returns-in_err-taken-clause-fails g c = λ histories sent future follows.
    let f = measure g.W.Widths.width_of in
    let at = c.loop-taken in
    let old = c.args.client.now in
    let mid = c.keep.new.self in
    let new = c.take_answer.new.self in
    let before : List FullScreen = map full_value c.args.screens.now.items in
    let screens : List FullScreen = map full_value at.screens.items in
    let e = c.in_err-taken.field-0.0 in
    let kept = c.in_ok-keep.ensures in
    let so_far = at.invariant.shown histories sent future (kept.follows histories sent future follows) in
    returned (λ (r : Result _ ClientError). IfErr r (λ error. StopsShowing f histories sent future old before error new screens)) e c.from_residual-in_err-taken.result c.from_residual-in_err-taken.ensures.1
    (stopped_as_kept f histories sent future old mid new before screens e (ap shown_by kept.keeps.1)
    (stops_next f histories sent future mid before at.stale at.client new screens so_far e (c.in_err-taken.ensures.follows histories so_far.has.others future so_far.has.follows)))

pub returns-in_err-add_screen-in-Shown-clause-fails : goal.returns-in_err-add_screen-in-Shown-clause-fails
returns-in_err-add_screen-in-Shown-clause-fails g c = λ histories sent future follows.
    let f = measure g.W.Widths.width_of in
    let at = c.loop-taken in
    let old = c.args.client.now in
    let mid = c.keep.new.self in
    let new = c.take_answer.new.self in
    let before : List FullScreen = map full_value c.args.screens.now.items in
    let screens : List FullScreen = map full_value at.screens.items in
    let kept = c.in_ok-keep.ensures in
    let so_far = at.invariant.shown histories sent future (kept.follows histories sent future follows) in
    let next = rw (c.in-Some.is, c.in-Shown.is) at c.in_ok-taken.ensures.follows histories so_far.has.others future so_far.has.follows in
    let same : map full_value c.add_screen.new.screens.items ≡ screens = ap (map full_value) c.in_err-add_screen-in-Shown.ensures.kept in
    subst (λ (l : List FullScreen). IfErr c.from_residual-in_err-add_screen-in-Shown.result (λ error. StopsShowing f histories sent future old before error new l)) (sym same)
    (returned (λ (r : Result _ ClientError). IfErr r (λ error. StopsShowing f histories sent future old before error new screens)) errors.Memory c.from_residual-in_err-add_screen-in-Shown.result c.from_residual-in_err-add_screen-in-Shown.ensures.1
    (stopped_as_kept f histories sent future old mid new before screens errors.Memory (ap shown_by kept.keeps.1)
    (stops_behind f histories sent future mid before at.stale at.client new screens so_far next)))

pub returns-in_err-keep-clause-stops : goal.returns-in_err-keep-clause-stops
returns-in_err-keep-clause-stops g c =
    returned (λ (r : Result _ ClientError). IfErr r (λ error. FailsToTakeEach (measure g.W.Widths.width_of) c.args.client.now c.args.piece.now error c.keep.new.self)) c.in_err-keep.field-0.0 c.from_residual.result c.from_residual.ensures.1
    (inl c.in_err-keep.ensures.keeps)

pub returns-in_err-taken-clause-stops : goal.returns-in_err-taken-clause-stops
returns-in_err-taken-clause-stops g c =
    let f = measure g.W.Widths.width_of in
    let at = c.loop-taken in
    let new = c.take_answer.new.self in
    let e = c.in_err-taken.field-0.0 in
    returned (λ (r : Result _ ClientError). IfErr r (λ error. FailsToTakeEach f c.args.client.now c.args.piece.now error new)) e c.from_residual-in_err-taken.result c.from_residual-in_err-taken.ensures.1
    (inr (subst (λ (o : ClientValue _). FailsBehind f o e new) c.in_ok-keep.ensures.keeps.1 (record { mid = at.client; takes = at.invariant.takes; fails = inl c.in_err-taken.ensures.takes })))

pub returns-in_err-add_screen-in-Shown-clause-stops : goal.returns-in_err-add_screen-in-Shown-clause-stops
returns-in_err-add_screen-in-Shown-clause-stops g c =
    let f = measure g.W.Widths.width_of in
    let at = c.loop-taken in
    let mid = c.keep.new.self in
    let new = c.take_answer.new.self in
    let takes = takes_one f mid at.client new at.invariant.takes c.in_ok-taken.field-0 c.in-Some.taken c.in-Some.is c.in_ok-taken.ensures.takes in
    returned (λ (r : Result _ ClientError). IfErr r (λ error. FailsToTakeEach f c.args.client.now c.args.piece.now error new)) errors.Memory c.from_residual-in_err-add_screen-in-Shown.result c.from_residual-in_err-add_screen-in-Shown.ensures.1
    (inr (subst (λ (o : ClientValue _). FailsBehind f o errors.Memory new) c.in_ok-keep.ensures.keeps.1 (record { mid = new; takes = takes; fails = inr (refl, refl) })))
