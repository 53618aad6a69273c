use Rattle.std.proofs.Common.{◌≡◌, ◌<◌, ◌∙◌, ap, arith, length, refl, sym}
use Rattle.std.specs.Prelude.{Ok, Err, Result, slice_set}
use Rattle.std.proofs.lemmas.List.Elements.{All-set, AllWithin-more_set}
use Rattle.termwiz_surface.specs.{Follows, SurfaceValue, measure, next_number, screen_of}
use Rattle.uses.specs.Following.{FollowInTurn, FollowsOnce}
use Rattle.uses.proofs.InTurn.{changed_before, changed_here, changed_more, same_behind}
use Rattle.uses.proofs.Returned.{returned}
use Rattle.uses.proofs.renderer.refresh_all.Goals as goal

pub loop-each-preserved : goal.loop-each-preserved
loop-each-preserved g c =
    let lt : c.loop-each.each-index < length c.loop-each.viewers = omega arith in
    let f = measure g.W.Widths.width_of in
    let s = c.args.surface.now in
    let followed = c.loop-each.invariant.follows c.loop-each.each-index c.each-item.result lt in
    record {
      shown = AllWithin-more_set _ _ _ lt (λ v. screen_of v.surface ≡ screen_of s) c.loop-each.invariant.shown (c.in_ok-follow.ensures.caught_up followed).0;
      numbered = AllWithin-more_set _ _ _ lt (λ v. v.last ≡ next_number s.log) c.loop-each.invariant.numbered (c.in_ok-follow.ensures.caught_up followed).1;
      stepped = changed_more (λ v w. FollowsOnce f s v (Ok tt) w) c.args.viewers.now c.loop-each.viewers c.loop-each.each-index c.each-item.result c.follow.new.self lt c.each-item.is c.loop-each.invariant.stepped
          (refl, c.in_ok-follow.ensures.steps.1 ∙ c.in_ok-follow.ensures.steps.0, c.in_ok-follow.ensures.steps.2);
      follows = All-set (λ v. Follows f v s) _ _ _ (c.follow.ensures.follows followed) c.loop-each.invariant.follows;
    }

pub returns-in_err-follow-clause-steps : goal.returns-in_err-follow-clause-steps
returns-in_err-follow-clause-steps g c =
    let lt : c.loop-each.each-index < length c.loop-each.viewers = omega arith in
    let f = measure g.W.Widths.width_of in
    let s = c.args.surface.now in
    let at = c.loop-each.each-index in
    let old = c.args.viewers.now in
    let now = c.loop-each.viewers in
    let v = c.each-item.result in
    let w = c.follow.new.self in
    let e = c.in_err-follow.field-0.0 in
    let so_far = c.loop-each.invariant.stepped in
    returned (λ (r : Result (Unit {0}) _). FollowInTurn f s old r (slice_set now at w)) e c.from_residual.result c.from_residual.ensures.1 (record {
      at = at;
      inside = omega (arith, lt, c.loop-each.auto.viewers);
      before = changed_before (λ v w. FollowsOnce f s v (Ok tt) w) old now at v w lt c.each-item.is so_far;
      fails = changed_here (λ v w. FollowsOnce f s v (Ok tt) w) old now at v w lt c.each-item.is so_far (λ v w. FollowsOnce f s v (Err e) w) c.in_err-follow.ensures.steps;
      behind = same_behind (λ v w. FollowsOnce f s v (Ok tt) w) old now at v w lt c.each-item.is so_far;
    })

pub returns-in_err-follow-clause-follows : goal.returns-in_err-follow-clause-follows
returns-in_err-follow-clause-follows g c =
    let lt : c.loop-each.each-index < length c.loop-each.viewers = omega arith in
    let followed = c.loop-each.invariant.follows c.loop-each.each-index c.each-item.result lt in
    All-set (λ v. Follows (measure g.W.Widths.width_of) v c.args.surface.now) _ _ _ (c.follow.ensures.follows followed) c.loop-each.invariant.follows

pub returns-clause-steps : goal.returns-clause-steps
returns-clause-steps g c = λ k d lt. c.loop-each.invariant.stepped.done k d (omega (arith, lt, c.loop-each.auto.viewers, c.loop-each-test.false))

pub returns-clause-shown : goal.returns-clause-shown
returns-clause-shown g c = λ k d lt. c.loop-each.invariant.shown k d (omega arith) (omega (arith, lt, c.loop-each-test.false)) ∙ sym (ap (λ (s : SurfaceValue _). screen_of s) c.flush_changes_older_than.ensures.flushes)

pub returns-clause-numbered : goal.returns-clause-numbered
returns-clause-numbered g c = λ k d lt. c.loop-each.invariant.numbered k d (omega arith) (omega (arith, lt, c.loop-each-test.false))

pub returns-clause-follows : goal.returns-clause-follows
returns-clause-follows g c = λ k d h. c.flush_changes_older_than.ensures.preserves.viewers _ (c.loop-each.invariant.follows k d h)
