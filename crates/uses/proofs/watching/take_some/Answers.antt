use Rattle.std.proofs.Common.{◌≡◌, ℕ, arith, refl, subst}
use Rattle.std.specs.Prelude.{IfErr, Result}
use Rattle.termwiz_cell.specs.Measure.{measure}
use Rattle.termwiz_share.specs.declared.error.ClientError.{ClientError}
use Rattle.uses.specs.Watching.{FailsAfterSome}
use Rattle.uses.proofs.Returned.{returned}
use Rattle.uses.proofs.Taken.{HasTakenSome, some_all, some_ended, some_next, some_none, takes_more}
use Rattle.uses.proofs.watching.take_some.Goals as goal

pub loop-count-init : goal.loop-count-init
loop-count-init g c = record {
  follows = λ histories sent future follows. some_none (measure g.W.Widths.width_of) histories sent future c.args.client.now follows;
  takes = refl;
}

pub loop-count-preserved : goal.loop-count-preserved
loop-count-preserved g c =
    let f = measure g.W.Widths.width_of in
    let at = c.loop-count in
    let old = c.args.client.now in
    let new = c.take_answer.new.self in
    record {
      follows = λ histories sent future follows.
          let so_far = at.invariant.follows histories sent future follows in
          let next = c.in_ok-take_answer.ensures.follows histories so_far.has.others future so_far.has.follows in
          some_next f histories sent future old at.count at.client new so_far c.in_ok-take_answer.field-0 c.is_none.result c.is_none.ensures c.if-is_none.false next;
      takes = takes_more f at.count old at.client new at.invariant.takes c.in_ok-take_answer.field-0 c.is_none.result c.is_none.ensures c.if-is_none.false c.in_ok-take_answer.ensures.takes;
    }

pub returns-in_err-take_answer-clause-fails : goal.returns-in_err-take_answer-clause-fails
returns-in_err-take_answer-clause-fails g c =
    let f = measure g.W.Widths.width_of in
    let at = c.loop-count in
    let old = c.args.client.now in
    let new = c.take_answer.new.self in
    let error = c.in_err-take_answer.field-0.0 in
    returned (λ (r : Result ℕ ClientError). IfErr r (λ e. FailsAfterSome f c.args.most old e new)) error c.from_residual.result c.from_residual.ensures.1 (record {
      count = at.count;
      mid = at.client;
      few = omega arith;
      takes = at.invariant.takes;
      fails = c.in_err-take_answer.ensures.takes;
    })

pub returns-then-is_none-clause-follows : goal.returns-then-is_none-clause-follows
returns-then-is_none-clause-follows g c = λ histories sent future follows.
    let f = measure g.W.Widths.width_of in
    let at = c.loop-count in
    let so_far = at.invariant.follows histories sent future follows in
    let next = c.in_ok-take_answer.ensures.follows histories so_far.has.others future so_far.has.follows in
    some_ended f histories sent future c.args.client.now c.args.most at.count at.client c.take_answer.new.self so_far c.in_ok-take_answer.field-0 c.is_none.result c.is_none.ensures c.if-is_none.true next

pub returns-clause-follows : goal.returns-clause-follows
returns-clause-follows g c = λ histories sent future follows.
    let at = c.loop-count in
    let end : at.count ≡ c.args.most = omega arith in
    some_all (measure g.W.Widths.width_of) histories sent future c.args.client.now c.args.most at.client (subst (λ (n : ℕ). HasTakenSome (measure g.W.Widths.width_of) histories sent future c.args.client.now n at.client) end (at.invariant.follows histories sent future follows))
