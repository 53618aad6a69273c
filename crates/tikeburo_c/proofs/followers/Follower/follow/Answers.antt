use Rattle.std.proofs.Common.{ℕ, inr, refl, subst}
use Rattle.std.specs.Prelude.{Err, Ok, Result}
use Rattle.std.proofs.lemmas.Result.{err_from_is_err_and}
use Rattle.termwiz_surface.specs.Surface.{SurfaceValue}
use Rattle.termwiz_surface.specs.declared.surface.SurfaceError.{SurfaceError}
use Rattle.tikeburo_c.specs.Following.{FollowsAs, HasTurned, StepsTo}
use Rattle.tikeburo_c.specs.declared.followers.Follower.{Follower}
use Rattle.tikeburo_c.specs.declared.widths.ChosenWidths.{ChosenWidths}
use Rattle.tikeburo_c.proofs.followers.Follower.follow.Goals as goal

-- it has turned to the surface, and follows it
follows-turned : (number : ℕ) (s : SurfaceValue ChosenWidths) (old mid new : Follower) (result : Result ℕ SurfaceError) → HasTurned number s old mid → StepsTo s mid result new → FollowsAs number s old result new
follows-turned number s old mid new result turned e = record {
  steps = subst (λ (f : Follower). StepsTo s f result new) turned.turned e;
  caught_up = λ knows. e.caught_up (turned.follows knows);
  fully_caught_up = λ knows full. e.fully_caught_up (turned.follows knows) full;
  follows = λ knows. e.follows (turned.follows knows);
}

pub returns : goal.returns
returns c =
    let result = Ok c.in_ok-step.field-0 in
    inr (result, refl, follows-turned c.args.source c.args.surface.now c.args.self.now c.turn_to.new.self c.step.new.self result c.in_ok-turn_to.ensures.turned c.in_ok-step.ensures)

pub returns-in_err-step : goal.returns-in_err-step
returns-in_err-step c =
    let p = err_from_is_err_and c.from_residual-in_err-step.result c.from_residual-in_err-step.ensures.1 in
    let result = Err c.in_err-step.field-0.0 in
    rw (p.1, p.2) (inr (result, refl, follows-turned c.args.source c.args.surface.now c.args.self.now c.turn_to.new.self c.step.new.self result c.in_ok-turn_to.ensures.turned c.in_err-step.ensures))
