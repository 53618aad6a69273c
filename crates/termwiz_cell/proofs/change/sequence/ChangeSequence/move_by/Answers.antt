use Rattle.std.proofs.Common.{rules, ◌≡◌, ◌∙◌, ℤ, pos, ◌-ℤ◌, ap₂, subst, arith}
use Rattle.std.specs.Int.{w64}
use Rattle.std.specs.Int.RustNames.{FitsSigned}
use Rattle.std.proofs.lemmas.Int.{to_z-of_z, ints}
use Rattle.std.proofs.lemmas.Result.{err_from_is_err_and}
use Rattle.termwiz_cell.specs.ChangeValue.{CursorPosition}
use Rattle.termwiz_cell.specs.declared.change.Position.TheVariants.{Relative}
use Rattle.termwiz_cell.proofs.change.sequence.ChangeSequence.move_by.Goals as goal

pub returns-clause-ok : goal.returns-clause-ok
returns-clause-ok g c =
    let right : c.in_ok-right.right ≡ pos c.args.place.0 -ℤ pos c.self.inside.x = omega (arith, ints, c.in_ok-right.ensures.ok) in
    let down : c.in_ok-down.down ≡ c.args.place.1 -ℤ c.self.inside.y = omega (arith, ints, c.in_ok-down.ensures.ok) in
    let right_fits : FitsSigned w64 c.in_ok-right.right = search rules in
    let down_fits : FitsSigned w64 c.in_ok-down.down = search rules in
    rw (← c.self.view_is) (
      (subst (FitsSigned w64) right right_fits, subst (FitsSigned w64) down down_fits),
      ap₂ (λ (a b : ℤ). CursorPosition (Relative a) (Relative b)) (to_z-of_z w64 c.in_ok-right.right right_fits ∙ right) (to_z-of_z w64 c.in_ok-down.down down_fits ∙ down),
    )

pub returns-in_err-down-clause-err : goal.returns-in_err-down-clause-err
returns-in_err-down-clause-err g c =
    let told = err_from_is_err_and c.from_residual-in_err-down.result c.from_residual-in_err-down.ensures.1 in
    let from_fits : FitsSigned w64 c.self.inside.y = search rules in
    let to_fits : FitsSigned w64 c.args.place.1 = search rules in
    rw (told.1) (told.2 ∙ c.in_err-down.ensures.err.0, λ fit. c.in_err-down.ensures.err.1 (subst (FitsSigned w64) (omega (arith, ints)) (rw (← c.self.view_is) at fit.1)))
