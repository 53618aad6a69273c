use Rattle.std.proofs.Common.{◌≡◌, inl, inr, map, true, ap, ◌∙◌, subst}
use Rattle.termwiz_cell.proofs.Lists.{map-clone}
use Rattle.termwiz_cell.specs.ChangeValue.{change_value}
use Rattle.termwiz_screen.specs.Step.{regions_fit}
use Rattle.termwiz_screen.specs.Stream.{stream_of}
use Rattle.termwiz_surface.specs.Answer.{AnswerValue}
use Rattle.termwiz_surface.proofs.surface.answer.Answer.into_changes.Goals as goal

pub returns-clause-value : goal.returns-clause-value
returns-clause-value c =
    let own : stream_of c.self.inside.changes ≡ c.args.self.changes = ap (λ (a : AnswerValue). a.changes) c.self.view_is in
    elim c.in_ok-changes.ensures.ok [ inl e ↦ ap (map change_value) e ∙ own | inr z ↦ map-clone _ change_value (λ x y e. e) _ _ z ∙ own ]

pub returns-clause-regions : goal.returns-clause-regions
returns-clause-regions c =
    ap (regions_fit c.args.self.height) (returns-clause-value c) ∙ subst (λ (a : AnswerValue). regions_fit a.height a.changes ≡ true) c.self.view_is c.self.invariant.regions
