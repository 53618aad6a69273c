use Rattle.std.proofs.lemmas.Result.{MatchResult-weaker}
use Rattle.std.proofs.Common.{ap, map, inl, inr}
use Rattle.termwiz_cell.specs.ChangeValue.{change_value}
use Rattle.termwiz_cell.proofs.Lists.{map-clone}
use Rattle.termwiz_surface.proofs.view.serving.copied.Goals as goal

pub returns : goal.returns
returns c =
    MatchResult-weaker c.into_owned.result c.into_owned.ensures.ok
    (λ copies h. elim h [ inl e ↦ ap (map change_value) e | inr z ↦ map-clone _ change_value (λ x y e. e) _ _ z ])
    (λ _ _. tt)
