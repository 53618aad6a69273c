use Rattle.std.proofs.lemmas.Result.{MatchResult-weaker}
use Rattle.termwiz_cell.specs.Link.{param_bytes}
use Rattle.termwiz_cell.proofs.Lists.{map-clone}
use Rattle.termwiz_cell.proofs.hyperlink.params.clone_params.Goals as goal

pub returns : goal.returns
returns c = MatchResult-weaker c.clone.result c.clone.ensures.cases (λ copy h. map-clone _ param_bytes (λ x y e i. (e.0 i, e.1 i)) _ _ h) (λ _ _. tt)
