use Rattle.std.proofs.Common.{◌≡◌, ◌+◌, ◌-◌, List, length, take, drop, map, ap, ◌∙◌, arith}
use Rattle.termwiz_cell.specs.declared.change.Change.{Change}
use Rattle.termwiz_cell.specs.ChangeValue.{change_value}
use Rattle.termwiz_cell.proofs.Lists.{map-clone}
use Rattle.termwiz_screen.proofs.Logs.{rest_mapped}
use Rattle.termwiz_screen.proofs.log.LogClone.clone.Goals as goal

pub returns : goal.returns
returns c =
    let own = c.self.inside in
    let s : List Change = c.deref.result.now in
    let kept = take (length s - own.gone) (drop own.gone s) in
    let first : own.base + own.gone + 0 ≡ own.base + own.gone = omega arith in
    let changes : map change_value c.in_ok-stored.stored.items ≡ drop own.gone (map change_value own.stored.items) =
    map-clone _ change_value (λ x y e. e) kept c.in_ok-stored.stored.items c.in_ok-stored.ensures.ok
    ∙ rest_mapped change_value s own.gone (length s - own.gone) (omega arith)
    ∙ ap (λ t. drop own.gone (map change_value t)) c.deref.ensures.value in
    record {
      cases = (λ i. record { first = first i; changes = changes i }) ∙ c.self.view_is;
    }
