use Rattle.std.proofs.Common.{◌≡◌, ◌+◌, drop, map, ap, sym, ◌∙◌, arith}
use Rattle.std.proofs.lemmas.List.{drop-map}
use Rattle.termwiz_cell.specs.ChangeValue.{change_value}
use Rattle.termwiz_screen.proofs.log.Log.take_out.Goals as goal

pub returns : goal.returns
returns c =
    let own = c.self.inside in
    let first : own.base + own.gone + 0 ≡ own.base + own.gone = omega arith in
    let kept : map change_value c.drop_first.new.changes.items ≡ drop own.gone (map change_value own.stored.items) = ap (map change_value) c.drop_first.ensures ∙ sym (drop-map change_value own.gone own.stored.items) in
    (λ i. record { first = first i; changes = kept i }) ∙ c.self.view_is
