use Rattle.std.proofs.Common.{map, ◌++◌, ◌∷◌, [], ◌∙◌}
use Rattle.std.proofs.lemmas.List.{map-append}
use Rattle.termwiz_cell.specs.ChangeValue as change
use Rattle.termwiz_cell.specs.ChangeValue.{change_value}
use Rattle.termwiz_screen.proofs.repaint.clear_below.Goals as goal

pub returns : goal.returns
returns c =
    let left = c.drop_last.new.entries.items in
    let pushed = (λ i. map change_value (c.in_ok-push.ensures.items i)) ∙ map-append change_value left _ ∙ (λ i. c.drop_last.ensures i ++ change.ClearToEndOfScreen (c.background.ensures i) ∷ []) in
    λ i. record { entries = pushed i; pen = c.args.attrs.now }
