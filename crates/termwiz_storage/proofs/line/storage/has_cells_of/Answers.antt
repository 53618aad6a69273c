use Rattle.std.proofs.Common.{◌∙◌, sym, ap}
use Rattle.termwiz_storage.specs.Edits.{with_halves}
use Rattle.termwiz_storage.specs.Stored.{visible}
use Rattle.termwiz_storage.specs.Storage.{cells_in}
use Rattle.termwiz_storage.proofs.Whole.{whole-is}
use Rattle.termwiz_storage.proofs.line.storage.has_cells_of.Goals as goal

pub returns : goal.returns
returns c =
    let own = c.len.ensures.whole in
    let others = c.is_whole.ensures.0 c.if-not-is_whole.false in (
      (λ e. sym (whole-is c.args.line.now own) ∙ ap with_halves (sym c.iter.ensures ∙ c.shows_same.ensures.0 e ∙ c.iter-2.ensures) ∙ whole-is (cells_in c.args.other.now) others),
      (λ e. c.shows_same.ensures.1 (c.iter.ensures ∙ ap visible e ∙ sym c.iter-2.ensures)),
    )
