use Rattle.std.proofs.Common.{◌≡◌, ℕ, List, Some, get_or, sym, ◌∙◌, ap, arith}
use Rattle.std.proofs.lemmas.List.{get_or_default}
use Rattle.termwiz_cell.specs.CellValue.{CellValue, blank}
use Rattle.termwiz_storage.specs.Stored.{stored, visible}
use Rattle.termwiz_storage.specs.Wrapped.{last_index}
use Rattle.termwiz_storage.proofs.LastCell.{last_attrs-stored}
use Rattle.termwiz_storage.proofs.line.vecstorage.VecStorage.last_attrs.Goals as goal

pub returns : goal.returns
returns c =
    let cs : List CellValue = c.args.self.now in
    let k : ℕ = c.last_shown.result in
    let read : CellValue = c.index.result.now in
    let cell : read ≡ stored cs (last_index (visible cs)) =
    c.index.ensures ∙ ap (λ (xs : List CellValue). get_or xs k read) c.self.view_is ∙ get_or_default cs k read blank c.last_shown.ensures.within ∙ ap (stored cs) c.last_shown.ensures.value in
    ap Some (c.attrs.ensures ∙ ap (λ (d : CellValue). d.attrs) cell) ∙ sym (last_attrs-stored cs (omega arith))
