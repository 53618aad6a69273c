use Rattle.std.proofs.Common.{◌≡◌, ◌∙◌, List, Some, get_or, length, vec_len, sym, ap, arith}
use Rattle.std.proofs.lemmas.List.{get_or_default}
use Rattle.termwiz_cell.specs.CellValue.{CellValue, blank}
use Rattle.termwiz_storage.specs.Stored.{stored}
use Rattle.termwiz_storage.proofs.VisibleAt.{cell_at-hidden, cell_at-past, cell_at-shown}
use Rattle.termwiz_storage.proofs.line.vecstorage.VecStorage.get_cell.Goals.{then-i-len-via-then-i-len, then-i-len-via-else-i-len+then-is_hidden}
use Rattle.termwiz_storage.proofs.line.vecstorage.VecStorage.get_cell.Goals as goal

pub returns-then-i-len-clause-cell : goal.returns-then-i-len-clause-cell
returns-then-i-len-clause-cell c =
    let cs : List CellValue = c.args.self.now in
    let long : vec_len c.self.inside.cells ≡ length cs = c.self.inside.cells.ok.0 ∙ ap length c.self.view_is in
    elim c.then-i-len.branch [
      | then-i-len-via-then-i-len w ↦ sym (cell_at-past cs c.args.i (omega arith))
      | then-i-len-via-else-i-len+then-is_hidden w ↦ sym (cell_at-hidden cs c.args.i (omega arith) (sym w.is_hidden.ensures.value ∙ w.if-is_hidden.true))
    ]

pub returns-clause-cell : goal.returns-clause-cell
returns-clause-cell c =
    let cs : List CellValue = c.args.self.now in
    let long : vec_len c.self.inside.cells ≡ length cs = c.self.inside.cells.ok.0 ∙ ap length c.self.view_is in
    let read : CellValue = c.index-cell.result.now in
    let cell : read ≡ stored cs c.args.i = c.index-cell.ensures ∙ ap (λ (xs : List CellValue). get_or xs c.args.i read) c.self.view_is ∙ get_or_default cs c.args.i read blank (omega arith) in
    ap Some cell ∙ sym (cell_at-shown cs c.args.i (omega arith) (sym c.is_hidden.ensures.value ∙ c.if-is_hidden.false))
