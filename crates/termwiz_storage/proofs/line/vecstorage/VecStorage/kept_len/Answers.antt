use Rattle.std.proofs.Common.{◌≡◌, ◌∙◌, List, length, vec_len, sym, ap, arith}
use Rattle.termwiz_cell.specs.CellValue.{CellValue}
use Rattle.termwiz_storage.proofs.Kept.{IsKept-filled, IsKept-hiding}
use Rattle.termwiz_storage.proofs.line.vecstorage.VecStorage.kept_len.Goals.{else-end-len-via-then-end-len+else-is_hidden, else-end-len-via-else-end-len}
use Rattle.termwiz_storage.proofs.line.vecstorage.VecStorage.kept_len.Goals as goal

pub returns-then-is_hidden : goal.returns-then-is_hidden
returns-then-is_hidden c =
    let cs : List CellValue = c.args.self.now in
    let long : vec_len c.self.inside.cells ≡ length cs = c.self.inside.cells.ok.0 ∙ ap length c.self.view_is in
    IsKept-hiding c.filled_len-end.result cs c.filled_len-end.ensures (omega arith) (sym c.is_hidden.ensures.value ∙ c.if-is_hidden.true)

pub returns : goal.returns
returns c =
    let cs : List CellValue = c.args.self.now in
    let long : vec_len c.self.inside.cells ≡ length cs = c.self.inside.cells.ok.0 ∙ ap length c.self.view_is in
    IsKept-filled c.filled_len-end.result cs c.filled_len-end.ensures (λ l. elim c.else-end-len.branch [
      | else-end-len-via-then-end-len+else-is_hidden w ↦ sym w.is_hidden.ensures.value ∙ w.if-is_hidden.false
      | else-end-len-via-else-end-len w ↦ absurd (omega arith)
    ])
