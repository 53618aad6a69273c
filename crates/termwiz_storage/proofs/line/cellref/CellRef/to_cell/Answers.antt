use Rattle.std.proofs.Common.{◌∙◌}
use Rattle.std.proofs.lemmas.Result.{IfOk-weaker}
use Rattle.termwiz_storage.proofs.CellRefs.{cell_of-own}
use Rattle.termwiz_storage.proofs.line.cellref.CellRef.to_cell.Goals as goal

pub returns : goal.returns
returns c = IfOk-weaker c.as_cell.result _ _ (λ cell h. h ∙ cell_of-own c.args.self.now c.requires) c.as_cell.ensures
