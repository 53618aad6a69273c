use Rattle.std.proofs.Common.{◌+◌, ◌∙◌, List, ap₂, set}
use Rattle.termwiz_cell.specs.CellValue.{CellValue}
use Rattle.termwiz_storage.proofs.Halves.{set_wide-torn}
use Rattle.termwiz_storage.proofs.line.vecstorage.VecStorage.set_wide.Goals as goal

pub returns-clause-ok : goal.returns-clause-ok
returns-clause-ok c =
    c.store_wide.ensures
    ∙ ap₂ (λ (cs : List CellValue) (h : CellValue). set (set cs (c.args.i + 1) h) c.args.i c.args.cell) c.in_ok-make_room.ensures.ok c.in_ok-half.ensures
    ∙ set_wide-torn c.args.i c.in_ok-end.end c.args.cell c.args.self.now c.requires c.in_ok-end.ensures
