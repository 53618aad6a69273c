use Rattle.std.proofs.Common.{◌∙◌, List, ap, set}
use Rattle.termwiz_cell.specs.CellValue.{CellValue}
use Rattle.termwiz_storage.proofs.Halves.{set_narrow-torn}
use Rattle.termwiz_storage.proofs.line.vecstorage.VecStorage.set_narrow.Goals as goal

pub returns-clause-ok : goal.returns-clause-ok
returns-clause-ok c =
    c.store.ensures
    ∙ ap (λ (cs : List CellValue). set cs c.args.i c.args.cell) c.in_ok-make_room.ensures.ok
    ∙ set_narrow-torn c.args.i c.in_ok-end.end c.args.cell c.args.self.now c.requires c.in_ok-end.ensures
