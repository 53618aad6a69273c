use Rattle.std.proofs.Common.{List, subst}
use Rattle.termwiz_cell.specs.CellValue.{CellValue}
use Rattle.termwiz_storage.specs.Used.{IsBlanked}
use Rattle.termwiz_storage.proofs.Used.{fill-blanked}
use Rattle.termwiz_storage.proofs.line.vecstorage.VecStorage.set_blanks.Goals as goal

pub returns-in_ok-make_room-clause-ok : goal.returns-in_ok-make_room-clause-ok
returns-in_ok-make_room-clause-ok c =
    fill-blanked c.args.from c.args.to c.args.self.now c.blank_between.new.self c.if-from-to.true (subst (λ (cs : List CellValue). IsBlanked c.args.from c.args.to cs c.blank_between.new.self) c.in_ok-make_room.ensures.ok c.blank_between.ensures)
