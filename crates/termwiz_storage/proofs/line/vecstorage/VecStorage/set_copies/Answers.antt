use Rattle.std.proofs.Common.{◌-◌, ◌∙◌, List, replicate, ap, arith}
use Rattle.termwiz_cell.specs.CellValue.{CellValue}
use Rattle.termwiz_storage.specs.Stored.{put_run}
use Rattle.termwiz_storage.proofs.Runs.{filled-copies}
use Rattle.termwiz_storage.proofs.line.vecstorage.VecStorage.set_copies.Goals as goal

pub returns-in_ok-make_room-clause-ok : goal.returns-in_ok-make_room-clause-ok
returns-in_ok-make_room-clause-ok c =
    let count = c.args.to - c.args.from in
    c.put_copies.ensures
    ∙ ap (λ (cs : List CellValue). put_run c.args.from (replicate count c.args.byte) c.args.attrs.now cs) c.in_ok-make_room.ensures.ok
    ∙ filled-copies c.args.from count c.args.to c.args.byte c.args.attrs.now c.args.self.now c.if-from-to.true (omega (arith, c.if-from-to.true))
