use Rattle.std.proofs.Common.{ℕ, ◌∙◌, List, ap₂}
use Rattle.termwiz_cell.specs.CellValue.{CellValue}
use Rattle.termwiz_storage.specs.Stored.{put_run}
use Rattle.termwiz_storage.proofs.Runs.{put_run-torn}
use Rattle.termwiz_storage.proofs.line.vecstorage.VecStorage.set_run.Goals as goal

pub returns-in_ok-make_room-clause-ok : goal.returns-in_ok-make_room-clause-ok
returns-in_ok-make_room-clause-ok c =
    c.put_run.ensures
    ∙ ap₂ (λ (bs : List ℕ) (cs : List CellValue). put_run c.args.i bs c.args.attrs.now cs) c.as_bytes.ensures.value c.in_ok-make_room.ensures.ok
    ∙ put_run-torn c.args.i c.in_ok-end.end c.args.run.now c.args.attrs.now c.args.self.now c.if-i-end.true c.in_ok-end.ensures
