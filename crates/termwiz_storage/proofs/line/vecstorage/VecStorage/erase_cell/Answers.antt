use Rattle.std.proofs.Common.{◌≡◌, ◌<◌, ◌∙◌, length, ap, arith}
use Rattle.std.specs.List.{remove}
use Rattle.termwiz_storage.proofs.Halves.{length-torn}
use Rattle.termwiz_storage.proofs.Owned.{marked_blank, marked_remove}
use Rattle.termwiz_storage.proofs.line.vecstorage.VecStorage.erase_cell.Goals as goal

pub invariant_of-self : goal.invariant_of-self
invariant_of-self c =
    let s = c.self-then-x-len in
    let same : length s.inside.cells.items ≡ length c.args.self.now = ap length (s.view_is ∙ c.tear.ensures) ∙ length-torn c.args.x c.args.self.now in
    let l : c.args.x < length s.inside.cells.items = omega (arith, ap length c.self.view_is, c.self.inside.cells.ok.0) in
    rw c.shift_out.ensures (marked_blank s.inside.used s.inside.owns (remove s.inside.cells.items c.args.x) (marked_remove s.inside.used c.args.x s.inside.owns s.inside.cells.items l s.invariant))
