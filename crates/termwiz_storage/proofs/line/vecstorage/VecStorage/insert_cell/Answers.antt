use Rattle.std.proofs.Common.{arith}
use Rattle.std.proofs.lemmas.Bool.{or_parts}
use Rattle.termwiz_storage.proofs.Owned.{marked_all, nothing_inserted}
use Rattle.termwiz_storage.proofs.line.vecstorage.VecStorage.insert_cell.Goals as goal

pub invariant_of-self-2 : goal.invariant_of-self-2
invariant_of-self-2 c =
    marked_all _ _ _ (omega (arith, c.insert_moving.new.cells.ok.0)) (λ h.
    let parts = or_parts c.self.inside.owns c.owns_memory-owned.result h in
    rw c.in_ok-insert_moving.ensures.ok (nothing_inserted c.args.x c.args.cell c.args.margin c.self.inside.cells.items (rw c.owns_memory-owned.ensures at parts.1) (c.self.invariant.unowned parts.0)))
