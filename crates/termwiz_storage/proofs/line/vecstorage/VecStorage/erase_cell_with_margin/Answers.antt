use Rattle.std.proofs.Common.{length, ap, arith}
use Rattle.std.proofs.lemmas.Bool.{or_parts}
use Rattle.termwiz_storage.proofs.Halves.{length-torn}
use Rattle.termwiz_storage.proofs.Owned.{marked_all, nothing_inserted_at_margin, nothing_remove}
use Rattle.termwiz_storage.proofs.line.vecstorage.VecStorage.erase_cell_with_margin.Goals as goal

pub shift_to_margin-requires-clause-place : goal.shift_to_margin-requires-clause-place
shift_to_margin-requires-clause-place c =
    omega (arith, c.if-x-len.true, c.len.ensures, ap length c.self.view_is, c.self.inside.cells.ok.0, ap length c.tear.ensures, length-torn c.args.x c.args.self.now, ap length c.self-then-x-len.view_is, c.self-then-x-len.inside.cells.ok.0)

pub invariant_of-self : goal.invariant_of-self
invariant_of-self c =
    let s = c.self-then-x-len in
    marked_all _ _ _ (omega (arith, c.shift_to_margin.new.cells.ok.0)) (λ h.
    let parts = or_parts s.inside.owns c.owns_memory-owned.result h in
    rw c.shift_to_margin.ensures (nothing_inserted_at_margin c.args.margin _ _ (rw c.owns_memory-owned.ensures at parts.1) (nothing_remove s.inside.cells.items c.args.x (s.invariant.unowned parts.0))))

pub invariant_of-self-2 : goal.invariant_of-self-2
invariant_of-self-2 c =
    marked_all _ _ _ (omega (arith, c.insert_at_margin.new.cells.ok.0)) (λ h.
    let parts = or_parts c.self.inside.owns c.owns_memory-owned.result h in
    rw c.in_ok-insert_at_margin.ensures.ok (nothing_inserted_at_margin c.args.margin _ _ (rw c.owns_memory-owned.ensures at parts.1) (c.self.invariant.unowned parts.0)))
