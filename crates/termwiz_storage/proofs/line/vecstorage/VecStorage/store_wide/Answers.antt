use Rattle.termwiz_storage.proofs.Owned.{marked_set_two}
use Rattle.termwiz_storage.proofs.line.vecstorage.VecStorage.store_wide.Goals as goal

pub invariant_of-self : goal.invariant_of-self
invariant_of-self c = rw (c.max-self-inside.ensures, c.owns_memory.ensures, c.owns_memory-2.ensures) (marked_set_two c.self.inside.used c.args.i c.self.inside.owns c.args.cell c.args.half c.self.inside.cells.items c.self.invariant)
