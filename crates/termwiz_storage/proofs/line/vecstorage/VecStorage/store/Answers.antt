use Rattle.termwiz_storage.proofs.Owned.{marked_set}
use Rattle.termwiz_storage.proofs.line.vecstorage.VecStorage.store.Goals as goal

pub invariant_of-self : goal.invariant_of-self
invariant_of-self c = rw (c.max-self-inside.ensures, c.owns_memory.ensures) (marked_set c.self.inside.used c.args.i c.self.inside.owns c.args.cell c.self.inside.cells.items c.self.invariant)
