use Rattle.termwiz_storage.proofs.Owned.{marked_take}
use Rattle.termwiz_storage.proofs.line.vecstorage.VecStorage.truncate.Goals as goal

pub invariant_of-self : goal.invariant_of-self
invariant_of-self c = rw (c.min-self-inside.ensures, c.cut.ensures) (marked_take c.self.inside.used c.args.len c.self.inside.owns c.self.inside.cells.items c.self.invariant)
