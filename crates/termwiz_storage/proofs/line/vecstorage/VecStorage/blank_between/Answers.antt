use Rattle.std.proofs.Common.{arith}
use Rattle.termwiz_storage.proofs.Owned.{blanked_high, blanked_low}
use Rattle.termwiz_storage.proofs.Used.{written-whole}
use Rattle.termwiz_storage.proofs.line.vecstorage.VecStorage.blank_between.Goals as goal

pub invariant_of-self : goal.invariant_of-self
invariant_of-self c =
    let blanked = rw c.deref_mut.ensures.value at c.blank_cells.ensures in
    let written = written-whole c.self.inside.cells.len c.self.inside.cells.items c.blank_cells.new.cells (omega (arith, blanked.len, c.self.inside.cells.ok.0)) in
    rw (c.min-self-inside.ensures, written) (blanked_low c.self.inside.used c.args.from c.args.to c.min.result c.self.inside.owns c.self.inside.cells.items c.blank_cells.new.cells (omega arith) c.min.ensures blanked c.self.invariant)

pub invariant_of-self-else-self-to : goal.invariant_of-self-else-self-to
invariant_of-self-else-self-to c =
    let blanked = rw c.deref_mut.ensures.value at c.blank_cells.ensures in
    let written = written-whole c.self.inside.cells.len c.self.inside.cells.items c.blank_cells.new.cells (omega (arith, blanked.len, c.self.inside.cells.ok.0)) in
    rw written (blanked_high c.self.inside.used c.args.from c.args.to c.min.result c.self.inside.owns c.self.inside.cells.items c.blank_cells.new.cells (omega arith) c.min.ensures blanked c.self.invariant)
