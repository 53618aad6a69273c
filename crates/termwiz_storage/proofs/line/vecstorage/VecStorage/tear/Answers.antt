use Rattle.std.proofs.Common.{◌-◌, ◌<◌, length, ap, arith}
use Rattle.termwiz_storage.proofs.Owned.{marked_halved}
use Rattle.termwiz_storage.proofs.line.vecstorage.VecStorage.tear.Goals as goal

pub invariant_of-self : goal.invariant_of-self
invariant_of-self c =
    let cells = c.self.inside.cells.items in
    let inside : c.args.i - 1 < length cells = omega (arith, c.if-i-gt0.true, c.requires, ap length c.self.view_is) in
    marked_halved c.self.inside.used (c.args.i - 1) c.self.inside.owns c.index_mut.result.now c.blank_out.new.cell cells inside c.index_mut.ensures.value c.blank_out.ensures c.self.invariant
