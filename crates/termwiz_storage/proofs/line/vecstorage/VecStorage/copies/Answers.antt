use Rattle.std.proofs.Common.{◌≡◌, length, arith}
use Rattle.termwiz_storage.proofs.Edits.{copies-made}
use Rattle.termwiz_storage.proofs.Owned.{marked_copies}
use Rattle.termwiz_storage.proofs.line.vecstorage.VecStorage.copies.Goals as goal

pub invariant_of-result : goal.invariant_of-result
invariant_of-result c =
    let len : length c.resize.new.self.items ≡ c.args.len = omega (arith, c.in_ok-resize.ensures.len, c.resize.new.self.ok.0) in
    rw c.owns_memory-owns.ensures (marked_copies c.args.len c.args.cell c.resize.new.self.items (copies-made c.args.len c.args.cell c.new-cells.result.items c.resize.new.self.items c.new-cells.ensures.items len c.in_ok-resize.ensures.items))

pub returns : goal.returns
returns c =
    let len : length c.resize.new.self.items ≡ c.args.len = omega (arith, c.in_ok-resize.ensures.len, c.resize.new.self.ok.0) in
    copies-made c.args.len c.args.cell c.new-cells.result.items c.resize.new.self.items c.new-cells.ensures.items len c.in_ok-resize.ensures.items
