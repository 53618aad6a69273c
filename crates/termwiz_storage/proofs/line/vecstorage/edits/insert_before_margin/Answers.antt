use Rattle.std.proofs.Common.{arith}
use Rattle.termwiz_storage.proofs.Edits.{insert-before_margin}
use Rattle.termwiz_storage.proofs.line.vecstorage.edits.insert_before_margin.Goals as goal

pub returns : goal.returns
returns c =
    rw c.deref_mut.ensures.value (insert-before_margin c.args.x c.args.margin c.args.cells.now.len c.args.cell c.args.cells.now.items c.push_along.new.cells
    (omega arith) (omega arith) c.args.cells.now.ok.0 (rw c.deref_mut.ensures.value at c.push_along.ensures))
