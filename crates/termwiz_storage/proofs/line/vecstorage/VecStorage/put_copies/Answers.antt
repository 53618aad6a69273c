use Rattle.std.proofs.Common.{length, replicate, ◌∙◌, ap, arith}
use Rattle.termwiz_storage.specs.Stored.{put_run}
use Rattle.termwiz_storage.proofs.Owned.{marked_copied}
use Rattle.termwiz_storage.proofs.Runs.{length-copies}
use Rattle.termwiz_storage.proofs.Used.{written-whole}
use Rattle.termwiz_storage.proofs.line.vecstorage.VecStorage.put_copies.Goals as goal

pub invariant_of-self : goal.invariant_of-self
invariant_of-self c =
    let cells = c.self.inside.cells.items in
    let put = rw c.deref_mut.ensures.value at c.put_copies.ensures in
    let written = written-whole c.self.inside.cells.len cells c.put_copies.new.cells (omega (arith, ap length put, length-copies c.args.from c.args.count c.args.byte c.args.attrs.now cells, c.self.inside.cells.ok.0)) in
    rw (c.max-self-inside.ensures, written, put) (marked_copied c.self.inside.used c.args.from c.args.count c.self.inside.owns c.args.byte c.args.attrs.now cells c.requires.unboxed c.self.invariant)

pub returns : goal.returns
returns c =
    let cells = c.self.inside.cells.items in
    let put = rw c.deref_mut.ensures.value at c.put_copies.ensures in
    let written = written-whole c.self.inside.cells.len cells c.put_copies.new.cells (omega (arith, ap length put, length-copies c.args.from c.args.count c.args.byte c.args.attrs.now cells, c.self.inside.cells.ok.0)) in
    written ∙ put ∙ ap (put_run c.args.from (replicate c.args.count c.args.byte) c.args.attrs.now) c.self.view_is
