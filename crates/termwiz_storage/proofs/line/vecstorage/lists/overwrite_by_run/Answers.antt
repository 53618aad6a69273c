use Rattle.std.proofs.Common.{◌≡◌, ℕ, get_or, ap, ◌∙◌, arith}
use Rattle.termwiz_cell.specs.CellValue.{plain_cell}
use Rattle.termwiz_storage.proofs.Owned.{nothing_set}
use Rattle.termwiz_storage.proofs.Runs.{run_more}
use Rattle.termwiz_storage.proofs.line.vecstorage.lists.overwrite_by_run.Goals as goal

pub overwrite-requires : goal.overwrite-requires
overwrite-requires c = λ h. c.loop-k.invariant.unowned h c.loop-k.k _ (omega arith)

pub loop-k-preserved : goal.loop-k-preserved
loop-k-preserved c =
    let own : c.unwrap-own.result ≡ c.args.attrs.now = rw c.unwrap-own.ensures at c.unboxed_copy.ensures.same in
    let copy : c.unwrap-copy.result ≡ c.unwrap-own.result = rw c.unwrap-copy.ensures at c.unboxed_copy-in-loop-k.ensures.same in
    let byte : ℕ = get_or c.args.run.now c.loop-k.k 0 in
    let made : c.overwrite.new.place ≡ plain_cell byte c.args.attrs.now = c.overwrite.ensures ∙ c.plain.ensures ∙ ap (plain_cell byte) (copy ∙ own) in
    rw made (record {
      written = run_more c.loop-k.k c.args.attrs.now c.loop-k.cells c.args.run.now (omega arith) (omega arith) c.loop-k.invariant.written;
      unowned = λ h. nothing_set c.loop-k.cells c.loop-k.k (plain_cell byte c.args.attrs.now) c.requires.unboxed (c.loop-k.invariant.unowned h);
    })
