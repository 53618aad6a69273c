use Rattle.std.proofs.Common.{◌≡◌, ◌+◌, ap, ◌∙◌, arith, set}
use Rattle.termwiz_cell.specs.CellValue.{plain_cell}
use Rattle.termwiz_storage.proofs.Owned.{nothing_set}
use Rattle.termwiz_storage.proofs.Runs.{copies_more}
use Rattle.termwiz_storage.proofs.line.vecstorage.lists.put_copies.Goals as goal

pub overwrite-requires : goal.overwrite-requires
overwrite-requires c = λ h. c.loop-k.invariant.unowned h (c.args.from + c.loop-k.k) _ (omega arith)

pub loop-k-preserved : goal.loop-k-preserved
loop-k-preserved c =
    let b = c.args.byte in
    let a = c.args.attrs.now in
    let own : c.unwrap-own.result ≡ a = rw c.unwrap-own.ensures at c.unboxed_copy.ensures.same in
    let copy : c.unwrap-copy.result ≡ c.unwrap-own.result = rw c.unwrap-copy.ensures at c.unboxed_copy-in-loop-k.ensures.same in
    let made : c.overwrite.new.place ≡ plain_cell b a = c.overwrite.ensures ∙ c.plain.ensures ∙ ap (plain_cell b) (copy ∙ own) in
    rw made (record {
      written = ap (λ cs. set cs (c.args.from + c.loop-k.k) (plain_cell b a)) c.loop-k.invariant.written ∙ copies_more c.loop-k.k c.args.from b a c.args.cells.now;
      unowned = λ h. nothing_set c.loop-k.cells (c.args.from + c.loop-k.k) (plain_cell b a) c.requires.unboxed (c.loop-k.invariant.unowned h);
    })
