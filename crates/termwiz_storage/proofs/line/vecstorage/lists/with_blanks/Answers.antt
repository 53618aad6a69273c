use Rattle.std.proofs.Common.{◌≡◌, ℕ, ◌+◌, ◌-◌, ◌∙◌, ◌++◌, length, replicate, append_assoc, arith, refl, ap}
use Rattle.std.proofs.lemmas.List.{replicate_more}
use Rattle.termwiz_cell.specs.CellValue.{blank}
use Rattle.termwiz_storage.proofs.line.vecstorage.lists.with_blanks.Goals as goal

pub loop-preserved : goal.loop-preserved
loop-preserved c =
    let e : c.loop.counter + 1 - c.len-have.result ≡ c.loop.counter - c.len-have.result + 1 = omega arith in
    record {
      items = rw (e, ← replicate_more, ← append_assoc) (rw (c.push_reserved.ensures.items, c.blank.ensures, c.loop.invariant.items) refl);
      room = omega (arith, c.push_reserved.ensures.capacity);
      capacity = c.push_reserved.ensures.capacity ∙ c.loop.invariant.capacity;
    }

pub returns-clause-items : goal.returns-clause-items
returns-clause-items c =
    let e : c.loop.counter - c.len-have.result ≡ c.args.len - length c.args.cells.items = omega (arith, c.args.cells.ok.0) in
    c.loop.invariant.items ∙ ap (λ (n : ℕ). c.args.cells.items ++ replicate n blank) e
