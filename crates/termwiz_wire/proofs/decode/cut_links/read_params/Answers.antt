use Rattle.std.proofs.Common.{◌≡◌, List, Ok, ℕ, true, sym, subst, ◌∙◌}
use Rattle.cbor.specs.Decoding.{IsBytes, Stops, allowed}
use Rattle.termwiz_wire.specs.CutLinks.{has_item, link_item_at, part_of}
use Rattle.termwiz_wire.proofs.CutLinks.{read_more, read_stopped, reads_failed}
use Rattle.termwiz_wire.proofs.decode.cut_links.read_params.Goals as goal

pub items-preserved : goal.items-preserved
items-preserved c =
    let some : has_item (part_of c.items.link) ≡ true = sym c.has_item.ensures ∙ c.items-test.true in
    let fits : IsBytes c.items.reader.bytes.now = subst (λ (b : List ℕ). IsBytes b) c.rest-start.ensures.value c.rest-start.ensures.bytes in
    let read : link_item_at c.args.reader.now.room (part_of c.items.link) c.items.reader.bytes.now ≡ Ok (part_of c.read_item.new.link, c.read_item.new.reader.bytes.now) = subst (λ (r : ℕ). link_item_at r (part_of c.items.link) c.items.reader.bytes.now ≡ Ok (part_of c.read_item.new.link, c.read_item.new.reader.bytes.now)) c.items.invariant.room c.in-Ok.ensures.value in
    record {
      read = read_more c.args.reader.now.room (part_of c.args.link.now) c.args.reader.now.bytes.now (part_of c.items.link) c.items.reader.bytes.now (part_of c.read_item.new.link, c.read_item.new.reader.bytes.now) c.items.invariant.read some fits read c.in-Ok.ensures.keys;
      room = c.in-Ok.ensures.room ∙ c.items.invariant.room;
    }

pub returns-in_default-clause-reads : goal.returns-in_default-clause-reads
returns-in_default-clause-reads c =
    let at : ℕ = allowed c.read_item.new.reader.room c.read_item.new.reader.bytes.now in
    let some : has_item (part_of c.items.link) ≡ true = sym c.has_item.ensures ∙ c.items-test.true in
    let stops : Stops at c.in-Err.error (link_item_at c.args.reader.now.room (part_of c.items.link) c.items.reader.bytes.now) = subst (λ (r : ℕ). Stops at c.in-Err.error (link_item_at r (part_of c.items.link) c.items.reader.bytes.now)) c.items.invariant.room c.in-Err.ensures.value in
    reads_failed c.args.reader.now.room (part_of c.args.link.now) c.args.reader.now.bytes.now c.in-Err.error (part_of c.read_item.new.link) at c.read_item.new.reader.bytes.now c.in_default.not-Truncated
    (read_stopped c.args.reader.now.room (part_of c.args.link.now) c.args.reader.now.bytes.now (part_of c.items.link) c.items.reader.bytes.now at c.in-Err.error c.items.invariant.read some stops)
