use Rattle.std.proofs.Common.{List, ℕ}
use Rattle.cbor.specs.Decoding.{allowed}
use Rattle.termwiz_wire.specs.CutLinks.{link_begun_at, link_rest_at, part_of}
use Rattle.termwiz_wire.specs.Resuming.{HasReadOn, ReachesItem, StopsTruncated}
use Rattle.termwiz_wire.proofs.CutLinks.{cut_params, unbegun}
use Rattle.termwiz_wire.proofs.decode.cut_links.begin_link.Goals as goal

pub returns-in_ok-link-in-Ok-clause-begins : goal.returns-in_ok-link-in-Ok-clause-begins
returns-in_ok-link-in-Ok-clause-begins c = λ measure rows cut.
    let room : ℕ = c.args.reader.now.room in
    let rest : List ℕ = c.link_begun_of.new.reader.bytes.now in
    let read : StopsTruncated (link_rest_at room (part_of c.in-Ok.link) rest) → HasReadOn room (part_of c.in-Ok.link) rest (part_of c.in_ok-link-in-Ok.link) c.with_params.new.reader.bytes.now × ReachesItem room (part_of c.in_ok-link-in-Ok.link) c.with_params.new.reader.bytes.now = rw (← c.in-Ok.ensures.room) c.in_ok-link-in-Ok.ensures.reads in
    let both = read (cut_params measure room rows c.args.reader.now.bytes.now (part_of c.in-Ok.link, rest) c.in-Ok.ensures.value cut) in
    ((part_of c.in-Ok.link, rest), c.in-Ok.ensures.value, both.0, both.1)

pub returns-in_default-clause-begins : goal.returns-in_default-clause-begins
returns-in_default-clause-begins c = λ measure rows cut. (c.rest-start.ensures.value, unbegun c.in-Err.error (allowed c.link_begun_of.new.reader.room c.link_begun_of.new.reader.bytes.now) (link_begun_at c.args.reader.now.room c.args.reader.now.bytes.now) c.in_default.not-Memory c.in-Err.ensures.value)
