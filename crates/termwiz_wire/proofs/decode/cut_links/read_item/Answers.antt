use Rattle.std.proofs.Common.{map, option_map, string_bytes, sym, ap, ◌∙◌}
use Rattle.termwiz_cell.specs.Link.{param_bytes}
use Rattle.termwiz_wire.specs.CutLinks.{part_of}
use Rattle.termwiz_wire.proofs.CutLinks.{value_put}
use Rattle.termwiz_wire.proofs.decode.cut_links.read_item.Goals as goal

pub returns-in_ok-put-in-Ok-clause-value : goal.returns-in_ok-put-in-Ok-clause-value
returns-in_ok-put-in-Ok-clause-value c =
    rw c.take.ensures.after (value_put c.args.reader.now.room (part_of c.args.link.now) (string_bytes c.in-Some.key) (string_bytes c.in-Ok.value) (map param_bytes c.put.new.params.entries) c.args.reader.now.bytes.now c.owned_of.new.reader.bytes.now (ap (option_map string_bytes) (sym c.take.ensures.value ∙ c.in-Some.is)) c.requires.keys c.in-Ok.ensures.value c.in_ok-put-in-Ok.ensures).0

pub returns-in_ok-put-in-Ok-clause-keys : goal.returns-in_ok-put-in-Ok-clause-keys
returns-in_ok-put-in-Ok-clause-keys c =
    rw c.take.ensures.after (value_put c.args.reader.now.room (part_of c.args.link.now) (string_bytes c.in-Some.key) (string_bytes c.in-Ok.value) (map param_bytes c.put.new.params.entries) c.args.reader.now.bytes.now c.owned_of.new.reader.bytes.now (ap (option_map string_bytes) (sym c.take.ensures.value ∙ c.in-Some.is)) c.requires.keys c.in-Ok.ensures.value c.in_ok-put-in-Ok.ensures).1
