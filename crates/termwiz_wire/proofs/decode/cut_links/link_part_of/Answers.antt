use Rattle.std.proofs.Common.{map, None, refl, ap}
use Rattle.termwiz_cell.specs.Link.{param_bytes}
use Rattle.termwiz_wire.specs.CutLinks.{part_of}
use Rattle.termwiz_wire.proofs.CutLinks.{none_there}
use Rattle.termwiz_wire.proofs.decode.cut_links.link_part_of.Goals as goal

pub returns-clause-keys : goal.returns-clause-keys
returns-clause-keys c = none_there (part_of (record { attributes = c.args.attributes; uri = c.in_ok-uri.uri; implicit = c.in_ok-implicit.implicit; params = c.new.result; key = None; left = c.in_ok-left.left })) (ap (map param_bytes) c.new.ensures.empty) refl
