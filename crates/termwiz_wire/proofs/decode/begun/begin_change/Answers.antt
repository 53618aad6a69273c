use Rattle.std.proofs.Common.{Option, subst}
use Rattle.std.specs.Prelude.{option_map}
use Rattle.termwiz_cell.specs.Measure.{measure}
use Rattle.termwiz_wire.specs.CutLinks.{part_of}
use Rattle.termwiz_wire.specs.Resuming.{BeginsLink}
use Rattle.termwiz_wire.specs.declared.decode.cut_links.BegunLink.{BegunLink}
use Rattle.termwiz_wire.proofs.decode.begun.begin_change.Goals as goal

pub returns-in-Some : goal.returns-in-Some
returns-in-Some g c = record { begins = λ rows cut. subst (λ (o : Option BegunLink). BeginsLink c.args.reader.now.room c.args.reader.now.bytes.now (option_map part_of o) c.begin_link.new.reader.bytes.now) c.in-Some.is (c.in_ok-link.ensures.begins (measure g.W.Widths.width_of c.args.widths.now) rows cut) }
