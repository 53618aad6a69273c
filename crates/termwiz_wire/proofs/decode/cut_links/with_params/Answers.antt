use Rattle.std.proofs.Common.{Err, Ok}
use Rattle.cbor.specs.Decoding.{allowed}
use Rattle.termwiz_wire.specs.CutLinks.{part_of}
use Rattle.termwiz_wire.proofs.CutLinks.{cut_read}
use Rattle.termwiz_wire.proofs.decode.cut_links.with_params.Goals as goal

pub returns-in-Ok-clause-reads : goal.returns-in-Ok-clause-reads
returns-in-Ok-clause-reads c = λ cut. cut_read c.args.reader.now.room (part_of c.args.link) c.args.reader.now.bytes.now (Ok c.in-Ok.field-0) (part_of c.read_params.new.link) (allowed c.read_params.new.reader.room c.read_params.new.reader.bytes.now) c.read_params.new.reader.bytes.now c.in-Ok.ensures.reads cut (λ is. cc)

pub returns-in_default-clause-reads : goal.returns-in_default-clause-reads
returns-in_default-clause-reads c = λ cut. cut_read c.args.reader.now.room (part_of c.args.link) c.args.reader.now.bytes.now (Err c.in-Err.error) (part_of c.read_params.new.link) (allowed c.read_params.new.reader.room c.read_params.new.reader.bytes.now) c.read_params.new.reader.bytes.now c.in-Err.ensures.reads cut (λ is. c.in_default.not-Memory cc)
