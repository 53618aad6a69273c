use Rattle.std.proofs.Common.{ℕ, Err, subst}
use Rattle.cbor.specs.Decoding.{allowed}
use Rattle.cbor.specs.declared.error.ReadError.{ReadError}
use Rattle.termwiz_wire.specs.CutTexts.{other_part}
use Rattle.termwiz_wire.specs.Resuming.{ReadsOthers}
use Rattle.termwiz_wire.proofs.CutTexts.{other_reads_cut}
use Rattle.termwiz_wire.proofs.decode.cut_texts.read_other.Goals as goal

pub returns-in-Truncated-clause-reads : goal.returns-in-Truncated-clause-reads
returns-in-Truncated-clause-reads c =
    let at : ℕ = allowed c.read_others.new.reader.room c.read_others.new.reader.bytes.now in
    let reads = subst (λ (e : ReadError). ReadsOthers c.args.reader.now.room (other_part c.args.other) c.args.reader.now.bytes.now (Err e) (other_part c.read_others.new.other) at c.read_others.new.reader.bytes.now) c.in-Truncated.is c.in-Err.ensures.reads in
    other_reads_cut c.args.reader.now.room c.args.places c.args.hand.now c.args.reader.now.bytes.now c.requires.end c.requires.within (other_part c.args.other) (other_part c.read_others.new.other) at c.read_others.new.reader.bytes.now reads
