use Rattle.std.proofs.Common.{ℕ, Ok, Result, subst}
use Rattle.std.specs.Prelude.{string_bytes}
use Rattle.cbor.specs.Decoding.{allowed}
use Rattle.cbor.specs.declared.error.ReadError.{ReadError}
use Rattle.termwiz_wire.specs.CutTexts.{pieces_part}
use Rattle.termwiz_wire.specs.Resuming.{ReadsRuns}
use Rattle.termwiz_wire.specs.declared.decode.cut_texts.ReadPieces.{ReadPieces}
use Rattle.termwiz_wire.proofs.CutTexts.{cut_failed, cut_whole}
use Rattle.termwiz_wire.proofs.decode.cut_texts.cut_pieces.Goals as goal

abbrev ok_read : ReadPieces → Result ReadPieces ReadError
ok_read read = Ok read

pub returns-in-Cut : goal.returns-in-Cut
returns-in-Cut c = λ cut.
    let left : ℕ = allowed c.read_pieces.new.reader.room c.read_pieces.new.reader.bytes.now in
    let reads = subst (λ (r : ReadPieces). ReadsRuns c.args.reader.now.room c.args.places (pieces_part c.args.pieces) c.args.hand.now c.args.reader.now.bytes.now (ok_read r) left c.read_pieces.new.reader.bytes.now) c.in-Cut.is c.in-Ok.ensures.reads in
    (reads.0, reads.1)

pub returns-in-Ok : goal.returns-in-Ok
returns-in-Ok c = λ cut.
    let left : ℕ = allowed c.read_pieces.new.reader.room c.read_pieces.new.reader.bytes.now in
    let reads = subst (λ (r : ReadPieces). ReadsRuns c.args.reader.now.room c.args.places (pieces_part c.args.pieces) c.args.hand.now c.args.reader.now.bytes.now (ok_read r) left c.read_pieces.new.reader.bytes.now) c.in-Whole.is c.in-Ok.ensures.reads in
    cut_whole c.args.reader.now.room c.args.places (pieces_part c.args.pieces) c.args.hand.now c.args.reader.now.bytes.now (string_bytes c.in-Whole.field-0) c.read_pieces.new.reader.bytes.now reads cut

pub returns : goal.returns
returns c = λ cut.
    cut_failed c.args.reader.now.room c.args.places (pieces_part c.args.pieces) c.args.hand.now c.args.reader.now.bytes.now c.in-Err.error (allowed c.read_pieces.new.reader.room c.read_pieces.new.reader.bytes.now) c.in-Err.ensures.reads.0 c.in_default.not-Memory c.in-Err.ensures.reads.1 cut
