use Rattle.std.proofs.Common.{◌≡◌, ◌-◌, ℕ, List, length, map, take, drop, Option, Result, Ok, Err, Some, refl, sym, subst, ap, ◌∙◌, arith}
use Rattle.std.specs.Prelude.{string_bytes}
use Rattle.std.proofs.lemmas.List.{length-map}
use Rattle.cbor.specs.Decoding.{allowed}
use Rattle.cbor.specs.declared.error.ReadError.{ReadError}
use Rattle.termwiz_cell.specs.ChangeValue.{change_value}
use Rattle.termwiz_wire.specs.Answers.{error_of}
use Rattle.termwiz_wire.specs.CutTexts.{pieces_part}
use Rattle.termwiz_wire.specs.Resuming.{ReadsRuns, Resumes, begun_with}
use Rattle.termwiz_wire.specs.declared.decode.begun.Begun.{Begun}
use Rattle.termwiz_wire.specs.declared.decode.begun.BegunChange.TheVariants.{Text}
use Rattle.termwiz_wire.specs.declared.decode.begun.NoAnswer.TheVariants as no_answers
use Rattle.termwiz_wire.specs.declared.decode.cut_texts.ReadPieces.{ReadPieces}
use Rattle.termwiz_wire.proofs.Resuming.{runs_read_here, slice_ends, slice_within, text_cut, text_ended, text_failed}
use Rattle.termwiz_wire.proofs.Within.{lens_of}
use Rattle.termwiz_wire.proofs.decode.begun.with_text.Goals as goal

abbrev some : Begun → Option Begun
some begun = Some begun

abbrev ok_read : ReadPieces → Result ReadPieces ReadError
ok_read read = Ok read

pub read_pieces-requires : goal.read_pieces-requires
read_pieces-requires c =
    let hand : c.rest-hand.result.now ≡ take c.args.limits.bytes c.args.bytes.now = c.rest-hand.ensures.value ∙ c.with_limit-reader.ensures.bytes in
    record {
      end = slice_ends c.rest-hand.result.now c.args.begun.taken;
      within = slice_within c.args.text.places c.rest-hand.result.now c.args.begun.taken (omega (arith, c.requires.taken, ap length hand)) c.requires.within;
    }

pub returns-in-Whole : goal.returns-in-Whole
returns-in-Whole c = λ measure leads.
    let all : List ℕ = take c.args.limits.bytes c.args.bytes.now in
    let hand : c.rest-hand.result.now ≡ all = c.rest-hand.ensures.value ∙ c.with_limit-reader.ensures.bytes in
    let left : ℕ = allowed c.read_pieces.new.reader.room c.read_pieces.new.reader.bytes.now in
    let reads = runs_read_here c.with_limit-reader.result.room (c.args.limits.bytes - length c.args.bytes.now) c.rest-hand.result.now all c.args.begun.taken c.args.text.places (pieces_part c.args.text.pieces) (ok_read c.in-Ok.read) left c.read_pieces.new.reader.bytes.now c.with_limit-reader.ensures.room hand c.in-Ok.ensures.reads in
    let whole = subst (λ (r : ReadPieces). ReadsRuns (c.args.limits.bytes - length c.args.bytes.now) c.args.text.places (pieces_part c.args.text.pieces) all (drop c.args.begun.taken all) (ok_read r) left c.read_pieces.new.reader.bytes.now) c.in-Whole.is reads in
    text_ended measure c.args.limits c.args.bytes.now (begun_with c.args.begun (Text c.args.text)) leads c.args.text refl (string_bytes c.in-Whole.text) c.read_pieces.new.reader.bytes.now c.saturating_sub-taken.result c.with_whole.result whole
    (lens_of c.rest-hand.result.now all c.read_pieces.new.reader.bytes.now c.saturating_sub-taken.result c.saturating_sub-taken.ensures hand) c.with_whole.ensures

pub returns-in-Cut : goal.returns-in-Cut
returns-in-Cut c = λ measure leads.
    let all : List ℕ = take c.args.limits.bytes c.args.bytes.now in
    let hand : c.rest-hand.result.now ≡ all = c.rest-hand.ensures.value ∙ c.with_limit-reader.ensures.bytes in
    let left : ℕ = allowed c.read_pieces.new.reader.room c.read_pieces.new.reader.bytes.now in
    let reads = runs_read_here c.with_limit-reader.result.room (c.args.limits.bytes - length c.args.bytes.now) c.rest-hand.result.now all c.args.begun.taken c.args.text.places (pieces_part c.args.text.pieces) (ok_read c.in-Ok.read) left c.read_pieces.new.reader.bytes.now c.with_limit-reader.ensures.room hand c.in-Ok.ensures.reads in
    let cut = subst (λ (r : ReadPieces). ReadsRuns (c.args.limits.bytes - length c.args.bytes.now) c.args.text.places (pieces_part c.args.text.pieces) all (drop c.args.begun.taken all) (ok_read r) left c.read_pieces.new.reader.bytes.now) c.in-Cut.is reads in
    subst (λ (b : Begun). Resumes measure c.args.limits c.args.bytes.now (Err (no_answers.Cut (some b)))) (sym c.up_to.ensures)
    (text_cut measure c.args.limits c.args.bytes.now (begun_with c.args.begun (Text c.args.text)) leads c.args.text refl c.in-Cut.pieces c.read_pieces.new.reader.bytes.now c.saturating_sub-taken.result cut.0 cut.1
    (lens_of c.rest-hand.result.now all c.read_pieces.new.reader.bytes.now c.saturating_sub-taken.result c.saturating_sub-taken.ensures hand))

pub returns-in-Err : goal.returns-in-Err
returns-in-Err c = λ measure leads.
    let all : List ℕ = take c.args.limits.bytes c.args.bytes.now in
    let room : ℕ = c.args.limits.bytes - length c.args.bytes.now in
    let hand : c.rest-hand.result.now ≡ all = c.rest-hand.ensures.value ∙ c.with_limit-reader.ensures.bytes in
    let left : ℕ = allowed c.read_pieces.new.reader.room c.read_pieces.new.reader.bytes.now in
    let reads = runs_read_here c.with_limit-reader.result.room room c.rest-hand.result.now all c.args.begun.taken c.args.text.places (pieces_part c.args.text.pieces) (Err c.in-Err.error) left c.read_pieces.new.reader.bytes.now c.with_limit-reader.ensures.room hand c.in-Err.ensures.reads in
    let count : c.len.result ≡ length (map change_value c.args.begun.changes.items) = omega (arith, c.len.ensures, length-map c.args.begun.changes.items change_value) in
    text_failed measure c.args.limits c.args.bytes.now (begun_with c.args.begun (Text c.args.text)) leads c.args.text refl c.in-Err.error c.read_pieces.new.reader.bytes.now c.read_pieces.new.reader.room c.saturating_sub-at.result c.located.result reads.0 (c.in-Err.ensures.room ∙ c.with_limit-reader.ensures.room) reads.1
    (lens_of c.rest-hand.result.now all c.read_pieces.new.reader.bytes.now c.saturating_sub-at.result c.saturating_sub-at.ensures hand)
    (c.located.ensures ∙ ap (λ (k : ℕ). error_of c.in-Err.error c.saturating_sub-at.result (Some k)) count)
