use Rattle.std.proofs.Common.{◌≡◌, ◌-◌, ℕ, List, length, take, drop, Err, subst, ap, ◌∙◌, arith}
use Rattle.std.specs.Prelude.{string_bytes}
use Rattle.cbor.specs.Decoding.{allowed}
use Rattle.termwiz_wire.specs.CutTexts.{all_others, other_part, own_part}
use Rattle.cbor.specs.declared.error.ReadError.{ReadError}
use Rattle.termwiz_wire.specs.Resuming.{Compares}
use Rattle.termwiz_wire.proofs.CutTexts.{own_error, own_then_other, own_true, own_truncated, runs_end, runs_within}
use Rattle.termwiz_wire.proofs.Resuming.{slice_from}
use Rattle.termwiz_wire.proofs.decode.cut_texts.read_own.Goals as goal

pub returns-in-Ok-true-clause-reads : goal.returns-in-Ok-true-clause-reads
returns-in-Ok-true-clause-reads c =
    own_true c.args.reader.now.room c.args.places c.args.hand.now c.args.reader.now.bytes.now c.requires.end c.requires.within (own_part c.args.own) (drop c.args.own.read c.as_slice.result.now) (drop c.compare.new.read c.as_slice.result.now) (allowed c.compare.new.reader.room c.compare.new.reader.bytes.now) c.compare.new.reader.bytes.now c.in-Ok-true.field-0 (ap (drop c.args.own.read) c.as_slice.ensures.value) c.in-Ok-true.field-0-test c.in-Ok-true.ensures.compares

pub read_other-requires : goal.read_other-requires
read_other-requires c = record {
  end = runs_end c.args.reader.now.room c.args.places c.args.hand.now c.args.reader.now.bytes.now c.requires.end c.requires.within (take (length c.args.hand.now - c.args.places.runs) (drop c.args.places.runs c.args.hand.now)) (slice_from c.args.hand.now c.args.places.runs);
  within = runs_within c.args.reader.now.room c.args.places c.args.hand.now c.args.reader.now.bytes.now c.requires.end c.requires.within (take (length c.args.hand.now - c.args.places.runs) (drop c.args.places.runs c.args.hand.now)) (slice_from c.args.hand.now c.args.places.runs);
}

pub returns-in_ok-other-in-Ok-false-clause-reads : goal.returns-in_ok-other-in-Ok-false-clause-reads
returns-in_ok-other-in-Ok-false-clause-reads c =
    let len : c.len.result ≡ length c.args.own.runs.items = omega (arith, c.len.ensures) in
    own_then_other c.args.reader.now.room c.args.places c.args.hand.now c.args.reader.now.bytes.now c.requires.end c.requires.within (own_part c.args.own) (drop c.args.own.read c.as_slice.result.now) (drop c.compare.new.read c.as_slice.result.now) (allowed c.compare.new.reader.room c.compare.new.reader.bytes.now) c.compare.new.reader.bytes.now c.in-Ok-false.field-0 (ap (drop c.args.own.read) c.as_slice.ensures.value) c.in-Ok-false.field-0-test c.in-Ok-false.ensures.compares
    c.compare.new.reader.room c.in-Ok-false.ensures.room (other_part c.in_ok-other-in-Ok-false.other)
    (c.in_ok-other-in-Ok-false.ensures ∙ ap (λ (t : List ℕ). all_others t c.len.result) c.as_str.ensures.value ∙ ap (all_others (string_bytes c.args.own.text)) len)
    (take (length c.args.hand.now - c.args.places.runs) (drop c.args.places.runs c.args.hand.now)) (slice_from c.args.hand.now c.args.places.runs)
    c.read_other.result (allowed c.read_other.new.reader.room c.read_other.new.reader.bytes.now) c.read_other.new.reader.bytes.now c.read_other.ensures.reads

pub returns-in-Truncated-clause-reads : goal.returns-in-Truncated-clause-reads
returns-in-Truncated-clause-reads c =
    let at : ℕ = allowed c.compare.new.reader.room c.compare.new.reader.bytes.now in
    let compares = subst (λ (e : ReadError). Compares c.args.reader.now.room (drop c.args.own.read c.as_slice.result.now) c.args.reader.now.bytes.now (Err e) (drop c.compare.new.read c.as_slice.result.now) at c.compare.new.reader.bytes.now) c.in-Truncated.is c.in-Err.ensures.compares in
    own_truncated c.args.reader.now.room c.args.places c.args.hand.now c.args.reader.now.bytes.now c.requires.end c.requires.within (own_part c.args.own) (drop c.args.own.read c.as_slice.result.now) (drop c.compare.new.read c.as_slice.result.now) (drop c.compare.new.read c.args.own.runs.items) at c.compare.new.reader.bytes.now (ap (drop c.args.own.read) c.as_slice.ensures.value) (ap (drop c.compare.new.read) c.as_slice.ensures.value) compares

pub returns-in_default-clause-reads : goal.returns-in_default-clause-reads
returns-in_default-clause-reads c =
    own_error c.args.reader.now.room c.args.places c.args.hand.now c.args.reader.now.bytes.now c.requires.end c.requires.within (own_part c.args.own) (drop c.args.own.read c.as_slice.result.now) (drop c.compare.new.read c.as_slice.result.now) c.in-Err.error (allowed c.compare.new.reader.room c.compare.new.reader.bytes.now) c.compare.new.reader.bytes.now (ap (drop c.args.own.read) c.as_slice.ensures.value) c.in_default.not-Truncated c.in-Err.ensures.compares
