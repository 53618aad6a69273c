use Rattle.std.proofs.Common.{◌≡◌, ◌-◌, List, ℕ, length, take, drop, subst, ap, ◌∙◌, arith}
use Rattle.cbor.specs.Decoding.{IsBytes, allowed}
use Rattle.termwiz_wire.specs.CutTexts.{other_part}
use Rattle.termwiz_wire.proofs.CutTexts.{others_fail, others_go, others_unneeded, others_whole}
use Rattle.termwiz_wire.proofs.Resuming.{slice_from}
use Rattle.termwiz_wire.proofs.decode.cut_texts.read_others.Goals as goal

-- the characters after those that were passed
left_is : (items all : List ℕ) (passed : ℕ) → items ≡ all → take (length items - passed) (drop passed items) ≡ drop passed all
left_is items all passed is = slice_from items passed ∙ ap (drop passed) is

pub runs-preserved : goal.runs-preserved
runs-preserved c = record {
  come = others_go c.args.reader.now.room (other_part c.args.other.now) c.args.reader.now.bytes.now c.runs.other c.runs.reader.bytes.now c.in-Ok.run' c.run_of.new.reader.bytes.now (take (length c.deref.result.now - c.runs.other.passed) (drop c.runs.other.passed c.deref.result.now)) c.runs.reader.room c.stands_out.result c.runs.invariant.come (subst (λ (b : List ℕ). IsBytes b) c.rest-start.ensures.value c.rest-start.ensures.bytes) c.runs-test.true c.runs.invariant.room (left_is c.deref.result.now c.runs.other.characters.items c.runs.other.passed c.deref.ensures.value) c.in-Ok.ensures.value c.stands_out.ensures;
  room = c.in-Ok.ensures.room ∙ c.runs.invariant.room;
}

pub returns-in_default : goal.returns-in_default
returns-in_default c = record {
  reads = others_fail c.args.reader.now.room (other_part c.args.other.now) c.args.reader.now.bytes.now c.runs.other c.runs.reader.bytes.now (take (length c.deref.result.now - c.runs.other.passed) (drop c.runs.other.passed c.deref.result.now)) c.in-Err.error c.runs.reader.room (allowed c.run_of.new.reader.room c.run_of.new.reader.bytes.now) (other_part c.runs.other) c.run_of.new.reader.bytes.now c.runs.invariant.come c.runs-test.true c.runs.invariant.room (left_is c.deref.result.now c.runs.other.characters.items c.runs.other.passed c.deref.ensures.value) c.in-Err.ensures.value c.in_default.not-Truncated;
  room = c.in-Err.ensures.room ∙ c.runs.invariant.room;
}

pub returns-then-other-clause-reads : goal.returns-then-other-clause-reads
returns-then-other-clause-reads c =
    let len : c.len.result ≡ length c.runs.other.characters.items = omega (arith, c.len.ensures) in
    others_whole c.args.reader.now.room (other_part c.args.other.now) c.args.reader.now.bytes.now c.runs.other c.runs.reader.bytes.now c.len.result c.runs.invariant.come c.runs-test.false c.if-other.true c.runs.other.within len

pub returns-else-other-clause-reads : goal.returns-else-other-clause-reads
returns-else-other-clause-reads c = others_unneeded c.args.reader.now.room (other_part c.args.other.now) c.args.reader.now.bytes.now c.runs.other c.runs.reader.bytes.now c.runs.invariant.come c.runs-test.false c.if-other.false
