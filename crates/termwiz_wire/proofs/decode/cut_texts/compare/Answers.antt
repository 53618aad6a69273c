use Rattle.std.proofs.Common.{List, ℕ, drop, subst, ◌∙◌}
use Rattle.cbor.specs.Decoding.{IsBytes, allowed}
use Rattle.termwiz_wire.proofs.CutTexts.{own_done, own_ends, own_fails, own_goes}
use Rattle.termwiz_wire.proofs.decode.cut_texts.compare.Goals as goal

pub runs-preserved : goal.runs-preserved
runs-preserved c = record {
  come = own_goes c.args.reader.now.room (drop c.args.read.now c.args.runs.now) c.args.reader.now.bytes.now c.args.runs.now c.runs.read _ c.runs.reader.bytes.now c.is_run.new.reader.bytes.now c.in-Ok-true.field-0 c.runs.reader.room c.runs.invariant.come (subst (λ (b : List ℕ). IsBytes b) c.rest-start.ensures.value c.rest-start.ensures.bytes) c.runs-test.true c.runs.invariant.room c.in-Ok-true.ensures.value c.in-Ok-true.field-0-test;
  room = c.in-Ok-true.ensures.room ∙ c.runs.invariant.room;
}

pub returns-in-Ok-false-clause-compares : goal.returns-in-Ok-false-clause-compares
returns-in-Ok-false-clause-compares c =
    own_ends c.args.reader.now.room (drop c.args.read.now c.args.runs.now) c.args.reader.now.bytes.now c.args.runs.now c.runs.read _ c.runs.reader.bytes.now c.is_run.new.reader.bytes.now c.in-Ok-false.field-0 c.runs.reader.room c.runs.invariant.come c.runs-test.true c.runs.invariant.room c.in-Ok-false.ensures.value c.in-Ok-false.field-0-test

pub returns-in_default : goal.returns-in_default
returns-in_default c = record {
  compares = own_fails c.args.reader.now.room (drop c.args.read.now c.args.runs.now) c.args.reader.now.bytes.now c.args.runs.now c.runs.read _ c.runs.reader.bytes.now c.in-Err.error c.runs.reader.room (allowed c.is_run.new.reader.room c.is_run.new.reader.bytes.now) (drop c.runs.read c.args.runs.now) c.is_run.new.reader.bytes.now c.runs.invariant.come c.runs-test.true c.runs.invariant.room c.in-Err.ensures.value c.in_default.not-Truncated;
  room = c.in-Err.ensures.room ∙ c.runs.invariant.room;
}

pub returns-clause-compares : goal.returns-clause-compares
returns-clause-compares c = own_done c.args.reader.now.room (drop c.args.read.now c.args.runs.now) c.args.reader.now.bytes.now c.args.runs.now c.runs.read c.runs.reader.bytes.now c.runs.invariant.come c.runs-test.false
