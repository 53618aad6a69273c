use Rattle.std.proofs.Common.{◌≡◌, ℕ, subst, ◌∙◌, Ok}
use Rattle.std.proofs.lemmas.Result.{err_from_is_err_and}
use Rattle.cbor.specs.Decoding.{Stops, allowed}
use Rattle.termwiz_cell.specs.Measure.{measure}
use Rattle.termwiz_wire.specs.Cuts.{are_at, is_run_at}
use Rattle.termwiz_wire.specs.Pieces.{runs}
use Rattle.termwiz_wire.proofs.CutLoops.{are_go_on, are_differ, are_stop, are_done}
use Rattle.termwiz_wire.proofs.decode.cuts.are_runs.Goals as goal

pub returns-in_err-is_run-clause-value : goal.returns-in_err-is_run-clause-value
returns-in_err-is_run-clause-value g c =
    let p = err_from_is_err_and c.from_residual.result c.from_residual.ensures.1 in
    let left = allowed c.is_run.new.reader.room c.is_run.new.reader.bytes.now in
    let read = subst (λ (r : ℕ). Stops left c.in_err-is_run.field-0.0 (is_run_at r c.in-Some.run' c.loop-run.reader.bytes.now)) c.loop-run.invariant.room c.in_err-is_run.ensures.value in
    rw (p.1, p.2) (are_stop left c.args.reader.now.room c.in_err-is_run.field-0.0 _ _ c.in-Some.run' c.loop-run.reader.bytes.now (are_at c.args.reader.now.room (runs (measure g.W.Widths.width_of c.args.widths.now) c.args.text.now) c.args.reader.now.bytes.now) c.in-Some.ensures.steps read c.loop-run.invariant.rest)

pub returns-then-not-branch-clause-value : goal.returns-then-not-branch-clause-value
returns-then-not-branch-clause-value g c =
    let read = subst (λ (r : ℕ). is_run_at r c.in-Some.run' c.loop-run.reader.bytes.now ≡ Ok (c.in_ok-is_run.field-0, c.is_run.new.reader.bytes.now)) c.loop-run.invariant.room c.in_ok-is_run.ensures.value in
    are_differ c.args.reader.now.room _ _ c.in-Some.run' c.loop-run.reader.bytes.now c.is_run.new.reader.bytes.now c.in_ok-is_run.field-0 (are_at c.args.reader.now.room (runs (measure g.W.Widths.width_of c.args.widths.now) c.args.text.now) c.args.reader.now.bytes.now) c.in-Some.ensures.steps c.if-not-branch.true read c.loop-run.invariant.rest

pub loop-run-preserved : goal.loop-run-preserved
loop-run-preserved g c =
    let read = subst (λ (r : ℕ). is_run_at r c.in-Some.run' c.loop-run.reader.bytes.now ≡ Ok (c.in_ok-is_run.field-0, c.is_run.new.reader.bytes.now)) c.loop-run.invariant.room c.in_ok-is_run.ensures.value in
    record {
      rest = are_go_on c.args.reader.now.room _ _ c.in-Some.run' c.loop-run.reader.bytes.now c.is_run.new.reader.bytes.now c.in_ok-is_run.field-0 (are_at c.args.reader.now.room (runs (measure g.W.Widths.width_of c.args.widths.now) c.args.text.now) c.args.reader.now.bytes.now) c.in-Some.ensures.steps c.if-not-branch.false read c.loop-run.invariant.rest;
      room = c.in_ok-is_run.ensures.room ∙ c.loop-run.invariant.room;
    }

pub returns-clause-value : goal.returns-clause-value
returns-clause-value g c = are_done c.args.reader.now.room _ c.loop-run.reader.bytes.now (are_at c.args.reader.now.room (runs (measure g.W.Widths.width_of c.args.widths.now) c.args.text.now) c.args.reader.now.bytes.now) c.in-None.ensures.steps.0 c.loop-run.invariant.rest
