use Rattle.std.proofs.Common.{◌≡◌, ◌&&◌, Bool, eqb, false, ℕ, length, subst, sym, ap, ◌∙◌, Ok}
use Rattle.std.proofs.lemmas.Result.{err_from_is_err_and}
use Rattle.cbor.specs.Decoding.{Stops, allowed}
use Rattle.termwiz_wire.specs.Cuts.{no_run, run_at, runs_at}
use Rattle.termwiz_wire.proofs.CutLoops.{runs_go_on, runs_end, runs_done}
use Rattle.termwiz_wire.proofs.decode.cuts.all_runs.Goals as goal

pub returns-in_err-run-clause-value : goal.returns-in_err-run-clause-value
returns-in_err-run-clause-value c =
    let p = err_from_is_err_and c.from_residual.result c.from_residual.ensures.1 in
    let left = allowed c.run_of.new.reader.room c.run_of.new.reader.bytes.now in
    let read = subst (λ (r : ℕ). Stops left c.in_err-run.field-0.0 (run_at r c.loop.last c.loop.left.now c.loop.reader.bytes.now)) c.loop.invariant.room c.in_err-run.ensures.value in
    rw (p.1, p.2) (runs_end left c.args.reader.now.room c.in_err-run.field-0.0 c.loop.last c.loop.needed c.loop.left.now c.args.count c.loop.counter c.loop.reader.bytes.now (runs_at c.args.reader.now.room no_run false c.args.characters.now c.args.count c.args.reader.now.bytes.now) c.loop-test.true read c.loop.invariant.rest)

pub loop-preserved : goal.loop-preserved
loop-preserved c =
    let read : run_at c.args.reader.now.room c.loop.last c.loop.left.now c.loop.reader.bytes.now ≡ Ok (c.in_ok-run.run', c.run_of.new.reader.bytes.now) = subst (λ (r : ℕ). run_at r c.loop.last c.loop.left.now c.loop.reader.bytes.now ≡ Ok (c.in_ok-run.run', c.run_of.new.reader.bytes.now)) c.loop.invariant.room c.in_ok-run.ensures.value in
    record {
      rest = rw (c.stands_out.ensures, c.behind-left.ensures) (runs_go_on c.args.reader.now.room c.loop.last c.loop.needed c.loop.left.now c.args.count c.loop.counter c.loop.reader.bytes.now c.in_ok-run.run' c.run_of.new.reader.bytes.now (runs_at c.args.reader.now.room no_run false c.args.characters.now c.args.count c.args.reader.now.bytes.now) c.loop-test.true read c.loop.invariant.rest);
      room = c.in_ok-run.ensures.room ∙ c.loop.invariant.room;
    }

pub returns-then-needed-clause-value : goal.returns-then-needed-clause-value
returns-then-needed-clause-value c =
    let done = runs_done c.args.reader.now.room c.loop.last c.loop.needed c.loop.left.now c.args.count c.loop.counter c.loop.reader.bytes.now (runs_at c.args.reader.now.room no_run false c.args.characters.now c.args.count c.args.reader.now.bytes.now) c.loop-test.false c.loop.invariant.rest in
    let all : (c.loop.needed && eqb (length c.loop.left.now) 0) ≡ c.is_empty.result = ap (λ (b : Bool). b && eqb (length c.loop.left.now) 0) c.if-needed.true ∙ sym c.is_empty.ensures in
    done ∙ ap (λ (b : Bool). Ok (b, c.loop.reader.bytes.now)) all

pub returns-else-needed-clause-value : goal.returns-else-needed-clause-value
returns-else-needed-clause-value c =
    let done = runs_done c.args.reader.now.room c.loop.last c.loop.needed c.loop.left.now c.args.count c.loop.counter c.loop.reader.bytes.now (runs_at c.args.reader.now.room no_run false c.args.characters.now c.args.count c.args.reader.now.bytes.now) c.loop-test.false c.loop.invariant.rest in
    let none : (c.loop.needed && eqb (length c.loop.left.now) 0) ≡ c.loop.needed = ap (λ (b : Bool). b && eqb (length c.loop.left.now) 0) c.if-needed.false ∙ sym c.if-needed.false in
    done ∙ ap (λ (b : Bool). Ok (b, c.loop.reader.bytes.now)) none
