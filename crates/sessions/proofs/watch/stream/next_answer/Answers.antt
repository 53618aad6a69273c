use Rattle.std.proofs.Common.{◌≡◌, ap, rules, subst, sym}
use Rattle.std.specs.Prelude.{Bool, Option, Result, Ok, Err, None, Some, IfSome}
use Rattle.termwiz_share.specs.Client.{shown_by}
use Rattle.termwiz_share.specs.declared.taken.Taken.{Taken}
use Rattle.sessions.specs.Taking.{TakesComing, coming, of_client}
use Rattle.sessions.specs.declared.watch.stream.StreamError.{StreamError}
use Rattle.sessions.proofs.Coming.{Bytes, comes_cut, comes_failed, comes_taken, there_none, there_on}
use Rattle.sessions.proofs.watch.stream.next_answer.Goals as goal

pub returns-in-Some-clause-takes : goal.returns-in-Some-clause-takes
returns-in-Some-clause-takes g c =
    let first = c.args.client.now in
    let known : Option Bytes = coming first (g.R.Read.remaining c.args.input.now) in
    comes_taken first c.requires.some known c.loop.client (g.R.Read.remaining c.loop.input) c.loop.invariant c.take_answer.new.self c.in-Some.taken (rw c.in-Some.is at c.in_ok-taken.ensures.takes)

pub returns-in_err-taken-clause-takes : goal.returns-in_err-taken-clause-takes
returns-in_err-taken-clause-takes g c =
    let first = c.args.client.now in
    let known : Option Bytes = coming first (g.R.Read.remaining c.args.input.now) in
    let later = g.R.Read.remaining c.loop.input in
    let is : c.from_residual.result ≡ Err (of_client c.in_err-taken.field-0.0) = search rules in
    let P : Result (Option Taken) StreamError → Type 0 = λ r. IfSome known (λ bytes. TakesComing first.limits (shown_by first) bytes r (shown_by c.take_answer.new.self) (coming c.take_answer.new.self later)) in
    subst P (sym is) (comes_failed first c.requires.some known c.loop.client later c.loop.invariant c.take_answer.new.self c.in_err-taken.field-0.0 c.in_err-taken.ensures.takes)

pub returns-in_err-end-clause-takes : goal.returns-in_err-end-clause-takes
returns-in_err-end-clause-takes g c =
    let first = c.args.client.now in
    let known : Option Bytes = coming first (g.R.Read.remaining c.args.input.now) in
    let later = g.R.Read.remaining c.loop.input in
    let after = g.R.Read.remaining c.read_piece.new.input in
    let mid = c.take_answer.new.self in
    let new = c.read_piece.new.client in
    let read = c.in_ok-read_piece.ensures in
    let here = there_none first c.requires.some known c.loop.client later c.loop.invariant mid (rw c.in_default.is at c.in_ok-taken.ensures.takes) in
    let there = there_on first known mid new later after here read.same.0 read.same.1 read.reading read.keeps in
    let ended = read.end (ap (λ (b : Bool). Ok b) c.if-not-branch.true) in
    let is : c.from_residual-in_err-end.result ≡ Err (of_client c.in_err-end.field-0.0) = search rules in
    let P : Result (Option Taken) StreamError → Type 0 = λ r. IfSome known (λ bytes. TakesComing first.limits (shown_by first) bytes r (shown_by new) (coming new after)) in
    subst P (sym is) (comes_cut first c.requires.some known new after there ended.0 c.in_err-end.field-0.0 c.in_err-end.ensures)
