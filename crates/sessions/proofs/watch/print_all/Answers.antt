use Rattle.std.proofs.Common.{◌≡◌, ◌∙◌, ap, refl, rules, subst, sym}
use Rattle.std.specs.Prelude.{Option, None, Some, OnOk, Result, Ok, Err}
use Rattle.termwiz_share.specs.Client.{shown_by}
use Rattle.termwiz_share.specs.declared.taken.Taken.{Taken}
use Rattle.sessions.specs.Printing.{Finishes, Outputs}
use Rattle.sessions.specs.declared.ending.SessionError.TheVariants.{Unreadable}
use Rattle.sessions.specs.declared.watch.stream.StreamError.{StreamError}
use Rattle.sessions.specs.declared.watch.WatchEnd.{WatchEnd}
use Rattle.sessions.specs.declared.watch.WatchEnd.TheVariants.{Session}
use Rattle.sessions.proofs.Coming.{Viewer}
use Rattle.sessions.proofs.StreamPrinted.{end_printed, next_printed, prints_refused, silent_whole, so_far_first, whole_printed}
use Rattle.sessions.proofs.Watched.{Says}
use Rattle.sessions.proofs.watch.print_all.Goals as goal

pub loop-count-init : goal.loop-count-init
loop-count-init g c =
    let is = c.in_ok-client.ensures.blank in
    record {
      limits = ap (λ (v : Viewer). v.limits) is;
      reading = ap (λ (v : Viewer). v.stopped) is;
      silent = λ e. refl;
      so_far = so_far_first c.args.options c.in_ok-client.client (g.R.Read.remaining c.args.input.now) (record { out = g.O.Write.contents c.args.out.now; err = g.E.Write.contents c.args.err.now }) (ap shown_by is) (ap (λ (v : Viewer). v.kept) is);
    }

pub loop-count-preserved : goal.loop-count-preserved
loop-count-preserved g c =
    let at = c.loop-count in
    let new = c.next_answer.new.client in
    let later = g.R.Read.remaining at.input in
    let after = g.R.Read.remaining c.next_answer.new.input in
    let is : c.next_answer.result ≡ Ok (Some c.in-Ok-Some.taken) = search rules in
    let says = subst (λ (r : Result (Option Taken) StreamError). Says at.client later r new after) is c.next_answer.ensures.takes in
    let q = c.answer.ensures.silent in
    let old : Outputs = record { out = g.O.Write.contents c.args.out.now; err = g.E.Write.contents c.args.err.now } in
    let mid : Outputs = record { out = g.O.Write.contents at.out; err = g.E.Write.contents at.err } in
    let newer : Outputs = record { out = g.O.Write.contents c.answer.new.out; err = g.E.Write.contents c.answer.new.err } in
    record {
      limits = c.next_answer.ensures.limits ∙ at.invariant.limits;
      reading = subst (λ (r : Result (Option Taken) StreamError). OnOk r (new.stopped ≡ None)) is c.next_answer.ensures.reading;
      silent = λ e. (q e).1 ∙ at.invariant.silent (q e).0;
      so_far = next_printed c.args.options (g.R.Read.remaining c.args.input.now) at.count at.client new later after at.printing old mid at.invariant.limits at.invariant.so_far c.answer.new.self newer c.in-Ok-Some.taken says c.in_ok-answer-in-Ok-Some.ensures.prints;
    }

pub returns-in_err-answer-in-Ok-Some-clause-prints : goal.returns-in_err-answer-in-Ok-Some-clause-prints
returns-in_err-answer-in-Ok-Some-clause-prints g c =
    let error = c.in_err-answer-in-Ok-Some.field-0.0 in
    let failed = c.from_residual-in_err-answer-in-Ok-Some in
    let is : failed.result ≡ Err (Session error) = search rules in
    prints_refused c.args.options (g.R.Read.remaining c.args.input.now) error failed.result (record { out = g.O.Write.contents c.args.out.now; err = g.E.Write.contents c.args.err.now })
    (record { out = g.O.Write.contents c.answer.new.out; err = g.E.Write.contents c.answer.new.err }) is

pub returns-in-Ok-None-clause-prints : goal.returns-in-Ok-None-clause-prints
returns-in-Ok-None-clause-prints g c =
    let at = c.loop-count in
    let new = c.next_answer.new.client in
    let later = g.R.Read.remaining at.input in
    let after = g.R.Read.remaining c.next_answer.new.input in
    let is : c.next_answer.result ≡ Ok None = search rules in
    let says = subst (λ (r : Result (Option Taken) StreamError). Says at.client later r new after) is c.next_answer.ensures.takes in
    let old : Outputs = record { out = g.O.Write.contents c.args.out.now; err = g.E.Write.contents c.args.err.now } in
    let mid : Outputs = record { out = g.O.Write.contents at.out; err = g.E.Write.contents at.err } in
    let out = g.O.Write.contents c.finish.new.out in
    let ends = subst (λ (e : Result (Unit {0}) WatchEnd). Finishes at.printing (shown_by new) e mid.out c.finish.result out) c.whole.ensures c.finish.ensures in
    whole_printed c.args.options (g.R.Read.remaining c.args.input.now) at.count at.client new later after at.printing old mid at.invariant.limits at.invariant.so_far out c.finish.result says ends

pub returns-in-Err-clause-prints : goal.returns-in-Err-clause-prints
returns-in-Err-clause-prints g c =
    let at = c.loop-count in
    let new = c.next_answer.new.client in
    let later = g.R.Read.remaining at.input in
    let after = g.R.Read.remaining c.next_answer.new.input in
    let error = c.in-Err.error in
    let is : c.next_answer.result ≡ Err error = search rules in
    let says = subst (λ (r : Result (Option Taken) StreamError). Says at.client later r new after) is c.next_answer.ensures.takes in
    let old : Outputs = record { out = g.O.Write.contents c.args.out.now; err = g.E.Write.contents c.args.err.now } in
    let mid : Outputs = record { out = g.O.Write.contents at.out; err = g.E.Write.contents at.err } in
    let out = g.O.Write.contents c.finish-in-Err.new.out in
    let ends = subst (λ (e : WatchEnd). Finishes at.printing (shown_by new) (Err e) mid.out c.finish-in-Err.result out) c.of.ensures c.finish-in-Err.ensures in
    end_printed c.args.options (g.R.Read.remaining c.args.input.now) at.count at.client new later after at.printing old mid at.invariant.limits at.invariant.so_far out error c.finish-in-Err.result says ends

pub returns-in-Ok-None-clause-silent : goal.returns-in-Ok-None-clause-silent
returns-in-Ok-None-clause-silent g c =
    let at = c.loop-count in
    let new = c.next_answer.new.client in
    let mid = g.O.Write.contents at.out in
    let out = g.O.Write.contents c.finish.new.out in
    let ends = subst (λ (e : Result (Unit {0}) WatchEnd). Finishes at.printing (shown_by new) e mid c.finish.result out) c.whole.ensures c.finish.ensures in
    silent_whole at.printing (shown_by new) mid out c.finish.result (at.err ≡ c.args.err.now) ends at.invariant.silent

pub returns-clause-prints : goal.returns-clause-prints
returns-clause-prints g c =
    prints_refused c.args.options (g.R.Read.remaining c.args.input.now) Unreadable (Err (Session Unreadable)) (record { out = g.O.Write.contents c.args.out.now; err = g.E.Write.contents c.args.err.now })
    (record { out = g.O.Write.contents c.loop-count.out; err = g.E.Write.contents c.loop-count.err }) refl
