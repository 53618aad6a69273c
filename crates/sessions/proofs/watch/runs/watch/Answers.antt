use Rattle.std.proofs.Common.{◌≡◌, ◌∙◌, ap, refl, rules, subst, sym}
use Rattle.std.specs.Prelude.{Option, None, Some, OnOk, Result, Ok, Err}
use Rattle.termwiz_share.specs.Client.{shown_by}
use Rattle.termwiz_share.specs.declared.taken.Taken.{Taken}
use Rattle.sessions.specs.declared.watch.stream.StreamError.{StreamError}
use Rattle.sessions.specs.declared.watch.stream.StreamError.TheVariants.{Answer}
use Rattle.sessions.proofs.Coming.{Viewer}
use Rattle.sessions.proofs.Watched.{Says, fault_kept, kept_first, next_kept, whole_kept}
use Rattle.sessions.proofs.watch.runs.watch.Goals as goal

pub loop-count-init : goal.loop-count-init
loop-count-init g c =
    let is = c.in_ok-client.ensures.blank in
    record {
      limits = ap (λ (v : Viewer). v.limits) is;
      reading = ap (λ (v : Viewer). v.stopped) is;
      no_fault = refl;
      kept = kept_first c.args.limits c.args.each c.in_ok-client.client (g.R.Read.remaining c.args.input.now) c.new-2.result.items c.new-3.result.items (ap shown_by is) (ap (λ (v : Viewer). v.kept) is) c.new-2.ensures.items c.new-3.ensures.items;
    }

pub loop-count-preserved : goal.loop-count-preserved
loop-count-preserved g c =
    let at = c.loop-count in
    let new = c.next_answer.new.client in
    let later = g.R.Read.remaining at.input in
    let after = g.R.Read.remaining c.next_answer.new.input in
    let is : c.next_answer.result ≡ Ok (Some c.in-Ok-Some.taken) = search rules in
    let says = subst (λ (r : Result (Option Taken) StreamError). Says at.client later r new after) is c.next_answer.ensures.takes in
    let kept = next_kept c.args.limits c.args.each (g.R.Read.remaining c.args.input.now) at.count at.client new later after at.watched at.invariant.limits at.invariant.no_fault at.invariant.kept c.in-Ok-Some.taken c.keep.new.self says c.in_ok-keep-in-Ok-Some.ensures in
    record {
      limits = c.next_answer.ensures.limits ∙ at.invariant.limits;
      reading = subst (λ (r : Result (Option Taken) StreamError). OnOk r (new.stopped ≡ None)) is c.next_answer.ensures.reading;
      no_fault = kept.0;
      kept = kept.1;
    }

pub returns-in-Ok-None : goal.returns-in-Ok-None
returns-in-Ok-None g c =
    let at = c.loop-count in
    let new = c.next_answer.new.client in
    let later = g.R.Read.remaining at.input in
    let after = g.R.Read.remaining c.next_answer.new.input in
    let is : c.next_answer.result ≡ Ok None = search rules in
    let says = subst (λ (r : Result (Option Taken) StreamError). Says at.client later r new after) is c.next_answer.ensures.takes in
    whole_kept c.args.limits c.args.each (g.R.Read.remaining c.args.input.now) at.count at.client new later after at.watched at.invariant.limits at.invariant.no_fault at.invariant.kept says

pub returns-in-Err-Answer : goal.returns-in-Err-Answer
returns-in-Err-Answer g c =
    let at = c.loop-count in
    let new = c.next_answer.new.client in
    let later = g.R.Read.remaining at.input in
    let after = g.R.Read.remaining c.next_answer.new.input in
    let is : c.next_answer.result ≡ Err (Answer c.in-Err-Answer.error) = search rules in
    let says = subst (λ (r : Result (Option Taken) StreamError). Says at.client later r new after) is c.next_answer.ensures.takes in
    fault_kept c.args.limits c.args.each (g.R.Read.remaining c.args.input.now) at.count at.client new later after at.watched at.invariant.limits at.invariant.no_fault at.invariant.kept c.in-Err-Answer.error says
