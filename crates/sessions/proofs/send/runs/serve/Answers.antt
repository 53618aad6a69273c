use Rattle.std.proofs.Common.{◌≡◌, ◌∙◌, ℕ, ap, refl, sym, subst}
use Rattle.termwiz_screen.specs.Log.{next_number}
use Rattle.termwiz_surface.specs.Surface.{SurfaceValue}
use Rattle.termwiz_surface.specs.declared.view.Outcome.TheVariants.{Done}
use Rattle.sessions.specs.SendSteps.{SendsOn}
use Rattle.sessions.specs.Sending.{Happens, IsAnswered, Sender, own_ask}
use Rattle.sessions.specs.declared.send.runs.SendEvent.TheVariants.{Flush, Send}
use Rattle.sessions.specs.declared.send.runs.SendOutcome.TheVariants.{Sent}
use Rattle.sessions.proofs.Sent.{made_steps, given_steps}
use Rattle.sessions.proofs.send.runs.serve.Goals as goal

pub returns-in-Changes-clause-steps : goal.returns-in-Changes-clause-steps
returns-in-Changes-clause-steps c = λ v named.
    made_steps c.args.source.now c.added.new.source c.args.last.now v c.args.event c.added.result (rw c.in-Changes.is c.added.ensures.happens) c.added.ensures.serves named

pub returns-in-Changes-clause-does : goal.returns-in-Changes-clause-does
returns-in-Changes-clause-does c = (rw c.in-Changes.is c.added.ensures.happens, refl)

pub returns-in-Flush-clause-steps : goal.returns-in-Flush-clause-steps
returns-in-Flush-clause-steps c = λ v named.
    let flush = c.flush_changes_older_than in
    let is = flush.ensures.flushes in
    let happens : Happens c.args.source.now c.args.event Done flush.new.self = rw c.in-Flush.is (record { acts = ap (λ (s : Sender). s.surface) is; number = ap (λ (s : Sender). s.number) is }) in
    made_steps c.args.source.now flush.new.self c.args.last.now v c.args.event Done happens flush.ensures.preserves.clients named

pub returns-in-Flush-clause-does : goal.returns-in-Flush-clause-does
returns-in-Flush-clause-does c =
    let is = c.flush_changes_older_than.ensures.flushes in
    (rw c.in-Flush.is (record { acts = ap (λ (s : Sender). s.surface) is; number = ap (λ (s : Sender). s.number) is }), refl)

pub returns-in-Resize-clause-steps : goal.returns-in-Resize-clause-steps
returns-in-Resize-clause-steps c = λ v named.
    made_steps c.args.source.now c.resized.new.source c.args.last.now v c.args.event c.resized.result (rw c.in-Resize.is c.resized.ensures.happens) c.resized.ensures.serves named

pub returns-in-Resize-clause-does : goal.returns-in-Resize-clause-does
returns-in-Resize-clause-does c = (rw c.in-Resize.is c.resized.ensures.happens, refl)

pub returns-in_ok-bytes-in-Send-clause-steps : goal.returns-in_ok-bytes-in-Send-clause-steps
returns-in_ok-bytes-in-Send-clause-steps c = λ v named.
    let s : Sender = c.args.source.now in
    let t : Sender = c.respond.new.source in
    let bytes = c.in_ok-bytes-in-Send.bytes in
    let n : ℕ = c.args.last.now in
    let is : IsAnswered s (own_ask s n) bytes t = subst (λ (k : ℕ). IsAnswered s (record { source = k; number = n }) bytes t) c.number.ensures.value c.in_ok-bytes-in-Send.ensures.answered in
    let last : c.current_seqno.result ≡ next_number t.surface.log = c.current_seqno.ensures.value ∙ ap (λ (x : SurfaceValue _). next_number x.log) c.surface.ensures.value in
    rw c.in-Send.is (subst (λ (k : ℕ). SendsOn s n v Send (Sent bytes) t k) (sym last) (given_steps s t n v bytes is c.respond.ensures.serves named))

pub returns-in_ok-bytes-in-Send-clause-does : goal.returns-in_ok-bytes-in-Send-clause-does
returns-in_ok-bytes-in-Send-clause-does c =
    let s : Sender = c.args.source.now in
    let t : Sender = c.respond.new.source in
    let n : ℕ = c.args.last.now in
    let is : IsAnswered s (own_ask s n) c.in_ok-bytes-in-Send.bytes t = subst (λ (k : ℕ). IsAnswered s (record { source = k; number = n }) c.in_ok-bytes-in-Send.bytes t) c.number.ensures.value c.in_ok-bytes-in-Send.ensures.answered in
    rw c.in-Send.is (is, c.current_seqno.ensures.value ∙ ap (λ (x : SurfaceValue _). next_number x.log) c.surface.ensures.value)
