use Rattle.std.proofs.Common.{◌≡◌, ℕ, ◌-◌, List, length, take, Err, sym, subst, ◌∙◌}
use Rattle.cbor.specs.Decoding.{IsBytes, Stops, allowed, fault_of}
use Rattle.termwiz_wire.specs.Answers.{head_at}
use Rattle.termwiz_wire.proofs.AnswerHeads.{fault_is, fault_of_answer, head_failed, head_found, head_of_answer, head_of_encoded}
use Rattle.termwiz_wire.proofs.AnswersFound.{head_takes}
use Rattle.termwiz_wire.proofs.Within.{lens_of}
use Rattle.termwiz_wire.proofs.decode.heads.decode_head.Goals as goal

pub returns-in-Ok-clause-exact : goal.returns-in-Ok-clause-exact
returns-in-Ok-clause-exact c = sym (head_found c.args.limits c.args.bytes.now c.head_of.new.reader.bytes.now c.in-Ok.head (rw (c.with_limit-reader.ensures.bytes, c.with_limit-reader.ensures.room) at c.in-Ok.ensures.value))

pub returns-in-Ok-clause-again : goal.returns-in-Ok-clause-again
returns-in-Ok-clause-again c = λ measure s rest is fits short e. returns-in-Ok-clause-exact c ∙ head_of_encoded measure c.args.limits c.args.bytes.now s rest is fits short e

pub returns-in-Ok-clause-of_answer : goal.returns-in-Ok-clause-of_answer
returns-in-Ok-clause-of_answer c = λ measure s rest e. returns-in-Ok-clause-exact c ∙ head_of_answer measure c.args.limits c.args.bytes.now s rest e

pub returns-in-Ok-clause-named : goal.returns-in-Ok-clause-named
returns-in-Ok-clause-named c =
    let fits : IsBytes c.with_limit-reader.result.bytes.now = subst (λ (b : List ℕ). IsBytes b) c.rest-len.ensures.value c.rest-len.ensures.bytes in
    (head_takes c.with_limit-reader.result.room c.args.limits c.with_limit-reader.result.bytes.now (c.in-Ok.head, c.head_of.new.reader.bytes.now) fits c.in-Ok.ensures.value).named

pub returns-in-Ok-clause-limited : goal.returns-in-Ok-clause-limited
returns-in-Ok-clause-limited c =
    let fits : IsBytes c.with_limit-reader.result.bytes.now = subst (λ (b : List ℕ). IsBytes b) c.rest-len.ensures.value c.rest-len.ensures.bytes in
    (head_takes c.with_limit-reader.result.room c.args.limits c.with_limit-reader.result.bytes.now (c.in-Ok.head, c.head_of.new.reader.bytes.now) fits c.in-Ok.ensures.value).few

pub returns-in-Err-clause-exact : goal.returns-in-Err-clause-exact
returns-in-Err-clause-exact c =
    let at : ℕ = allowed c.head_of.new.reader.room c.head_of.new.reader.bytes.now in
    let hand : List ℕ = take c.args.limits.bytes c.args.bytes.now in
    let room : ℕ = c.args.limits.bytes - length c.args.bytes.now in
    let stops : Stops at c.in-Err.error (head_at room c.args.limits hand) = rw (c.with_limit-reader.ensures.bytes, c.with_limit-reader.ensures.room) at c.in-Err.ensures.value in
    let n = lens_of c.rest-len.result.now hand c.head_of.new.reader.bytes.now c.saturating_sub.result c.saturating_sub.ensures (c.rest-len.ensures.value ∙ c.with_limit-reader.ensures.bytes) in
    sym (head_failed c.args.limits c.args.bytes.now c.head_of.new.reader.bytes.now c.head_of.new.reader.room c.saturating_sub.result c.unwrap.result (c.in-Err.ensures.room ∙ c.with_limit-reader.ensures.room) n
    (fault_is (fault_of c.in-Err.error) c.unwrap.result (λ f. head_at room c.args.limits hand ≡ Err (record { fault = f; left = at })) (sym c.fault.ensures ∙ c.unwrap.ensures) stops))

pub returns-in-Err-clause-again : goal.returns-in-Err-clause-again
returns-in-Err-clause-again c = λ measure s rest is fits short e. returns-in-Err-clause-exact c ∙ head_of_encoded measure c.args.limits c.args.bytes.now s rest is fits short e

pub returns-in-Err-clause-of_answer : goal.returns-in-Err-clause-of_answer
returns-in-Err-clause-of_answer c = λ measure s rest e. returns-in-Err-clause-exact c ∙ head_of_answer measure c.args.limits c.args.bytes.now s rest e

pub returns-in-Err-clause-of_fault : goal.returns-in-Err-clause-of_fault
returns-in-Err-clause-of_fault c = λ measure. fault_of_answer measure c.args.limits c.args.bytes.now _ (sym (returns-in-Err-clause-exact c))
