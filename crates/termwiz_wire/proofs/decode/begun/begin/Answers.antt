use Rattle.std.proofs.Common.{◌≡◌, ℕ, ◌-◌, List, length, take, None, refl, subst, ◌∙◌}
use Rattle.cbor.specs.Decoding.{IsBytes, Stops, allowed}
use Rattle.cbor.specs.declared.error.FaultKind.TheVariants.{Truncated}
use Rattle.cbor.specs.declared.error.ReadError.TheVariants as read_errors
use Rattle.termwiz_cell.specs.Measure.{measure}
use Rattle.termwiz_wire.specs.Answers.{Halt, head_at}
use Rattle.termwiz_wire.specs.Resuming.{LeadsOn}
use Rattle.termwiz_wire.proofs.Resuming.{for_none, head_stopped, is_unfinished, leads_first, resumes_failed}
use Rattle.termwiz_wire.proofs.Within.{lens_of}
use Rattle.termwiz_wire.proofs.decode.begun.begin.Given.{Over}
use Rattle.termwiz_wire.proofs.decode.begun.begin.Goals as goal
use Rattle.termwiz_wire.proofs.decode.begun.begin.Goals.{After-head_of, In-Err}

hand_is : (g : Over) (c : After-head_of g) → c.rest-len.result.now ≡ take c.args.limits.bytes c.args.bytes.now
hand_is g c = c.rest-len.ensures.value ∙ c.with_limit-reader.ensures.bytes

-- what the head shows is a stop of the bytes within the limit
stops : (g : Over) (c : In-Err g) → Stops (allowed c.head_of.new.reader.room c.head_of.new.reader.bytes.now) c.in-Err.error (head_at (c.args.limits.bytes - length c.args.bytes.now) c.args.limits (take c.args.limits.bytes c.args.bytes.now))
stops g c =
    let at : ℕ = allowed c.head_of.new.reader.room c.head_of.new.reader.bytes.now in
    subst (λ (b : List ℕ). Stops at c.in-Err.error (head_at (c.args.limits.bytes - length c.args.bytes.now) c.args.limits b)) c.with_limit-reader.ensures.bytes
    (subst (λ (n : ℕ). Stops at c.in-Err.error (head_at n c.args.limits c.with_limit-reader.result.bytes.now)) c.with_limit-reader.ensures.room c.in-Err.ensures.value)

pub resume_changes-requires-clause-leads : goal.resume_changes-requires-clause-leads
resume_changes-requires-clause-leads g c =
    let hand = hand_is g (goal.at.resume_changes-requires-clause-leads g c).After-head_of in
    let fits : IsBytes (take c.args.limits.bytes c.args.bytes.now) = subst (λ (b : List ℕ). IsBytes b) hand c.rest-len.ensures.bytes in
    leads_first (measure g.W.Widths.width_of c.args.widths.now) c.args.limits c.args.bytes.now c.in-Ok.head c.new.result c.head_of.new.reader.bytes.now c.saturating_sub.result c.in-Ok.ensures.width c.in-Ok.ensures.height c.in-Ok.ensures.numbers fits
    (rw (c.with_limit-reader.ensures.bytes, c.with_limit-reader.ensures.room) at c.in-Ok.ensures.value) c.new.ensures.items
    (lens_of c.rest-len.result.now (take c.args.limits.bytes c.args.bytes.now) c.head_of.new.reader.bytes.now c.saturating_sub.result c.saturating_sub.ensures hand)

pub returns-in-Truncated-clause-exact : goal.returns-in-Truncated-clause-exact
returns-in-Truncated-clause-exact g c =
    let m : List ℕ → ℕ = measure g.W.Widths.width_of c.args.widths.now in
    let at : ℕ = allowed c.head_of.new.reader.room c.head_of.new.reader.bytes.now in
    let stopped = rw c.in-Truncated.is at (stops g (goal.at.returns-in-Truncated-clause-exact g c).In-Err) in
    let halts = head_stopped m c.args.limits c.args.bytes.now read_errors.Truncated at stopped in
    let h : Halt = record { stop = record { fault = Truncated; left = at }; change = None } in
    (is_unfinished m c.args.limits c.args.bytes.now h halts refl, for_none (λ b. LeadsOn m c.args.limits b c.args.bytes.now), record { stop = h.stop; is = stopped; cut = refl })

pub returns-in_default-clause-exact : goal.returns-in_default-clause-exact
returns-in_default-clause-exact g c =
    let m : List ℕ → ℕ = measure g.W.Widths.width_of c.args.widths.now in
    let at : ℕ = allowed c.head_of.new.reader.room c.head_of.new.reader.bytes.now in
    resumes_failed m c.args.limits c.args.bytes.now c.in-Err.error None c.head_of.new.reader.bytes.now c.head_of.new.reader.room c.saturating_sub-at.result c.located.result c.in_default.not-Truncated (c.in-Err.ensures.room ∙ c.with_limit-reader.ensures.room)
    (head_stopped m c.args.limits c.args.bytes.now c.in-Err.error at (stops g (goal.at.returns-in_default-clause-exact g c).In-Err))
    (lens_of c.rest-len.result.now (take c.args.limits.bytes c.args.bytes.now) c.head_of.new.reader.bytes.now c.saturating_sub-at.result c.saturating_sub-at.ensures (hand_is g (goal.at.returns-in_default-clause-exact g c).After-head_of))
    c.located.ensures
