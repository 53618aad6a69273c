use Rattle.std.proofs.Common.{◌≡◌, ◌≤◌, ◌++◌, ℕ, List, length, take, drop, inr, ap, sym, subst, ◌∙◌, arith}
use Rattle.termwiz_cell.specs.Measure.{measure}
use Rattle.termwiz_share.specs.{IsResponse, PreservesServing, SourceValue, response_bytes}
use Rattle.uses.proofs.Trimmed.{answered_again, front}
use Rattle.uses.proofs.serving.write_response.Goals as goal

-- bytes of this length that are written to the front of a buffer with room for them
written : (bytes old new rest : List ℕ) (len room : ℕ) → len ≡ length bytes → new ≡ bytes ++ drop len old → len ≤ room → take len (take room (new ++ rest)) ≡ bytes
written bytes old new rest len room is_len is fits =
    ap (λ (l : List ℕ). take len (take room (l ++ rest))) is
    ∙ subst (λ (n : ℕ). take n (take room ((bytes ++ drop len old) ++ rest)) ≡ bytes) (sym is_len)
    (front bytes (drop len old) rest room (omega (arith, is_len, fits)))

pub returns-else-len-clause-response : goal.returns-else-len-clause-response
returns-else-len-clause-response g c =
    let f = measure g.W.Widths.width_of in
    let s = c.respond_to.new.self in
    let bytes = response_bytes f s c.args.ask in
    let e = c.in_ok-len.ensures in
    let fits : c.in_ok-len.len ≤ c.args.buffer.now.len = omega (arith, c.if-len.false) in
    let room : c.in_ok-len.len ≤ length c.deref_mut.result.now = omega (arith, fits, c.deref_mut.ensures.len) in
    subst (λ (l : List ℕ). IsResponse f s c.args.ask l)
    (sym (written bytes c.deref_mut.result.now c.respond_to.new.room _ c.in_ok-len.len c.args.buffer.now.len e.written.0 (e.written.1 room) fits))
    e.response

pub returns-in_ok-respond_to-clause-response : goal.returns-in_ok-respond_to-clause-response
returns-in_ok-respond_to-clause-response g c =
    let f = measure g.W.Widths.width_of in
    let s = c.respond_to-then-len.new.self in
    let bytes = response_bytes f s c.args.ask in
    let first = c.in_ok-len.ensures in
    let second = c.in_ok-respond_to.ensures in
    let again : s ≡ c.respond_to.new.self = answered_again c.args.source.now c.respond_to.new.self s first.trims second.trims in
    let len : c.in_ok-len.len ≡ length bytes = first.written.0 ∙ ap (λ (t : SourceValue _). length (response_bytes f t c.args.ask)) (sym again) in
    let same : c.in_ok-respond_to.field-0 ≡ c.in_ok-len.len = second.written.0 ∙ sym len in
    let fits : c.in_ok-len.len ≤ c.resize.new.self.len = omega (arith, c.in_ok-resize.ensures.len) in
    let room : c.in_ok-respond_to.field-0 ≤ length c.deref_mut-then-len.result.now = omega (arith, same, fits, c.deref_mut-then-len.ensures.len) in
    let is : c.respond_to-then-len.new.room ≡ bytes ++ drop c.in_ok-len.len c.deref_mut-then-len.result.now = subst (λ (n : ℕ). c.respond_to-then-len.new.room ≡ bytes ++ drop n c.deref_mut-then-len.result.now) same (second.written.1 room) in
    subst (λ (l : List ℕ). IsResponse f s c.args.ask l)
    (sym (written bytes c.deref_mut-then-len.result.now c.respond_to-then-len.new.room _ c.in_ok-len.len c.resize.new.self.len len is fits))
    second.response

pub returns-in_ok-respond_to-clause-trims : goal.returns-in_ok-respond_to-clause-trims
returns-in_ok-respond_to-clause-trims g c =
    let first = c.in_ok-len.ensures.trims in
    inr (answered_again c.args.source.now c.respond_to.new.self c.respond_to-then-len.new.self first c.in_ok-respond_to.ensures.trims ∙ first)

pub returns-in_ok-respond_to-clause-preserves : goal.returns-in_ok-respond_to-clause-preserves
returns-in_ok-respond_to-clause-preserves g c =
    let f = measure g.W.Widths.width_of in
    let again = answered_again c.args.source.now c.respond_to.new.self c.respond_to-then-len.new.self c.in_ok-len.ensures.trims c.in_ok-respond_to.ensures.trims in
    subst (λ (t : SourceValue _). PreservesServing f c.args.source.now t) (sym again) c.in_ok-len.ensures.preserves
