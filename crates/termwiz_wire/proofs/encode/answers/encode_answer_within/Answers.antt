use Rattle.std.proofs.Common.{◌≡◌, List, ℕ, false, length, take, sym, ◌∙◌, ap, subst, arith}
use Rattle.cbor.specs.Encoding.{BeginsWith}
use Rattle.termwiz_cell.specs.Measure.{measure}
use Rattle.termwiz_wire.specs.Sent.{EncodesWithin, answer}
use Rattle.termwiz_wire.specs.declared.sent.SentAnswer.{SentAnswer}
use Rattle.termwiz_wire.proofs.Encoded.{within_all, within_none}
use Rattle.termwiz_wire.proofs.encode.answers.encode_answer_within.Given.{Over}
use Rattle.termwiz_wire.proofs.encode.answers.encode_answer_within.Goals as goal

none : (g : Over) (c : goal.After-truncate g) → EncodesWithin (answer (measure g.W.Widths.width_of c.args.widths.now) (record { source = c.args.source; answer = c.args.value.now })) c.args.most c.args.out.now.items false c.truncate.new.self.items
none g c =
    let past = rw c.changes.ensures.value at (c.in_ok-within.ensures.past c.if-not-within.true) in
    let start : c.len-start.result ≡ length c.args.out.now.items = omega (arith, c.len-start.ensures, c.args.out.now.ok.0) in
    within_none (measure g.W.Widths.width_of c.args.widths.now) (record { source = c.args.source; answer = c.args.value.now }) c.args.out.now.items c.put_head.new.out.items c.in_ok-put_head.ensures.written c.args.most c.saturating_add-end.result
    c.encode_changes_within.new.out.items c.truncate.new.self.items (omega (arith, c.saturating_add-end.ensures, start, past.0)) past.0 past.1 c.in_ok-within.ensures.kept (c.truncate.ensures.items ∙ ap (λ n. take n c.encode_changes_within.new.out.items) start)

pub returns-then-not-within-clause-written : goal.returns-then-not-within-clause-written
returns-then-not-within-clause-written g c =
    let sent : SentAnswer = record { source = c.args.source; answer = c.args.value.now } in
    subst (λ b. EncodesWithin (answer (measure g.W.Widths.width_of c.args.widths.now) sent) c.args.most c.args.out.now.items b c.truncate.new.self.items) (sym c.if-not-within.true) (none g c)

pub returns-then-not-within-clause-kept : goal.returns-then-not-within-clause-kept
returns-then-not-within-clause-kept g c front begins = subst (λ (bytes : List ℕ). BeginsWith bytes front) (sym (none g c).0) begins

pub returns-else-not-within-clause-written : goal.returns-else-not-within-clause-written
returns-else-not-within-clause-written g c =
    let m : List ℕ → ℕ = measure g.W.Widths.width_of c.args.widths.now in
    let sent : SentAnswer = record { source = c.args.source; answer = c.args.value.now } in
    let whole = rw c.changes.ensures.value at (c.in_ok-within.ensures.whole c.if-not-within.false) in
    subst (λ b. EncodesWithin (answer m sent) c.args.most c.args.out.now.items b c.encode_changes_within.new.out.items) (sym c.if-not-within.false)
    (within_all m sent c.args.out.now.items c.put_head.new.out.items c.in_ok-put_head.ensures.written c.args.most c.saturating_add-end.result c.encode_changes_within.new.out.items
    (omega (arith, c.saturating_add-end.ensures, c.len-start.ensures, c.args.out.now.ok.0)) whole.0 whole.1)
