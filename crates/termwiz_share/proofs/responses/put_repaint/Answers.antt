use Rattle.std.proofs.Common.{◌≡◌, ◌++◌, List, ℕ, subst}
use Rattle.std.specs.Prelude.{OnOk}
use Rattle.termwiz_cell.specs.Measure.{measure}
use Rattle.termwiz_surface.specs.Answer.{AnswerValue}
use Rattle.termwiz_wire.specs.Sent.{IsSent, answer}
use Rattle.termwiz_share.specs.Source.{repaint_answer, sent_by}
use Rattle.termwiz_share.proofs.Answering.{made_repaint}
use Rattle.termwiz_share.proofs.responses.put_repaint.Goals as goal

pub returns-clause-put : goal.returns-clause-put
returns-clause-put g c =
    let f = measure g.W.Widths.width_of in
    let s = c.args.surface.now in
    let h = c.in_ok-repaint.ensures in
    subst (λ (front : List ℕ). OnOk c.encode_answer.result (c.encode_answer.new.out.items ≡ front ++ answer (f s.widths) (sent_by c.args.number (repaint_answer s)))) c.requires.empty
    (subst (λ (a : AnswerValue). OnOk c.encode_answer.result (c.encode_answer.new.out.items ≡ c.args.out.now.items ++ answer (f s.widths) (sent_by c.args.number a)))
    (made_repaint f s c.in_ok-repaint.repaint (h.given_fully c.requires.full) h.entries) (rw c.widths.ensures at c.encode_answer.ensures.written))

pub returns-clause-form : goal.returns-clause-form
returns-clause-form g c =
    let f = measure g.W.Widths.width_of in
    let s = c.args.surface.now in
    let h = c.in_ok-repaint.ensures in
    subst (λ (a : AnswerValue). OnOk c.encode_answer.result (IsSent (f s.widths) (sent_by c.args.number a)))
    (made_repaint f s c.in_ok-repaint.repaint (h.given_fully c.requires.full) h.entries) (rw c.widths.ensures at c.encode_answer.ensures.form)
