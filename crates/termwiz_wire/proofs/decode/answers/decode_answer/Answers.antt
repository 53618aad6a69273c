use Rattle.std.proofs.Common.{◌≡◌, ℕ, ◌-◌, ◌≤◌, List, ◌++◌, length, take, drop, Result, Ok, Err, sym, subst, ◌∙◌, arith}
use Rattle.std.proofs.lemmas.List.{length-drop}
use Rattle.cbor.specs.Decoding.{IsBytes}
use Rattle.termwiz_cell.specs.Measure.{measure}
use Rattle.termwiz_wire.specs.declared.fault.Fault.{Fault}
use Rattle.termwiz_wire.proofs.Within.{Took, took, stopped_at, within_again, lens_of}
use Rattle.termwiz_wire.specs.Answers.{Decodes, Halt, answer_at, answer_in}
use Rattle.termwiz_wire.specs.Sent.{IsSent, answer}
use Rattle.termwiz_wire.specs.Within.{IsWithinLimits}
use Rattle.termwiz_wire.specs.declared.fault.Limits.{Limits}
use Rattle.termwiz_wire.specs.declared.sent.SentAnswer.{SentAnswer}
use Rattle.termwiz_wire.proofs.AnswersAgain.{answer_again}
use Rattle.termwiz_wire.proofs.AnswersFound.{answer_takes, answer-some}
use Rattle.termwiz_wire.proofs.decode.answers.decode_answer.Goals as goal

abbrev reading : (List ℕ → ℕ) → Limits → ℕ → List ℕ → Result (SentAnswer × List ℕ) Halt
reading columns limits room bytes = answer_in columns room limits bytes

abbrev View : List ℕ → SentAnswer × ℕ → SentAnswer × List ℕ
View bytes x = (x.0, drop x.1 bytes)

taken : (columns : List ℕ → ℕ) (limits : Limits) (bytes hand rest : List ℕ) (room n : ℕ) (s : SentAnswer) → hand ≡ take limits.bytes bytes → room ≡ limits.bytes - length bytes → IsBytes hand → answer_in columns room limits hand ≡ Ok (s, rest) → n ≡ length hand - length rest → Took (reading columns limits) limits.bytes (answer columns s) bytes n s
taken columns limits bytes hand rest room n s same left fits e is = took (reading columns limits) limits.bytes (answer columns s) bytes hand rest room n s same left (answer_takes columns room limits hand (s, rest) fits e).taken.parts e is

-- an answer within the limits
again : (columns : List ℕ → ℕ) (limits : Limits) (bytes rest : List ℕ) (s : SentAnswer) → IsSent columns s → IsWithinLimits columns limits s → bytes ≡ answer columns s ++ rest → answer_at columns limits bytes ≡ Ok (s, rest)
unfolding answer_at
again columns limits bytes rest s is within e = within_again (reading columns limits) limits.bytes bytes (answer columns s) rest s within.bytes e (λ room more. answer_again columns room limits s more is within.screen within.borne)

-- it has no more changes than bytes
bounded : (columns : List ℕ → ℕ) (s : SentAnswer) (bytes : List ℕ) (n : ℕ) → bytes ≡ answer columns s ++ drop n bytes → n ≤ length bytes → length s.answer.changes ≤ n
bounded columns s bytes n parts fits = omega (arith, answer-some columns s bytes (drop n bytes) parts, fits, length-drop n bytes)

pub returns-in-Ok-clause-found : goal.returns-in-Ok-clause-found
returns-in-Ok-clause-found g c =
    let fits : IsBytes c.with_limit-reader.result.bytes.now = subst (λ (b : List ℕ). IsBytes b) c.rest-len.ensures.value c.rest-len.ensures.bytes in
    let n = lens_of c.rest-len.result.now c.with_limit-reader.result.bytes.now c.answer_of.new.reader.bytes.now c.saturating_sub.result c.saturating_sub.ensures c.rest-len.ensures.value in
    let t = taken (measure g.W.Widths.width_of c.args.widths.now) c.args.limits c.args.bytes.now c.with_limit-reader.result.bytes.now c.answer_of.new.reader.bytes.now c.with_limit-reader.result.room c.saturating_sub.result c.in-Ok.sent c.with_limit-reader.ensures.bytes c.with_limit-reader.ensures.room fits c.in-Ok.ensures.value n in
    (t.parts, t.fits)

pub returns-in-Ok-clause-exact : goal.returns-in-Ok-clause-exact
unfolding answer_at
returns-in-Ok-clause-exact g c =
    let fits : IsBytes c.with_limit-reader.result.bytes.now = subst (λ (b : List ℕ). IsBytes b) c.rest-len.ensures.value c.rest-len.ensures.bytes in
    let n = lens_of c.rest-len.result.now c.with_limit-reader.result.bytes.now c.answer_of.new.reader.bytes.now c.saturating_sub.result c.saturating_sub.ensures c.rest-len.ensures.value in
    (taken (measure g.W.Widths.width_of c.args.widths.now) c.args.limits c.args.bytes.now c.with_limit-reader.result.bytes.now c.answer_of.new.reader.bytes.now c.with_limit-reader.result.room c.saturating_sub.result c.in-Ok.sent c.with_limit-reader.ensures.bytes c.with_limit-reader.ensures.room fits c.in-Ok.ensures.value n).exact

pub returns-in-Ok-clause-again : goal.returns-in-Ok-clause-again
returns-in-Ok-clause-again g c = λ s rest is within e.
    sym (again (measure g.W.Widths.width_of c.args.widths.now) c.args.limits c.args.bytes.now rest s is within e) ∙ returns-in-Ok-clause-exact g c

pub returns-in-Err-clause-exact : goal.returns-in-Err-clause-exact
unfolding answer_at
returns-in-Err-clause-exact g c =
    let n = lens_of c.rest-len.result.now c.with_limit-reader.result.bytes.now c.answer_of.new.reader.bytes.now c.saturating_sub-in-Err.result c.saturating_sub-in-Err.ensures c.rest-len.ensures.value in
    stopped_at (View c.args.bytes.now) (reading (measure g.W.Widths.width_of c.args.widths.now) c.args.limits) c.args.limits.bytes c.args.bytes.now c.with_limit-reader.result.bytes.now c.answer_of.new.reader.bytes.now c.with_limit-reader.result.room c.answer_of.new.reader.room c.saturating_sub-in-Err.result c.in-Err.halted.error c.in-Err.halted.change c.located.result c.with_limit-reader.ensures.bytes c.with_limit-reader.ensures.room c.answer_of.ensures.room c.in-Err.ensures.value n c.located.ensures

pub returns-in-Err-clause-again : goal.returns-in-Err-clause-again
returns-in-Err-clause-again g c = λ s rest is within e.
    subst (λ (r : Result (SentAnswer × List ℕ) Fault). Decodes (View c.args.bytes.now) (Err c.located.result) r) (again (measure g.W.Widths.width_of c.args.widths.now) c.args.limits c.args.bytes.now rest s is within e) (returns-in-Err-clause-exact g c)

pub returns-in-Ok-clause-limited : goal.returns-in-Ok-clause-limited
returns-in-Ok-clause-limited g c =
    let fits : IsBytes c.with_limit-reader.result.bytes.now = subst (λ (b : List ℕ). IsBytes b) c.rest-len.ensures.value c.rest-len.ensures.bytes in
    let n = lens_of c.rest-len.result.now c.with_limit-reader.result.bytes.now c.answer_of.new.reader.bytes.now c.saturating_sub.result c.saturating_sub.ensures c.rest-len.ensures.value in
    let t = taken (measure g.W.Widths.width_of c.args.widths.now) c.args.limits c.args.bytes.now c.with_limit-reader.result.bytes.now c.answer_of.new.reader.bytes.now c.with_limit-reader.result.room c.saturating_sub.result c.in-Ok.sent c.with_limit-reader.ensures.bytes c.with_limit-reader.ensures.room fits c.in-Ok.ensures.value n in
    ((answer_takes (measure g.W.Widths.width_of c.args.widths.now) c.with_limit-reader.result.room c.args.limits c.with_limit-reader.result.bytes.now (c.in-Ok.sent, c.answer_of.new.reader.bytes.now) fits c.in-Ok.ensures.value).few, t.limited)

pub returns-in-Ok-clause-bounded : goal.returns-in-Ok-clause-bounded
returns-in-Ok-clause-bounded g c =
    let found = returns-in-Ok-clause-found g c in
    bounded (measure g.W.Widths.width_of c.args.widths.now) c.in-Ok.sent c.args.bytes.now c.saturating_sub.result found.0 found.1

pub returns-in-Ok-clause-named : goal.returns-in-Ok-clause-named
returns-in-Ok-clause-named g c =
    let fits : IsBytes c.with_limit-reader.result.bytes.now = subst (λ (b : List ℕ). IsBytes b) c.rest-len.ensures.value c.rest-len.ensures.bytes in
    (answer_takes (measure g.W.Widths.width_of c.args.widths.now) c.with_limit-reader.result.room c.args.limits c.with_limit-reader.result.bytes.now (c.in-Ok.sent, c.answer_of.new.reader.bytes.now) fits c.in-Ok.ensures.value).named

pub returns-in-Ok-clause-borne : goal.returns-in-Ok-clause-borne
returns-in-Ok-clause-borne g c =
    let fits : IsBytes c.with_limit-reader.result.bytes.now = subst (λ (b : List ℕ). IsBytes b) c.rest-len.ensures.value c.rest-len.ensures.bytes in
    (answer_takes (measure g.W.Widths.width_of c.args.widths.now) c.with_limit-reader.result.room c.args.limits c.with_limit-reader.result.bytes.now (c.in-Ok.sent, c.answer_of.new.reader.bytes.now) fits c.in-Ok.ensures.value).borne
