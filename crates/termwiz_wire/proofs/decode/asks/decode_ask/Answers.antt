use Rattle.std.proofs.Common.{◌≡◌, ℕ, ◌+◌, ◌-◌, ◌<◌, ◌^◌, List, ◌++◌, length, take, drop, None, Result, Ok, Err, sym, ap, subst, ◌∙◌, arith, rules}
use Rattle.std.proofs.lemmas.List.{length-append}
use Rattle.cbor.specs.Decoding.{IsBytes}
use Rattle.termwiz_wire.specs.Answers.{Decodes, Halt, ask_at, ask_in, halted, unlimited}
use Rattle.termwiz_wire.specs.Sent.{IsAsk, ask}
use Rattle.termwiz_wire.specs.declared.fault.Fault.{Fault}
use Rattle.termwiz_wire.specs.declared.sent.Ask.{Ask}
use Rattle.termwiz_wire.proofs.AnswersAgain.{ask_again}
use Rattle.termwiz_wire.proofs.AnswersFound.{ask_takes}
use Rattle.termwiz_wire.proofs.Each.{halted_is, halted_stops}
use Rattle.termwiz_wire.proofs.Within.{Took, took, stopped_at, within_again, lens_of}
use Rattle.termwiz_wire.proofs.decode.asks.decode_ask.Goals as goal

abbrev reading : ℕ → List ℕ → Result (Ask × List ℕ) Halt
reading room bytes = halted None (ask_in room bytes)

abbrev View : List ℕ → Ask × ℕ → Ask × List ℕ
View bytes x = (x.0, drop x.1 bytes)

taken : (bytes hand rest : List ℕ) (room n : ℕ) (a : Ask) → hand ≡ take unlimited bytes → room ≡ unlimited - length bytes → IsBytes hand → ask_in room hand ≡ Ok (a, rest) → n ≡ length hand - length rest → Took reading unlimited (ask a) bytes n a
taken bytes hand rest room n a same left fits e is = took reading unlimited (ask a) bytes hand rest room n a same left (ask_takes room hand (a, rest) fits e).parts (halted_is None _ _ e) is

-- an ask within the bytes of a slice
again : (bytes rest : List ℕ) (a : Ask) → length bytes < 2 ^ 64 → IsAsk a → bytes ≡ ask a ++ rest → ask_at bytes ≡ Ok (a, rest)
unfolding ask_at
again bytes rest a lt is e =
    let lens : length bytes ≡ length (ask a) + length rest = ap length e ∙ length-append (ask a) rest in
    within_again reading unlimited bytes (ask a) rest a (omega (arith, lens, lt)) e (λ room more. halted_is None _ _ (ask_again room a more is))

pub returns-in-Ok-clause-found : goal.returns-in-Ok-clause-found
returns-in-Ok-clause-found c =
    let fits : IsBytes c.with_limit-reader.result.bytes.now = subst (λ (b : List ℕ). IsBytes b) c.rest-len.ensures.value c.rest-len.ensures.bytes in
    let n = lens_of c.rest-len.result.now c.with_limit-reader.result.bytes.now c.ask_of.new.reader.bytes.now c.saturating_sub.result c.saturating_sub.ensures c.rest-len.ensures.value in
    let t = taken c.args.bytes.now c.with_limit-reader.result.bytes.now c.ask_of.new.reader.bytes.now c.with_limit-reader.result.room c.saturating_sub.result c.in-Ok.ask c.with_limit-reader.ensures.bytes c.with_limit-reader.ensures.room fits c.in-Ok.ensures.value n in
    (t.parts, t.fits)

pub returns-in-Ok-clause-exact : goal.returns-in-Ok-clause-exact
unfolding ask_at
returns-in-Ok-clause-exact c =
    let fits : IsBytes c.with_limit-reader.result.bytes.now = subst (λ (b : List ℕ). IsBytes b) c.rest-len.ensures.value c.rest-len.ensures.bytes in
    let n = lens_of c.rest-len.result.now c.with_limit-reader.result.bytes.now c.ask_of.new.reader.bytes.now c.saturating_sub.result c.saturating_sub.ensures c.rest-len.ensures.value in
    (taken c.args.bytes.now c.with_limit-reader.result.bytes.now c.ask_of.new.reader.bytes.now c.with_limit-reader.result.room c.saturating_sub.result c.in-Ok.ask c.with_limit-reader.ensures.bytes c.with_limit-reader.ensures.room fits c.in-Ok.ensures.value n).exact

pub returns-in-Ok-clause-again : goal.returns-in-Ok-clause-again
returns-in-Ok-clause-again c = λ a rest is e.
    let lt : length c.args.bytes.now < 2 ^ 64 = search rules in
    sym (again c.args.bytes.now rest a lt is e) ∙ returns-in-Ok-clause-exact c

pub returns-in-Err-clause-exact : goal.returns-in-Err-clause-exact
unfolding ask_at
returns-in-Err-clause-exact c =
    let n = lens_of c.rest-len.result.now c.with_limit-reader.result.bytes.now c.ask_of.new.reader.bytes.now c.saturating_sub-in-Err.result c.saturating_sub-in-Err.ensures c.rest-len.ensures.value in
    stopped_at (View c.args.bytes.now) reading unlimited c.args.bytes.now c.with_limit-reader.result.bytes.now c.ask_of.new.reader.bytes.now c.with_limit-reader.result.room c.ask_of.new.reader.room c.saturating_sub-in-Err.result c.in-Err.error None c.located.result c.with_limit-reader.ensures.bytes c.with_limit-reader.ensures.room c.ask_of.ensures.room (halted_stops None _ c.in-Err.error _ c.in-Err.ensures.value) n c.located.ensures

pub returns-in-Err-clause-again : goal.returns-in-Err-clause-again
returns-in-Err-clause-again c = λ a rest is e.
    let lt : length c.args.bytes.now < 2 ^ 64 = search rules in
    subst (λ (r : Result (Ask × List ℕ) Fault). Decodes (View c.args.bytes.now) (Err c.located.result) r) (again c.args.bytes.now rest a lt is e) (returns-in-Err-clause-exact c)
