use Rattle.std.proofs.Common.{◌≡◌, ℕ, ◌+◌, ◌-◌, ◌<◌, ◌^◌, List, ◌++◌, length, take, drop, None, Result, Ok, Err, sym, ap, subst, ◌∙◌, arith, rules}
use Rattle.std.proofs.lemmas.List.{length-append}
use Rattle.cbor.specs.Decoding.{IsBytes}
use Rattle.termwiz_cell.specs.ChangeValue.{ChangeValue, change_value}
use Rattle.termwiz_cell.specs.Measure.{measure}
use Rattle.termwiz_wire.specs.declared.fault.Fault.{Fault}
use Rattle.termwiz_wire.proofs.Within.{Took, took, stopped_at, within_again, lens_of}
use Rattle.termwiz_cell.specs.declared.change.Change.{Change}
use Rattle.termwiz_wire.specs.Answers.{Decodes, Halt, halted, one_change_at, unlimited}
use Rattle.termwiz_wire.specs.Decoding.{change_at}
use Rattle.termwiz_wire.specs.Encoding.{change}
use Rattle.termwiz_wire.specs.Forms.{IsChange}
use Rattle.termwiz_wire.proofs.Again.{change_again}
use Rattle.termwiz_wire.proofs.Each.{halted_is, halted_ok}
use Rattle.termwiz_wire.proofs.Found.{change_takes}
use Rattle.termwiz_wire.proofs.Rows.{fits_any}
use Rattle.termwiz_wire.proofs.decode.changes.decode_change.Goals as goal

abbrev reading : (List ℕ → ℕ) → ℕ → List ℕ → Result (ChangeValue × List ℕ) Halt
reading columns room bytes = halted None (change_at columns room None bytes)

abbrev View : List ℕ → Change × ℕ → ChangeValue × List ℕ
View bytes x = (change_value x.0, drop x.1 bytes)

taken : (columns : List ℕ → ℕ) (bytes hand rest : List ℕ) (room n : ℕ) (k : ChangeValue) → hand ≡ take unlimited bytes → room ≡ unlimited - length bytes → IsBytes hand → reading columns room hand ≡ Ok (k, rest) → n ≡ length hand - length rest → Took (reading columns) unlimited (change columns k) bytes n k
taken columns bytes hand rest room n k same left fits e is =
    let read = halted_ok None (change_at columns room None hand) (k, rest) e in
    took (reading columns) unlimited (change columns k) bytes hand rest room n k same left (change_takes columns room None hand (k, rest) fits read).0.parts e is

-- a change within the bytes of a slice
again : (columns : List ℕ → ℕ) (bytes rest : List ℕ) (k : ChangeValue) → length bytes < 2 ^ 64 → IsChange columns k → bytes ≡ change columns k ++ rest → one_change_at columns bytes ≡ Ok (k, rest)
unfolding one_change_at
again columns bytes rest k lt is e =
    let lens : length bytes ≡ length (change columns k) + length rest = ap length e ∙ length-append (change columns k) rest in
    within_again (reading columns) unlimited bytes (change columns k) rest k (omega (arith, lens, lt)) e (λ room more. halted_is None _ _ (change_again columns room None k more is (fits_any k)))

pub returns-in-Ok-clause-found : goal.returns-in-Ok-clause-found
returns-in-Ok-clause-found g c =
    let fits : IsBytes c.with_limit-reader.result.bytes.now = subst (λ (b : List ℕ). IsBytes b) c.rest-len.ensures.value c.rest-len.ensures.bytes in
    let n = lens_of c.rest-len.result.now c.with_limit-reader.result.bytes.now c.one_change_of.new.reader.bytes.now c.saturating_sub.result c.saturating_sub.ensures c.rest-len.ensures.value in
    let t = taken (measure g.W.Widths.width_of c.args.widths.now) c.args.bytes.now c.with_limit-reader.result.bytes.now c.one_change_of.new.reader.bytes.now c.with_limit-reader.result.room c.saturating_sub.result (change_value c.in-Ok.value) c.with_limit-reader.ensures.bytes c.with_limit-reader.ensures.room fits c.in-Ok.ensures.value n in
    (t.parts, t.fits)

pub returns-in-Ok-clause-exact : goal.returns-in-Ok-clause-exact
unfolding one_change_at
returns-in-Ok-clause-exact g c =
    let fits : IsBytes c.with_limit-reader.result.bytes.now = subst (λ (b : List ℕ). IsBytes b) c.rest-len.ensures.value c.rest-len.ensures.bytes in
    let n = lens_of c.rest-len.result.now c.with_limit-reader.result.bytes.now c.one_change_of.new.reader.bytes.now c.saturating_sub.result c.saturating_sub.ensures c.rest-len.ensures.value in
    (taken (measure g.W.Widths.width_of c.args.widths.now) c.args.bytes.now c.with_limit-reader.result.bytes.now c.one_change_of.new.reader.bytes.now c.with_limit-reader.result.room c.saturating_sub.result (change_value c.in-Ok.value) c.with_limit-reader.ensures.bytes c.with_limit-reader.ensures.room fits c.in-Ok.ensures.value n).exact

pub returns-in-Ok-clause-again : goal.returns-in-Ok-clause-again
returns-in-Ok-clause-again g c = λ k rest is e.
    let lt : length c.args.bytes.now < 2 ^ 64 = search rules in
    sym (again (measure g.W.Widths.width_of c.args.widths.now) c.args.bytes.now rest k lt is e) ∙ returns-in-Ok-clause-exact g c

pub returns-in-Err-clause-exact : goal.returns-in-Err-clause-exact
unfolding one_change_at
returns-in-Err-clause-exact g c =
    let n = lens_of c.rest-len.result.now c.with_limit-reader.result.bytes.now c.one_change_of.new.reader.bytes.now c.saturating_sub-in-Err.result c.saturating_sub-in-Err.ensures c.rest-len.ensures.value in
    stopped_at (View c.args.bytes.now) (reading (measure g.W.Widths.width_of c.args.widths.now)) unlimited c.args.bytes.now c.with_limit-reader.result.bytes.now c.one_change_of.new.reader.bytes.now c.with_limit-reader.result.room c.one_change_of.new.reader.room c.saturating_sub-in-Err.result c.in-Err.halted.error c.in-Err.halted.change c.located.result c.with_limit-reader.ensures.bytes c.with_limit-reader.ensures.room c.one_change_of.ensures.room c.in-Err.ensures.value n c.located.ensures

pub returns-in-Err-clause-again : goal.returns-in-Err-clause-again
returns-in-Err-clause-again g c = λ k rest is e.
    let lt : length c.args.bytes.now < 2 ^ 64 = search rules in
    subst (λ (r : Result (ChangeValue × List ℕ) Fault). Decodes (View c.args.bytes.now) (Err c.located.result) r) (again (measure g.W.Widths.width_of c.args.widths.now) c.args.bytes.now rest k lt is e) (returns-in-Err-clause-exact g c)
