use Rattle.std.proofs.Common.{◌≡◌, ℕ, ◌+◌, ◌-◌, ◌<◌, ◌≤◌, ◌^◌, List, ◌++◌, length, map, take, drop, None, Result, Ok, Err, refl, sym, ap, subst, ◌∙◌, arith, rules}
use Rattle.std.proofs.lemmas.List.{length-append, length-drop, length-map}
use Rattle.std.specs.Prelude.{Vec}
use Rattle.std.specs.declared.alloc.Global.{Global}
use Rattle.cbor.specs.Decoding.{IsBytes}
use Rattle.termwiz_cell.specs.ChangeValue.{ChangeValue, change_value}
use Rattle.termwiz_cell.specs.Measure.{measure}
use Rattle.termwiz_wire.specs.declared.fault.Fault.{Fault}
use Rattle.termwiz_wire.proofs.Within.{Took, took, stopped_at, within_again, lens_of}
use Rattle.termwiz_cell.specs.declared.change.Change.{Change}
use Rattle.termwiz_wire.specs.Answers.{Decodes, Halt, changes_at, changes_in, unlimited}
use Rattle.termwiz_wire.specs.Encoding.{changes}
use Rattle.termwiz_wire.specs.Forms.{AreChanges}
use Rattle.termwiz_wire.proofs.Bounded.{changes-some}
use Rattle.termwiz_wire.proofs.Each.{changes_again, changes_takes}
use Rattle.termwiz_wire.proofs.decode.changes.decode_changes.Goals as goal

abbrev reading : (List ℕ → ℕ) → ℕ → List ℕ → Result (List ChangeValue × List ℕ) Halt
reading columns room bytes = changes_in columns room None bytes

abbrev View : List ℕ → Vec Change Global × ℕ → List ChangeValue × List ℕ
View bytes x = (map change_value x.0.items, drop x.1 bytes)

taken : (columns : List ℕ → ℕ) (bytes hand rest : List ℕ) (room n : ℕ) (cs : List ChangeValue) → hand ≡ take unlimited bytes → room ≡ unlimited - length bytes → IsBytes hand → changes_in columns room None hand ≡ Ok (cs, rest) → n ≡ length hand - length rest → Took (reading columns) unlimited (changes columns cs) bytes n cs
taken columns bytes hand rest room n cs same left fits e is = took (reading columns) unlimited (changes columns cs) bytes hand rest room n cs same left (changes_takes columns room hand (cs, rest) fits e).parts e is

-- changes within the bytes of a slice
again : (columns : List ℕ → ℕ) (bytes rest : List ℕ) (cs : List ChangeValue) → length bytes < 2 ^ 64 → AreChanges columns cs → bytes ≡ changes columns cs ++ rest → changes_at columns bytes ≡ Ok (cs, rest)
unfolding changes_at
again columns bytes rest cs lt are e =
    let lens : length bytes ≡ length (changes columns cs) + length rest = ap length e ∙ length-append (changes columns cs) rest in
    within_again (reading columns) unlimited bytes (changes columns cs) rest cs (omega (arith, lens, lt)) e (λ room more. changes_again columns room cs more are)

few : (columns : List ℕ → ℕ) (cs : List ChangeValue) (bytes : List ℕ) (n : ℕ) (items : List Change) → bytes ≡ changes columns cs ++ drop n bytes → n ≤ length bytes → cs ≡ map change_value items → length items ≤ n
few columns cs bytes n items parts fits is =
    let some : length cs + length (drop n bytes) ≤ length bytes = changes-some columns cs bytes (drop n bytes) parts in
    let len : length cs ≡ length items = ap length is ∙ length-map items change_value in
    omega (arith, some, len, fits, length-drop n bytes)

pub returns-in-Ok-clause-found : goal.returns-in-Ok-clause-found
returns-in-Ok-clause-found g c =
    let fits : IsBytes c.with_limit-reader.result.bytes.now = subst (λ (b : List ℕ). IsBytes b) c.rest-len.ensures.value c.rest-len.ensures.bytes in
    let n = lens_of c.rest-len.result.now c.with_limit-reader.result.bytes.now c.changes_of.new.reader.bytes.now c.saturating_sub.result c.saturating_sub.ensures c.rest-len.ensures.value in
    let t = taken (measure g.W.Widths.width_of c.args.widths.now) c.args.bytes.now c.with_limit-reader.result.bytes.now c.changes_of.new.reader.bytes.now c.with_limit-reader.result.room c.saturating_sub.result (map change_value c.in-Ok.value.items) c.with_limit-reader.ensures.bytes c.with_limit-reader.ensures.room fits c.in-Ok.ensures.value n in
    (t.parts, t.fits)

pub returns-in-Ok-clause-exact : goal.returns-in-Ok-clause-exact
unfolding changes_at
returns-in-Ok-clause-exact g c =
    let fits : IsBytes c.with_limit-reader.result.bytes.now = subst (λ (b : List ℕ). IsBytes b) c.rest-len.ensures.value c.rest-len.ensures.bytes in
    let n = lens_of c.rest-len.result.now c.with_limit-reader.result.bytes.now c.changes_of.new.reader.bytes.now c.saturating_sub.result c.saturating_sub.ensures c.rest-len.ensures.value in
    (taken (measure g.W.Widths.width_of c.args.widths.now) c.args.bytes.now c.with_limit-reader.result.bytes.now c.changes_of.new.reader.bytes.now c.with_limit-reader.result.room c.saturating_sub.result (map change_value c.in-Ok.value.items) c.with_limit-reader.ensures.bytes c.with_limit-reader.ensures.room fits c.in-Ok.ensures.value n).exact

pub returns-in-Ok-clause-again : goal.returns-in-Ok-clause-again
returns-in-Ok-clause-again g c = λ cs rest are e.
    let lt : length c.args.bytes.now < 2 ^ 64 = search rules in
    sym (again (measure g.W.Widths.width_of c.args.widths.now) c.args.bytes.now rest cs lt are e) ∙ returns-in-Ok-clause-exact g c

pub returns-in-Err-clause-exact : goal.returns-in-Err-clause-exact
unfolding changes_at
returns-in-Err-clause-exact g c =
    let n = lens_of c.rest-len.result.now c.with_limit-reader.result.bytes.now c.changes_of.new.reader.bytes.now c.saturating_sub-in-Err.result c.saturating_sub-in-Err.ensures c.rest-len.ensures.value in
    stopped_at (View c.args.bytes.now) (reading (measure g.W.Widths.width_of c.args.widths.now)) unlimited c.args.bytes.now c.with_limit-reader.result.bytes.now c.changes_of.new.reader.bytes.now c.with_limit-reader.result.room c.changes_of.new.reader.room c.saturating_sub-in-Err.result c.in-Err.halted.error c.in-Err.halted.change c.located.result c.with_limit-reader.ensures.bytes c.with_limit-reader.ensures.room c.changes_of.ensures.room c.in-Err.ensures.value n c.located.ensures

pub returns-in-Err-clause-again : goal.returns-in-Err-clause-again
returns-in-Err-clause-again g c = λ cs rest are e.
    let lt : length c.args.bytes.now < 2 ^ 64 = search rules in
    subst (λ (r : Result (List ChangeValue × List ℕ) Fault). Decodes (View c.args.bytes.now) (Err c.located.result) r) (again (measure g.W.Widths.width_of c.args.widths.now) c.args.bytes.now rest cs lt are e) (returns-in-Err-clause-exact g c)

pub returns-in-Ok-clause-bounded : goal.returns-in-Ok-clause-bounded
returns-in-Ok-clause-bounded g c =
    let found = returns-in-Ok-clause-found g c in
    few (measure g.W.Widths.width_of c.args.widths.now) (map change_value c.in-Ok.value.items) c.args.bytes.now c.saturating_sub.result c.in-Ok.value.items found.0 found.1 refl
