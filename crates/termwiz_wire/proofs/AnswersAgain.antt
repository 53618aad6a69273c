-- An answer or an ask that is encoded is decoded again, whatever follows it.
use Rattle.std.proofs.Common.{◌≡◌, ℕ, ◌^◌, ◌<◌, ◌≤◌, true, false, eqb, List, [], ◌++◌, length, Some, Ok, refl, ap, ◌∙◌, append_assoc, arith, inl, inr}
use Rattle.std.specs.List.{flat_map}
use Rattle.std.proofs.lemmas.Bool.{ne_eqb, eq-eqb, le-ltb, cases_lt}
use Rattle.cbor.specs.Encoding.{unsigned, array}
use Rattle.cbor.proofs.Items.{unsigned_again, below_again, array_again, list_again}
use Rattle.termwiz_wire.specs.Encoding.{change, changes}
use Rattle.termwiz_wire.specs.Answers.{version_at, body_at, opened_at, source_at, size_at, height_at, based_number_at, head_at, head_of, answer_in, asked_at, ask_in}
use Rattle.termwiz_wire.specs.Sent.{IsSent, IsAsk, answer, ask}
use Rattle.termwiz_wire.specs.Screens.{FitsLimits}
use Rattle.termwiz_wire.specs.Within.{IsBorne}
use Rattle.termwiz_wire.specs.declared.fault.Limits.{Limits}
use Rattle.termwiz_wire.specs.declared.sent.SentAnswer.{SentAnswer}
use Rattle.termwiz_wire.specs.declared.sent.Ask.{Ask}
use Rattle.termwiz_wire.proofs.Bounds.{not_past}
use Rattle.termwiz_wire.proofs.Each.{each_again, changes_fit}
use Rattle.termwiz_wire.proofs.Rows.{each_fits}

version_again : (room : ℕ) (rest : List ℕ) → version_at room (unsigned 2 ++ rest) ≡ Ok rest
unfolding version_at
version_again room rest = rw (unsigned_again room 2 rest (omega arith)) refl

body_again : (room items : ℕ) (start rest : List ℕ) → 0 < items → body_at room items start (unsigned 2 ++ rest) ≡ Ok rest
unfolding body_at
body_again room items start rest some =
    let not_none : eqb items 0 ≡ false = ne_eqb items 0 (λ e. omega arith) in
    rw (not_none, version_again room rest) refl

pub opened_again : (room items : ℕ) (rest : List ℕ) → 0 < items → items < 2 ^ 64 → opened_at room items (array items ++ (unsigned 2 ++ rest)) ≡ Ok rest
unfolding opened_at
opened_again room items rest some lt = rw (array_again room items (unsigned 2 ++ rest) lt, body_again room items (array items ++ (unsigned 2 ++ rest)) rest some, eq-eqb items items refl) refl

pub source_again : (room n : ℕ) (rest : List ℕ) → 0 < n → n < 2 ^ 64 → source_at room (unsigned n ++ rest) ≡ Ok (n, rest)
unfolding source_at
source_again room n rest some lt =
    let not_zero : eqb n 0 ≡ false = ne_eqb n 0 (λ e. omega arith) in
    rw (unsigned_again room n rest lt, not_zero) refl

pub size_again : (room n : ℕ) (rest : List ℕ) → 0 < n → n < 2 ^ 32 → size_at room (unsigned n ++ rest) ≡ Ok (n, rest)
unfolding size_at
size_again room n rest some fits =
    let not_zero : eqb n 0 ≡ false = ne_eqb n 0 (λ e. omega arith) in
    rw (below_again room (2 ^ 32) n rest (omega (arith, fits)) fits, not_zero) refl

height_again : (room : ℕ) (limits : Limits) (width n : ℕ) (rest : List ℕ) → 0 < n → n < 2 ^ 32 → FitsLimits limits width n → height_at room limits width (unsigned n ++ rest) ≡ Ok (n, rest)
unfolding height_at
height_again room limits width n rest some fits few = rw (size_again room n rest some fits, not_past limits width n few) refl

number_again : (room base n : ℕ) (rest : List ℕ) → base ≤ n → n < 2 ^ 64 → based_number_at room base (unsigned n ++ rest) ≡ Ok (n, rest)
unfolding based_number_at
number_again room base n rest le lt = rw (unsigned_again room n rest lt, le-ltb n base le) refl

pub head_again : (measure : List ℕ → ℕ) (room : ℕ) (limits : Limits) (s : SentAnswer) (rest : List ℕ) → IsSent measure s → FitsLimits limits s.answer.width s.answer.height → head_at room limits (answer measure s ++ rest) ≡ Ok (head_of s, flat_map (change measure) s.answer.changes ++ rest)
unfolding head_at answer changes
head_again measure room limits s rest is few =
    let e : List ℕ = flat_map (change measure) s.answer.changes ++ rest in
    let c : List ℕ = array (length s.answer.changes) ++ e in
    let n : List ℕ = unsigned s.answer.number ++ c in
    let b : List ℕ = unsigned s.answer.base ++ n in
    let h : List ℕ = unsigned s.answer.height ++ b in
    let w : List ℕ = unsigned s.answer.width ++ h in
    let body : List ℕ = unsigned s.source ++ w in
    let regrouped : answer measure s ++ rest ≡ array 7 ++ (unsigned 2 ++ body) = simp append_assoc in
    ap (head_at room limits) regrouped
    ∙ rw (opened_again room 7 body (omega arith) (omega arith), source_again room s.source w is.some_source is.source, size_again room s.answer.width h is.well_formed.some_column is.well_formed.fits, height_again room limits s.answer.width s.answer.height b is.well_formed.some_row is.well_formed.fits_height few, unsigned_again room s.answer.base n is.base, number_again room s.answer.base s.answer.number c is.well_formed.ordered is.number, list_again room (length s.answer.changes) e is.changes.count (changes_fit measure room s.answer.changes rest)) refl

pub answer_again : (measure : List ℕ → ℕ) (room : ℕ) (limits : Limits) (s : SentAnswer) (rest : List ℕ) → IsSent measure s → FitsLimits limits s.answer.width s.answer.height → IsBorne s → answer_in measure room limits (answer measure s ++ rest) ≡ Ok (s, rest)
unfolding answer_in
answer_again measure room limits s rest is few borne =
    rw (head_again measure room limits s rest is few, each_again measure room (Some (head_of s)) [] s.answer.changes rest is.changes.each (each_fits s.answer.height s.answer.changes is.well_formed.regions) borne) refl

asked_again : (room source n : ℕ) (rest : List ℕ) → (source ≡ 0 → n ≡ 0) → n < 2 ^ 64 → asked_at room source (unsigned n ++ rest) ≡ Ok (n, rest)
unfolding asked_at
asked_again room source n rest named lt =
    elim (cases_lt 0 source) [
      | inl some ↦
          let is : eqb source 0 ≡ false = ne_eqb source 0 (λ e. omega arith) in
          rw (unsigned_again room n rest lt, is) refl
      | inr none ↦
          let zero_source : source ≡ 0 = omega arith in
          let is : eqb n 0 ≡ true = eq-eqb n 0 (named zero_source) in
          let no : eqb source 0 ≡ true = eq-eqb source 0 zero_source in
          rw (unsigned_again room n rest lt, no, is) refl
    ]

pub ask_again : (room : ℕ) (a : Ask) (rest : List ℕ) → IsAsk a → ask_in room (ask a ++ rest) ≡ Ok (a, rest)
unfolding ask_in ask
ask_again room a rest is =
    let n : List ℕ = unsigned a.number ++ rest in
    let body : List ℕ = unsigned a.source ++ n in
    let regrouped : ask a ++ rest ≡ array 3 ++ (unsigned 2 ++ body) = simp append_assoc in
    ap (ask_in room) regrouped
    ∙ rw (opened_again room 3 body (omega arith) (omega arith), unsigned_again room a.source n is.source, asked_again room a.source a.number rest is.named is.number) refl
