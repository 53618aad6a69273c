-- An answer that is past the limits has the fault of them.
use Rattle.std.proofs.Common.{◌≡◌, ◌⊎◌, ℕ, ◌+◌, ◌-◌, ◌^◌, ◌<◌, true, List, [], ◌++◌, length, take, drop, Some, Result, Ok, Err, refl, sym, ap, subst, ◌∙◌, append_assoc, append-nil, arith, inl, inr}
use Rattle.std.proofs.Math.Seq.{take-append-add}
use Rattle.std.specs.List.{flat_map}
use Rattle.std.proofs.lemmas.Bool.{cases_lt}
use Rattle.std.proofs.lemmas.List.{length-append, length-drop, take-append-drop, take-append-le}
use Rattle.cbor.specs.declared.error.FaultKind.TheVariants.{Truncated, Limit}
use Rattle.cbor.specs.Encoding.{unsigned, array}
use Rattle.cbor.specs.Prefixes.{left, fault, StaysDecoded, Decides, FailsBy}
use Rattle.cbor.specs.Decoding.{◌>>=◌, ok}
use Rattle.cbor.proofs.Widening.{Wider}
use Rattle.termwiz_cell.specs.ChangeValue.{ChangeValue}
use Rattle.termwiz_wire.specs.Answers.{Halt, height_at, head_at, head_of, each_at, sent_of, answer_in, located, within, answer_at}
use Rattle.termwiz_wire.specs.Encoding.{change, changes}
use Rattle.termwiz_wire.specs.MoreBytes.{halt, kind, Laws}
use Rattle.termwiz_wire.specs.Sent.{IsSent, answer}
use Rattle.termwiz_wire.specs.Screens.{FitsLimits, is_past}
use Rattle.termwiz_wire.specs.Within.{IsBeyond, answer_work}
use Rattle.termwiz_wire.specs.Work.{most_work}
use Rattle.termwiz_wire.specs.declared.decode.heads.Head.{Head}
use Rattle.termwiz_wire.specs.declared.fault.Fault.{Fault}
use Rattle.termwiz_wire.specs.declared.fault.Limits.{Limits}
use Rattle.termwiz_wire.specs.declared.sent.SentAnswer.{SentAnswer}
use Rattle.termwiz_wire.proofs.AnswersAgain.{opened_again, source_again, size_again, head_again, answer_again}
use Rattle.termwiz_wire.proofs.Bounds.{bears_none, past_or_fits}
use Rattle.termwiz_wire.proofs.Each.{each_past}
use Rattle.termwiz_wire.proofs.MoreBytes.{answers_go, answers_again}
use Rattle.termwiz_wire.proofs.Prefixes.{answer_reads}
use Rattle.termwiz_wire.proofs.Rows.{each_fits}
use Rattle.termwiz_wire.proofs.Widening.{answer_widens}

-- ---- a larger screen

height_past : (room : ℕ) (limits : Limits) (width n : ℕ) (rest : List ℕ) → 0 < n → n < 2 ^ 32 → is_past limits width n ≡ true → FailsBy fault Limit (height_at room limits width (unsigned n ++ rest))
unfolding height_at
height_past room limits width n rest some fits past = rw (size_again room n rest some fits, past) refl

-- nothing but the height's fault follows the width
screen_past : (measure : List ℕ → ℕ) (room : ℕ) (limits : Limits) (s : SentAnswer) (rest : List ℕ) → IsSent measure s → is_past limits s.answer.width s.answer.height ≡ true → FailsBy halt Limit (answer_in measure room limits (answer measure s ++ rest))
unfolding answer_in head_at height_at answer
screen_past measure room limits s rest is past =
    let b : List ℕ = unsigned s.answer.base ++ (unsigned s.answer.number ++ (changes measure s.answer.changes ++ rest)) in
    let h : List ℕ = unsigned s.answer.height ++ b in
    let w : List ℕ = unsigned s.answer.width ++ h in
    let body : List ℕ = unsigned s.source ++ w in
    let regrouped : answer measure s ++ rest ≡ array 7 ++ (unsigned 2 ++ body) = simp append_assoc in
    let same : array 7 ++ (unsigned 2 ++ body) ≡ answer measure s ++ rest = sym regrouped in
    subst (λ (bytes : List ℕ). FailsBy halt Limit (answer_in measure room limits bytes)) same
    (rw (opened_again room 7 body (omega arith) (omega arith), source_again room s.source w is.some_source is.source, size_again room s.answer.width h is.well_formed.some_column is.well_formed.fits, size_again room s.answer.height b is.well_formed.some_row is.well_formed.fits_height, past) refl)

-- ---- more work

changes_past : (count room : ℕ) (head : Head) (measure : List ℕ → ℕ) (bytes : List ℕ) → FailsBy halt Limit (each_at measure room (Some head) [] count bytes) → FailsBy halt Limit (each_at measure room (Some head) [] count bytes >>= λ changes. ok (sent_of head changes.0) changes.1)
changes_past count room head measure bytes fails = go (each_at measure room (Some head) [] count bytes) fails
  where
    go : (r : Result (List ChangeValue × List ℕ) Halt) → FailsBy halt Limit r → FailsBy halt Limit (r >>= λ changes. ok (sent_of head changes.0) changes.1)
    go (Ok x) f = f
    go (Err h) f = f

work_past : (measure : List ℕ → ℕ) (room : ℕ) (limits : Limits) (s : SentAnswer) (rest : List ℕ) → IsSent measure s → FitsLimits limits s.answer.width s.answer.height → most_work s.answer.width s.answer.height < answer_work s → FailsBy halt Limit (answer_in measure room limits (answer measure s ++ rest))
unfolding answer_in
work_past measure room limits s rest is fits hard =
    rw (head_again measure room limits s rest is fits)
    (changes_past (length s.answer.changes) room (head_of s) measure (flat_map (change measure) s.answer.changes ++ rest)
    (each_past measure room (Some (head_of s)) [] s.answer.changes rest is.changes.each (each_fits s.answer.height s.answer.changes is.well_formed.regions) (bears_none (Some (head_of s))) hard))

-- an answer is decoded, or is past the limits
verdict : (measure : List ℕ → ℕ) (room : ℕ) (limits : Limits) (s : SentAnswer) (rest : List ℕ) → IsSent measure s → FailsBy halt Limit (answer_in measure room limits (answer measure s ++ rest)) ⊎ (answer_in measure room limits (answer measure s ++ rest) ≡ Ok (s, rest))
verdict measure room limits s rest is = elim (past_or_fits limits s.answer.width s.answer.height) [
  | inl wide ↦ inl (screen_past measure room limits s rest is wide)
  | inr fits ↦ elim (cases_lt (most_work s.answer.width s.answer.height) (answer_work s)) [
    | inl hard ↦ inl (work_past measure room limits s rest is fits hard)
    | inr borne ↦ inr (answer_again measure room limits s rest is fits borne)
  ]
]

-- ---- more bytes

-- what further bytes don't make a value of, or a fault but for `Limit`
record IsPast {A : Type 0} (more : List ℕ) (later : Result (A × List ℕ) Halt) : Type 0 where
  no_value : (y : A × List ℕ) → later ≡ Ok (left y more) → ⊥
  limit : (e : Halt) → later ≡ Err e → halt e ≡ Limit

same_fault : {A : Type 0} (more : List ℕ) (e : Halt) (wide later : Result (A × List ℕ) Halt) → (halt e ≡ Truncated → ⊥) → FailsBy halt (halt e) wide → StaysDecoded halt left more wide later → IsPast more later → halt e ≡ Limit
same_fault more e (Ok y) later settled fails stay past = absurd fails
same_fault more e (Err f) later settled fails (inl want) past = absurd (settled (sym fails ∙ want))
same_fault more e (Err f) later settled fails (inr stay) past = sym fails ∙ past.limit f stay

past_by : {A : Type 0} (more : List ℕ) (r wide later : Result (A × List ℕ) Halt) → Decides halt r → Wider halt r wide → StaysDecoded halt left more wide later → IsPast more later → FailsBy halt Limit r
past_by {A = A} more (Ok y) wide later settled wider stay past = past.no_value y (subst (λ (w : Result (A × List ℕ) Halt). StaysDecoded halt left more w later) wider stay)
past_by more (Err e) wide later settled (inl limit) stay past = limit
past_by more (Err e) wide later settled (inr fails) stay past = same_fault more e wide later settled fails stay past

front_past : (measure : List ℕ → ℕ) (limits : Limits) (front more : List ℕ) → IsPast more (answer_in measure 0 limits (front ++ more)) → FailsBy halt Limit (answer_in measure 0 limits front)
front_past measure limits front more past =
    past_by more (answer_in measure 0 limits front) (answer_in measure (length more + 0) limits front) (answer_in measure 0 limits (front ++ more)) ((answer_reads measure limits).ends front) ((answer_widens measure limits front).wider 0 (length more + 0) (omega arith)) ((answer_reads measure limits).stays 0 front more) past

abbrev given : {A : Type 0} → A × List ℕ → Result (A × List ℕ) Halt
given y = Ok y

value_past : {A : Type 0} (more : List ℕ) (later : Result (A × List ℕ) Halt) (x : A) → 0 < length more → later ≡ Ok (x, []) → IsPast more later
value_past {A = A} more later x some is = record {
  no_value = λ y same.
      let pair_is : given (y.0, y.1 ++ more) ≡ given (x, []) = sym same ∙ is in
      let pair : ◌≡◌ {A = A × List ℕ} (y.0, y.1 ++ more) (x, []) = cc in
      let none : y.1 ++ more ≡ [] = ap (λ (z : A × List ℕ). z.1) pair in
      omega (arith, ap length none, length-append y.1 more, some);
  limit = λ e same.
      absurd (let bad : ◌≡◌ {A = Result (A × List ℕ) Halt} (Err e) (Ok (x, [])) = sym same ∙ is in cc);
}

fault_past : {A : Type 0} (more : List ℕ) (later : Result (A × List ℕ) Halt) → FailsBy halt Limit later → IsPast more later
fault_past {A = A} more later fails = record {
  no_value = λ y same. subst (λ (r : Result (A × List ℕ) Halt). FailsBy halt Limit r) same fails;
  limit = λ e same. subst (λ (r : Result (A × List ℕ) Halt). FailsBy halt Limit r) same fails;
}

-- an answer of more bytes than the limit, and what is at hand of it
bytes_past : (measure : List ℕ → ℕ) (limits : Limits) (limit : ℕ) (a : SentAnswer) → IsSent measure a → limit < length (answer measure a) → FailsBy halt Limit (answer_in measure 0 limits (take limit (answer measure a)))
bytes_past measure limits limit a is long =
    let whole : List ℕ = answer measure a in
    let front : List ℕ = take limit whole in
    let more : List ℕ = drop limit whole in
    let parts : front ++ more ≡ whole = take-append-drop limit whole in
    let some : 0 < length more = omega (arith, length-drop limit whole, long) in
    let to_nil : whole ≡ whole ++ [] = sym (append-nil whole) in
    front_past measure limits front more
    (elim (verdict measure 0 limits a [] is) [
      | inl past ↦ fault_past more (answer_in measure 0 limits (front ++ more)) (subst (λ (bytes : List ℕ). FailsBy halt Limit (answer_in measure 0 limits bytes)) (sym (parts ∙ to_nil)) past)
      | inr is_so ↦ value_past more (answer_in measure 0 limits (front ++ more)) a some (ap (answer_in measure 0 limits) (parts ∙ to_nil) ∙ is_so)
    ])

-- ---- past the limits

located_past : {A : Type 0} (all : ℕ) (past : List ℕ) (r : Result (A × List ℕ) Halt) → FailsBy halt Limit r → FailsBy kind Limit (located all past r)
located_past all past (Ok x) fails = fails
located_past all past (Err h) fails = fails

hand_past : (measure : List ℕ → ℕ) (limits : Limits) (a : SentAnswer) (rest : List ℕ) → IsSent measure a → IsBeyond measure limits a → FailsBy halt Limit (answer_in measure (limits.bytes - length (answer measure a ++ rest)) limits (take limits.bytes (answer measure a ++ rest)))
hand_past measure limits a rest is past =
    let whole : List ℕ = answer measure a in
    let room : ℕ = limits.bytes - length (whole ++ rest) in
    elim (cases_lt limits.bytes (length whole)) [
      | inl long ↦
          let none : room ≡ 0 = omega (arith, length-append whole rest, long) in
          rw (take-append-le limits.bytes whole rest (omega (arith, long)), none) (bytes_past measure limits limits.bytes a is long)
      | inr short ↦
          let k : ℕ = limits.bytes - length whole in
          let e : limits.bytes ≡ length whole + k = omega (arith, short) in
          let hand : take limits.bytes (whole ++ rest) ≡ whole ++ take k rest = ap (λ (n : ℕ). take n (whole ++ rest)) e ∙ take-append-add whole rest k in
          elim past [
            | inl wide ↦ rw hand (screen_past measure room limits a (take k rest) is wide)
            | inr (inl long) ↦ absurd (omega (arith, short, long))
            | inr (inr hard) ↦ rw hand (elim (past_or_fits limits a.answer.width a.answer.height) [
              | inl wide ↦ screen_past measure room limits a (take k rest) is wide
              | inr fits ↦ work_past measure room limits a (take k rest) is fits hard
            ])
          ]
    ]

fault_is : {A : Type 0} (r : Result (A × List ℕ) Fault) → FailsBy kind Limit r → (f : Fault) × (r ≡ Err f) × (f.kind ≡ Limit)
fault_is (Ok x) fails = absurd fails
fault_is (Err f) fails = (f, refl, fails)

answers_limited : (measure : List ℕ → ℕ) (limits : Limits) (a : SentAnswer) (rest : List ℕ) → IsSent measure a → IsBeyond measure limits a → (f : Fault) × (answer_at measure limits (answer measure a ++ rest) ≡ Err f) × (f.kind ≡ Limit)
unfolding answer_at
answers_limited measure limits a rest is past =
    let bytes : List ℕ = answer measure a ++ rest in
    let room : ℕ = limits.bytes - length bytes in
    fault_is (within (λ n hand. answer_in measure n limits hand) limits.bytes bytes) (located_past (length (take limits.bytes bytes) + room) (drop limits.bytes bytes) (answer_in measure room limits (take limits.bytes bytes)) (hand_past measure limits a rest is past))

pub laws : (measure : List ℕ → ℕ) (limits : Limits) → 0 < limits.bytes → Laws measure limits
laws measure limits some = record {
  goes = answers_go measure limits some;
  limited = answers_limited measure limits;
  again = answers_again measure limits;
}
