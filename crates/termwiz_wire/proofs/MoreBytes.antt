-- What bytes of answers decide within the limits, when more may follow them.
use Rattle.std.proofs.Common.{◌≡◌, ℕ, ◌+◌, ◌-◌, ◌<◌, ◌≤◌, List, [], ◌++◌, length, take, drop, None, Result, Ok, Err, refl, sym, ap, subst, ◌∙◌, append_assoc, append-nil, arith, inl, inr}
use Rattle.std.proofs.Math.Seq.{take-append-add, drop-append-add}
use Rattle.std.proofs.lemmas.Bool.{cases_lt, le-ltb}
use Rattle.std.proofs.lemmas.List.{length-append, length-drop, length-take-le, take-append-drop, take-append-le, drop-append-le, take_all, drop_all}
use Rattle.cbor.specs.declared.error.FaultKind.TheVariants.{Truncated}
use Rattle.cbor.specs.Decoding.{ok, allowed, array_at, head_in}
use Rattle.cbor.specs.Prefixes.{left, StaysDecoded, DecodesPrefixes, FailsBy, BeginningsOf}
use Rattle.cbor.proofs.Prefixes.{beginnings}
use Rattle.termwiz_wire.specs.Answers.{Halt, opened_at, head_at, answer_in, ask_in, changes_in, fault_at, halted, located, within, answer_at, ask_at, changes_at, one_change_at, unlimited}
use Rattle.termwiz_wire.specs.Decoding.{change_at}
use Rattle.termwiz_wire.specs.MoreBytes.{halt, kind, IsTruncated, Goes}
use Rattle.termwiz_wire.specs.Sent.{IsSent, answer}
use Rattle.termwiz_wire.specs.Within.{IsWithinLimits}
use Rattle.termwiz_wire.specs.declared.fault.Fault.{Fault}
use Rattle.termwiz_wire.specs.declared.fault.Limits.{Limits}
use Rattle.termwiz_wire.specs.declared.sent.SentAnswer.{SentAnswer}
use Rattle.termwiz_wire.proofs.AnswersAgain.{answer_again}
use Rattle.termwiz_wire.proofs.Prefixes.{answer_reads, ask_reads, change_reads, changes_reads, halted_reads}

-- ---- bytes that are cut at a limit

-- bytes and those after them, both cut at the limit
record AreParts (limit : ℕ) (bytes more hand past near beyond : List ℕ) (room : ℕ) : Type 0 where
  hand_is : take limit bytes ≡ hand
  past_is : drop limit bytes ≡ past
  hand_later : take limit (bytes ++ more) ≡ hand ++ near
  past_later : drop limit (bytes ++ more) ≡ beyond
  room_is : limit - length bytes ≡ length near + room
  room_later : limit - length (bytes ++ more) ≡ room
  seam : near ++ beyond ≡ past ++ more

parts_past : (limit : ℕ) (bytes more : List ℕ) → limit < length bytes → AreParts limit bytes more (take limit bytes) (drop limit bytes) [] (drop limit bytes ++ more) 0
parts_past limit bytes more lt = record {
  hand_is = refl;
  past_is = refl;
  hand_later = take-append-le limit bytes more (omega (arith, lt)) ∙ sym (append-nil (take limit bytes));
  past_later = drop-append-le limit bytes more (omega (arith, lt));
  room_is = omega (arith, lt);
  room_later = omega (arith, lt, length-append bytes more);
  seam = refl;
}

parts_within : (limit : ℕ) (bytes more : List ℕ) → length bytes ≤ limit → AreParts limit bytes more bytes [] (take (limit - length bytes) more) (drop (limit - length bytes) more) (limit - length (bytes ++ more))
parts_within limit bytes more le =
    let k : ℕ = limit - length bytes in
    let e : limit ≡ length bytes + k = omega (arith, le) in
    let seam : take k more ++ drop k more ≡ more = take-append-drop k more in
    let lens : length (take k more) + length (drop k more) ≡ length more = sym (length-append (take k more) (drop k more)) ∙ ap length seam in
    record {
      hand_is = take_all limit bytes le;
      past_is = drop_all limit bytes le;
      hand_later = ap (λ (n : ℕ). take n (bytes ++ more)) e ∙ take-append-add bytes more k;
      past_later = ap (λ (n : ℕ). drop n (bytes ++ more)) e ∙ drop-append-add bytes more k;
      room_is = omega (arith, le, lens, length-drop k more, length-append bytes more);
      room_later = refl;
      seam = seam;
    }

-- ---- what they decide

abbrev failed : {Z E : Type 0} → E → Result Z E
failed e = Err e

located_stays : {A : Type 0} (a b : ℕ) (past beyond near more : List ℕ) (r later : Result (A × List ℕ) Halt) → a ≡ b → near ++ beyond ≡ past ++ more → StaysDecoded halt left near r later → StaysDecoded kind left more (located a past r) (located b beyond later)
located_stays a b past beyond near more (Ok x) later same seam stay =
    ap (located b beyond) stay ∙ ap (λ (t : List ℕ). ok {E = Fault} x.0 t) (append_assoc x.1 near beyond ∙ ap (λ (t : List ℕ). x.1 ++ t) seam ∙ sym (append_assoc x.1 past more))
located_stays a b past beyond near more (Err h) later same seam (inl want) = inl want
located_stays {A = A} a b past beyond near more (Err h) later same seam (inr stay) =
    inr (ap (located b beyond) stay ∙ ap (λ (n : ℕ). failed {Z = A × List ℕ} (fault_at n h)) (sym same))

parts_stay : {A : Type 0} (read : ℕ → List ℕ → Result (A × List ℕ) Halt) (limit : ℕ) (bytes more hand past near beyond : List ℕ) (room : ℕ) → DecodesPrefixes halt left read → AreParts limit bytes more hand past near beyond room → StaysDecoded kind left more (within read limit bytes) (within read limit (bytes ++ more))
parts_stay read limit bytes more hand past near beyond room reads are =
    let same : allowed (length near + room) hand ≡ allowed room (hand ++ near) = omega (arith, length-append hand near) in
    rw (are.hand_is, are.past_is, are.hand_later, are.past_later, are.room_is, are.room_later)
    (located_stays (allowed (length near + room) hand) (allowed room (hand ++ near)) past beyond near more (read (length near + room) hand) (read room (hand ++ near)) same are.seam (reads.stays room hand near))

-- a value or a fault but for `Truncated` stays as it is
pub within_stays : {A : Type 0} (read : ℕ → List ℕ → Result (A × List ℕ) Halt) (limit : ℕ) (bytes more : List ℕ) → DecodesPrefixes halt left read → StaysDecoded kind left more (within read limit bytes) (within read limit (bytes ++ more))
within_stays read limit bytes more reads =
    elim (cases_lt limit (length bytes)) [
      | inl lt ↦ parts_stay read limit bytes more _ _ _ _ _ reads (parts_past limit bytes more lt)
      | inr le ↦ parts_stay read limit bytes more _ _ _ _ _ reads (parts_within limit bytes more le)
    ]

-- ---- answers

pub answer_stays : (measure : List ℕ → ℕ) (limits : Limits) (bytes more : List ℕ) → StaysDecoded kind left more (answer_at measure limits bytes) (answer_at measure limits (bytes ++ more))
unfolding answer_at
answer_stays measure limits bytes more = within_stays (λ room rest. answer_in measure room limits rest) limits.bytes bytes more (answer_reads measure limits)

pub ask_stays : (bytes more : List ℕ) → StaysDecoded kind left more (ask_at bytes) (ask_at (bytes ++ more))
unfolding ask_at
ask_stays bytes more = within_stays (λ room rest. halted None (ask_in room rest)) unlimited bytes more (halted_reads None ask_reads)

pub changes_stay : (measure : List ℕ → ℕ) (bytes more : List ℕ) → StaysDecoded kind left more (changes_at measure bytes) (changes_at measure (bytes ++ more))
unfolding changes_at
changes_stay measure bytes more = within_stays (λ room rest. changes_in measure room None rest) unlimited bytes more (changes_reads measure None)

pub change_stays : (measure : List ℕ → ℕ) (bytes more : List ℕ) → StaysDecoded kind left more (one_change_at measure bytes) (one_change_at measure (bytes ++ more))
unfolding one_change_at
change_stays measure bytes more = within_stays (λ room rest. halted None (change_at measure room None rest)) unlimited bytes more (halted_reads None (change_reads measure None))

none_in : (measure : List ℕ → ℕ) (room : ℕ) (limits : Limits) → 0 < room → answer_in measure room limits [] ≡ Err (record { stop = record { fault = Truncated; left = allowed room [] }; change = None })
unfolding answer_in head_at opened_at array_at head_in
none_in measure room limits some = rw (le-ltb (allowed room []) 1 (omega (arith, some))) refl

abbrev first_fault : Fault
first_fault = record { kind = Truncated; at = 0; change = None }

none_at : (measure : List ℕ → ℕ) (limits : Limits) → 0 < limits.bytes → answer_at measure limits [] ≡ Err first_fault
unfolding answer_at
none_at measure limits some =
    let room : ℕ = limits.bytes - length {A = ℕ} [] in
    let at : allowed room [] - allowed room [] ≡ 0 = omega arith in
    let no_hand : take {A = ℕ} limits.bytes [] ≡ [] = take_all {A = ℕ} limits.bytes [] (omega arith) in
    let no_past : drop {A = ℕ} limits.bytes [] ≡ [] = drop_all {X = ℕ} limits.bytes [] (omega arith) in
    rw (no_hand, no_past)
    (ap (located (allowed room []) []) (none_in measure room limits (omega (arith, some)))
    ∙ ap (λ (n : ℕ). failed {Z = SentAnswer × List ℕ} (record { kind = Truncated; at = n; change = None })) at)

value_stays : (measure : List ℕ → ℕ) (limits : Limits) (bytes more : List ℕ) (x : SentAnswer) (rest : List ℕ) → answer_at measure limits bytes ≡ Ok (x, rest) → answer_at measure limits (bytes ++ more) ≡ Ok (x, rest ++ more)
value_stays measure limits bytes more x rest is = subst (λ (r : Result (SentAnswer × List ℕ) Fault). StaysDecoded kind left more r (answer_at measure limits (bytes ++ more))) is (answer_stays measure limits bytes more)

fault_stays : (measure : List ℕ → ℕ) (limits : Limits) (bytes more : List ℕ) (e : Fault) → answer_at measure limits bytes ≡ Err e → (IsTruncated e → ⊥) → answer_at measure limits (bytes ++ more) ≡ Err e
fault_stays measure limits bytes more e is other =
    elim (subst (λ (r : Result (SentAnswer × List ℕ) Fault). StaysDecoded kind left more r (answer_at measure limits (bytes ++ more))) is (answer_stays measure limits bytes more)) [
      | inl want ↦ absurd (other want)
      | inr same ↦ same
    ]

pub answers_go : (measure : List ℕ → ℕ) (limits : Limits) → 0 < limits.bytes → Goes (answer_at measure limits) IsTruncated
answers_go measure limits some = record {
  first = first_fault;
  starts = none_at measure limits some;
  starts_cut = refl;
  value = value_stays measure limits;
  fault = fault_stays measure limits;
}

alone : (measure : List ℕ → ℕ) (limits : Limits) (a : SentAnswer) → IsSent measure a → IsWithinLimits measure limits a → answer_at measure limits (answer measure a) ≡ Ok (a, [])
unfolding answer_at
alone measure limits a is within =
    let room : ℕ = limits.bytes - length (answer measure a) in
    let whole : answer_in measure room limits (answer measure a) ≡ Ok (a, []) = ap (answer_in measure room limits) (sym (append-nil (answer measure a))) ∙ answer_again measure room limits a [] is within.screen within.borne in
    rw (take_all limits.bytes (answer measure a) within.bytes, drop_all limits.bytes (answer measure a) within.bytes)
    (ap (located (allowed room (answer measure a)) []) whole)

pub answers_again : (measure : List ℕ → ℕ) (limits : Limits) (a : SentAnswer) (rest : List ℕ) → IsSent measure a → IsWithinLimits measure limits a → answer_at measure limits (answer measure a ++ rest) ≡ Ok (a, rest)
answers_again measure limits a rest is within = value_stays measure limits (answer measure a) rest a [] (alone measure limits a is within)

-- ---- beginnings

located_fails : {A : Type 0} (a : ℕ) (past : List ℕ) (r : Result (A × List ℕ) Halt) → FailsBy halt Truncated r → FailsBy kind Truncated (located a past r)
located_fails a past (Ok x) fails = fails
located_fails a past (Err h) fails = fails

pub answers_begin : (measure : List ℕ → ℕ) (limits : Limits) (a : SentAnswer) (k : ℕ) → IsSent measure a → IsWithinLimits measure limits a → k < length (answer measure a) → FailsBy kind Truncated (answer_at measure limits (take k (answer measure a)))
unfolding answer_at
answers_begin measure limits a k is within lt =
    let front : List ℕ = take k (answer measure a) in
    let len : length front ≡ k = length-take-le k (answer measure a) (omega (arith, lt)) in
    let room : ℕ = limits.bytes - length front in
    let fits : length front ≤ limits.bytes = omega (arith, len, lt, within.bytes) in
    let begin : BeginningsOf halt (λ room bytes. answer_in measure room limits bytes) (answer measure a) = beginnings (answer_reads measure limits) (answer measure a) a (λ room. answer_again measure room limits a [] is within.screen within.borne) in
    rw (take_all limits.bytes front fits)
    (located_fails (allowed room front) (drop limits.bytes front) (answer_in measure room limits front) (begin room k lt (omega (arith, len, lt, within.bytes))))
