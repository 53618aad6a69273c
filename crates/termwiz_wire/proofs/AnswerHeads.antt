-- The head of the answer at the front of bytes, beside the answer.
use Rattle.std.proofs.Common.{◌≡◌, ℕ, zero, suc, ◌+◌, ◌-◌, ◌≤◌, List, [], ◌∷◌, ◌++◌, length, take, drop, Option, Some, None, Result, Ok, Err, sym, ap, subst, ◌∙◌, arith, inl, inr}
use Rattle.std.specs.Prelude.{IfSome}
use Rattle.std.specs.List.{flat_map}
use Rattle.std.proofs.Math.Seq.{take-append-add}
use Rattle.std.proofs.lemmas.List.{length-append}
use Rattle.cbor.specs.declared.error.FaultKind.{FaultKind}
use Rattle.cbor.specs.Decoding.{◌>>=◌, Stop, allowed, ok}
use Rattle.cbor.specs.Prefixes.{left, seen, StaysDecoded}
use Rattle.cbor.proofs.Steps.{bind_ok, ok_is}
use Rattle.termwiz_cell.specs.ChangeValue.{ChangeValue}
use Rattle.termwiz_wire.specs.Answers.{Halt, answer_at, answer_head_at, answer_in, each_at, halted, next_at, head_at, head_of, located, sent_of, within}
use Rattle.termwiz_wire.specs.Encoding.{change}
use Rattle.termwiz_wire.specs.Screens.{FitsLimits}
use Rattle.termwiz_wire.specs.Work.{spent_on}
use Rattle.termwiz_wire.specs.MoreBytes.{kind}
use Rattle.termwiz_wire.specs.Sent.{IsSent, answer}
use Rattle.termwiz_wire.specs.declared.decode.heads.Head.{Head}
use Rattle.termwiz_wire.specs.declared.fault.Fault.{Fault}
use Rattle.termwiz_wire.specs.declared.fault.Limits.{Limits}
use Rattle.termwiz_wire.specs.declared.sent.SentAnswer.{SentAnswer}
use Rattle.termwiz_wire.proofs.Each.{halted_ok}
use Rattle.termwiz_wire.proofs.AnswersAgain.{head_again}
use Rattle.termwiz_wire.proofs.MoreBytes.{within_stays}
use Rattle.termwiz_wire.proofs.Prefixes.{halted_reads, head_reads}

abbrev Read : Type 0
Read = Result (Head × List ℕ) Stop

abbrev alone : Head × List ℕ → Result Head Fault
alone x = Ok x.0

abbrev failed : Fault → Result Head Fault
failed f = Err f

-- ---- what a call returns

pub head_found : (limits : Limits) (bytes rest : List ℕ) (head : Head) → head_at (limits.bytes - length bytes) limits (take limits.bytes bytes) ≡ Ok (head, rest) → answer_head_at limits bytes ≡ Ok head
unfolding answer_head_at
head_found limits bytes rest head is = ap (λ (r : Read). located (allowed (limits.bytes - length bytes) (take limits.bytes bytes)) (drop limits.bytes bytes) (halted None r) >>= alone) is

pub head_failed : (limits : Limits) (bytes rest : List ℕ) (room n : ℕ) (f : FaultKind) → room ≡ limits.bytes - length bytes → n ≡ length (take limits.bytes bytes) - length rest → head_at (limits.bytes - length bytes) limits (take limits.bytes bytes) ≡ Err (record { fault = f; left = allowed room rest }) → answer_head_at limits bytes ≡ Err (record { kind = f; at = n; change = None })
unfolding answer_head_at
head_failed limits bytes rest room n f same n_is is =
    let all : ℕ = allowed (limits.bytes - length bytes) (take limits.bytes bytes) in
    let at : all - allowed room rest ≡ n = omega (arith, same, n_is) in
    ap (λ (r : Read). located all (drop limits.bytes bytes) (halted None r) >>= alone) is
    ∙ ap (λ (k : ℕ). failed (record { kind = f; at = k; change = None })) at

-- the fault that an error is
pub fault_is : (o : Option FaultKind) (f : FaultKind) (P : FaultKind → Type 0) → o ≡ Some f → IfSome o P → P f
fault_is o f P is holds = subst (λ (p : Option FaultKind). IfSome p P) is holds

-- ---- an answer

-- there are as many changes as the head says
each_count : (measure : List ℕ → ℕ) (room : ℕ) (head : Option Head) (n : ℕ) (made : List ChangeValue) (bytes : List ℕ) (x : List ChangeValue × List ℕ) → each_at measure room head made n bytes ≡ Ok x → length x.0 ≡ length made + n
unfolding each_at
each_count measure room head zero made bytes x e =
    let same : (made, bytes) ≡ x = ok_is {A = List ChangeValue × List ℕ} {E = Halt} (made, bytes) x e in
    let len : length made ≡ length x.0 = ap (λ (y : List ChangeValue × List ℕ). length y.0) same in
    omega (arith, len)
each_count measure room head (suc n) made bytes x e =
    let first = bind_ok (halted (Some (length made)) (next_at measure room head (spent_on head made) bytes)) _ x e in
    let more : length x.0 ≡ length (made ++ first.0.0 ∷ []) + n = each_count measure room head n (made ++ first.0.0 ∷ []) first.0.1 x first.2 in
    omega (arith, more, length-append made (first.0.0 ∷ []))

-- the head of an answer that was decoded
in_answer : (measure : List ℕ → ℕ) (room : ℕ) (limits : Limits) (bytes : List ℕ) (x : SentAnswer × List ℕ) → answer_in measure room limits bytes ≡ Ok x → (rest : List ℕ) × (head_at room limits bytes ≡ Ok (head_of x.0, rest))
unfolding answer_in
in_answer measure room limits bytes x e =
    let head = bind_ok (halted None (head_at room limits bytes)) _ x e in
    let cs = bind_ok (each_at measure room (Some head.0.0) [] head.0.0.count head.0.1) _ x head.2 in
    let is : head_at room limits bytes ≡ Ok head.0 = halted_ok None (head_at room limits bytes) head.0 head.1 in
    let all : length cs.0.0 ≡ length {A = ChangeValue} [] + head.0.0.count = each_count measure room (Some head.0.0) head.0.0.count [] head.0.1 cs.0 cs.1 in
    let count : length cs.0.0 ≡ head.0.0.count = omega (arith, all) in
    let sent : (sent_of head.0.0 cs.0.0, cs.0.1) ≡ x = ok_is {A = SentAnswer × List ℕ} {E = Halt} (sent_of head.0.0 cs.0.0, cs.0.1) x cs.2 in
    let same : head.0.0 ≡ head_of (sent_of head.0.0 cs.0.0) = ap (λ (n : ℕ). record head.0.0 { count = n }) (sym count) in
    (head.0.1, is ∙ ap (λ (h : Head). found_at h head.0.1) (same ∙ ap (λ (y : SentAnswer × List ℕ). head_of y.0) sent))
  where
    found_at : Head → List ℕ → Read
    found_at h rest = Ok (h, rest)

located_ok : {A : Type 0} (all : ℕ) (past : List ℕ) (r : Result (A × List ℕ) Halt) (x : A × List ℕ) → located all past r ≡ Ok x → (y : List ℕ) × (r ≡ Ok (x.0, y))
located_ok {A = A} all past (Ok z) x e =
    let same : ◌≡◌ {A = A} z.0 x.0 = ap (λ (p : A × List ℕ). p.0) (ok_is {A = A × List ℕ} {E = Fault} (z.0, z.1 ++ past) x e) in
    (z.1, ap (λ (a : A). ok {E = Halt} a z.1) same)
located_ok all past (Err h) x e = absurd cc

-- where an answer is decoded, its head is
pub head_of_answer : (measure : List ℕ → ℕ) (limits : Limits) (bytes : List ℕ) (s : SentAnswer) (rest : List ℕ) → answer_at measure limits bytes ≡ Ok (s, rest) → answer_head_at limits bytes ≡ Ok (head_of s)
unfolding answer_at
head_of_answer measure limits bytes s rest e =
    let room : ℕ = limits.bytes - length bytes in
    let hand : List ℕ = take limits.bytes bytes in
    let whole = located_ok (allowed room hand) (drop limits.bytes bytes) (answer_in measure room limits hand) (s, rest) e in
    let found = in_answer measure room limits hand (s, whole.0) whole.1 in
    head_found limits bytes found.0 (head_of s) found.1

-- the head of what is encoded, whether or not the screen bears its changes
pub head_of_encoded : (measure : List ℕ → ℕ) (limits : Limits) (bytes : List ℕ) (s : SentAnswer) (rest : List ℕ) → IsSent measure s → FitsLimits limits s.answer.width s.answer.height → length (answer measure s) ≤ limits.bytes → bytes ≡ answer measure s ++ rest → answer_head_at limits bytes ≡ Ok (head_of s)
head_of_encoded measure limits bytes s rest is fits short e =
    let whole : List ℕ = answer measure s in
    let room : ℕ = limits.bytes - length bytes in
    let k : ℕ = limits.bytes - length whole in
    let all : limits.bytes ≡ length whole + k = omega (arith, short) in
    let hand : take limits.bytes bytes ≡ whole ++ take k rest = ap (take limits.bytes) e ∙ ap (λ (n : ℕ). take n (whole ++ rest)) all ∙ take-append-add whole rest k in
    head_found limits bytes (flat_map (change measure) s.answer.changes ++ take k rest) (head_of s) (ap (head_at room limits) hand ∙ head_again measure room limits s (take k rest) is fits)

-- what follows a head that has a fault is not read
fails_so : {A : Type 0} (all : ℕ) (past : List ℕ) (r : Read) (then : Head × List ℕ → Result (A × List ℕ) Halt) (f : Fault) → (located all past (halted None r) >>= alone) ≡ Err f → located all past (halted None r >>= then) ≡ Err f
fails_so all past (Ok x) then f e = absurd cc
fails_so {A = A} all past (Err s) then f e = ap (λ (g : Fault). wrong g) (fault_of_err e)
  where
    wrong : Fault → Result (A × List ℕ) Fault
    wrong g = Err g

    fault_of_err : {g h : Fault} → failed g ≡ failed h → g ≡ h
    fault_of_err is = cc

pub fault_of_answer : (measure : List ℕ → ℕ) (limits : Limits) (bytes : List ℕ) (f : Fault) → answer_head_at limits bytes ≡ Err f → answer_at measure limits bytes ≡ Err f
unfolding answer_at answer_in answer_head_at
fault_of_answer measure limits bytes f e =
    let room : ℕ = limits.bytes - length bytes in
    let hand : List ℕ = take limits.bytes bytes in
    fails_so (allowed room hand) (drop limits.bytes bytes) (head_at room limits hand) (λ head. each_at measure room (Some head.0) [] head.0.count head.1 >>= λ changes. ok (sent_of head.0 changes.0) changes.1) f e

-- ---- more bytes

alone_stays : (more : List ℕ) (r later : Result (Head × List ℕ) Fault) → StaysDecoded kind left more r later → StaysDecoded kind seen more (r >>= alone) (later >>= alone)
alone_stays more (Ok x) later stays = ap (λ (r : Result (Head × List ℕ) Fault). r >>= alone) stays
alone_stays more (Err f) later (inl want) = inl want
alone_stays more (Err f) later (inr same) = inr (ap (λ (r : Result (Head × List ℕ) Fault). r >>= alone) same)

pub answer_head_stays : (limits : Limits) (bytes more : List ℕ) → StaysDecoded kind seen more (answer_head_at limits bytes) (answer_head_at limits (bytes ++ more))
unfolding answer_head_at
answer_head_stays limits bytes more =
    let read : ℕ → List ℕ → Result (Head × List ℕ) Halt = λ room rest. halted None (head_at room limits rest) in
    alone_stays more (within read limits.bytes bytes) (within read limits.bytes (bytes ++ more)) (within_stays read limits.bytes bytes more (halted_reads None (head_reads limits)))
