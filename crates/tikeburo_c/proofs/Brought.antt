-- What may come of an answer that is brought to a client by a buffer.
use Rattle.std.proofs.Common.{◌≡◌, ◌⊎◌, inl, inr, ℕ, ◌≤◌, ◌<◌, ◌^◌, List, length, length-append, lit≤, refl, sym, ap, subst, arith}
use Rattle.std.proofs.lemmas.Bool.{cases_Bool}
use Rattle.std.specs.Prelude.{Option, Some, None, Result, Ok, Err, nat_lt}
use Rattle.cbor.specs.Encoding.{head}
use Rattle.termwiz_share.specs.Client.{ask_of}
use Rattle.termwiz_share.specs.Source.{SourceValue}
use Rattle.termwiz_share.specs.declared.error.ClientError.{ClientError}
use Rattle.termwiz_share.specs.declared.error.ClientError.TheVariants as errors
use Rattle.termwiz_surface.specs.Surface.{full_of}
use Rattle.termwiz_wire.specs.Sent.{ask}
use Rattle.termwiz_wire.specs.declared.sent.Ask.{Ask}
use Rattle.tikeburo_c.proofs.Delivered.{Asked, IsReadyIn, asks_by, named_response}
use Rattle.tikeburo_c.specs.Outcomes.{Outcome}
use Rattle.tikeburo_c.specs.Results.{Buffer, GivesInto, OnClient}
use Rattle.tikeburo_c.specs.Streams.{AnswersIn, FeedsIn, GivesAsk, MayCarry, Reaches, Resets, ServesIn, ShowsAsBefore, named_ask}
use Rattle.tikeburo_c.specs.declared.clients.FaultFields.{FaultFields}
use Rattle.tikeburo_c.specs.declared.failure.Failure.TheVariants.{Memory, Unreadable, Truncated, Region, Numbers, NoHandle, WrongKind, Range, Short, OtherWidths}
use Rattle.tikeburo_c.specs.declared.kept.Kept.{Kept}
use Rattle.tikeburo_c.specs.declared.kept.Kept.TheVariants.{Surface, Viewer, Client, Lines}
use Rattle.tikeburo_c.specs.declared.widths.ChosenWidths.{ChosenWidths}

-- ---- a client is made ready

pub reset_done : (surface client new : Option Kept) (outcome : Outcome) → ServesIn surface client → OnClient Resets client outcome new → outcome ≡ Ok tt
reset_done (Some (Surface s)) (Some (Client c)) (Some (Client d)) outcome serves resets = resets.done
reset_done (Some (Surface s)) (Some (Client c)) (Some (Surface t)) outcome serves none = absurd none
reset_done (Some (Surface s)) (Some (Client c)) (Some (Viewer f)) outcome serves none = absurd none
reset_done (Some (Surface s)) (Some (Client c)) (Some (Lines l)) outcome serves none = absurd none
reset_done (Some (Surface s)) (Some (Client c)) None outcome serves none = absurd none
reset_done (Some (Surface s)) (Some (Surface t)) new outcome none resets = absurd none
reset_done (Some (Surface s)) (Some (Viewer f)) new outcome none resets = absurd none
reset_done (Some (Surface s)) (Some (Lines l)) new outcome none resets = absurd none
reset_done (Some (Surface s)) None new outcome none resets = absurd none
reset_done (Some (Viewer f)) client new outcome none resets = absurd none
reset_done (Some (Lines l)) client new outcome none resets = absurd none
reset_done (Some (Client c)) client new outcome none resets = absurd none
reset_done None client new outcome none resets = absurd none

-- ---- it asks

-- bytes are given, or the buffer is too short for them
gives_ends : (bytes : List ℕ) (old new : Buffer) (outcome : Outcome) → GivesInto bytes old outcome new → (outcome ≡ Ok tt) ⊎ ((outcome ≡ Err Short) × (length old.0 < length bytes))
gives_ends bytes old new (Ok u) gives = inl refl
gives_ends bytes old new (Err Short) gives = inr (refl, gives.0)
gives_ends bytes old new (Err Memory) gives = absurd gives
gives_ends bytes old new (Err Unreadable) gives = absurd gives
gives_ends bytes old new (Err Truncated) gives = absurd gives
gives_ends bytes old new (Err Region) gives = absurd gives
gives_ends bytes old new (Err Numbers) gives = absurd gives
gives_ends bytes old new (Err NoHandle) gives = absurd gives
gives_ends bytes old new (Err WrongKind) gives = absurd gives
gives_ends bytes old new (Err Range) gives = absurd gives
gives_ends bytes old new (Err OtherWidths) gives = absurd gives

head_fits : (major n : ℕ) → length (head major n) ≤ 9
unfolding head
head_fits major n = elim (cases_Bool (nat_lt n 24)) [
  | inl none ↦ rw none (lit≤ tt)
  | inr some ↦ elim (cases_Bool (nat_lt n (2 ^ 8))) [
    | inl one ↦ rw (some, one) (lit≤ tt)
    | inr more ↦ elim (cases_Bool (nat_lt n (2 ^ 16))) [
      | inl two ↦ rw (some, more, two) (lit≤ tt)
      | inr many ↦ elim (cases_Bool (nat_lt n (2 ^ 32))) [ inl four ↦ rw (some, more, many, four) (lit≤ tt) | inr eight ↦ rw (some, more, many, eight) (lit≤ tt) ]
    ]
  ]
]

one_byte : (length (head 4 3) ≡ 1) × (length (head 0 2) ≡ 1)
unfolding head
one_byte = (refl, refl)

-- an ask has at most 20 bytes
ask_fits : (a : Ask) → length (ask a) ≤ 20
unfolding ask
ask_fits a = simp length-append (omega (arith, one_byte.0, one_byte.1, head_fits 0 a.source, head_fits 0 a.number))

pub ask_ends : (client : Option Kept) (old new : Buffer) (outcome : Outcome) → IsReadyIn client → GivesAsk client old outcome new → 20 ≤ length old.0 → (outcome ≡ Ok tt) ⊎ (outcome ≡ Err Memory)
ask_ends (Some (Client c)) old new outcome ready gives room = elim gives [
  | inl refused ↦ inr refused.0
  | inr given ↦ elim (gives_ends (ask (named_ask (ask_of c))) old new outcome given.1) [
    | inl done ↦ inl done
    | inr short ↦ absurd (omega (arith, room, short.1, ask_fits (named_ask (ask_of c))))
  ]
]
ask_ends (Some (Surface s)) old new outcome none gives room = absurd none
ask_ends (Some (Viewer f)) old new outcome none gives room = absurd none
ask_ends (Some (Lines l)) old new outcome none gives room = absurd none
ask_ends None old new outcome none gives room = absurd none

-- ---- the surface answers

pub answer_ends : (bytes : List ℕ) (surface client new : Option Kept) (old_room new_room : Buffer) (outcome : Outcome) → ServesIn surface client → Asked (asks_by client) bytes → AnswersIn bytes (surface, old_room) outcome (new, new_room)
    → (outcome ≡ Ok tt) ⊎ MayCarry new client (length old_room.0) outcome
answer_ends bytes (Some (Surface s)) (Some (Client c)) (Some (Surface t)) old_room new_room outcome serves a answers = elim (answers.answers (named_ask (ask_of c)) a.is_ask a.encoded) [
  | inl refused ↦ inr (subst (MayCarry (Some (Surface t)) (Some (Client c)) (length old_room.0)) (sym refused.0) tt)
  | inr answered ↦ elim (gives_ends answered.bytes old_room new_room outcome answered.gives) [
    | inl done ↦ inl done
    | inr short ↦ inr (subst (MayCarry (Some (Surface t)) (Some (Client c)) (length old_room.0)) (sym short.0) (record { bytes = answered.bytes; response = named_response t (ask_of c) answered.bytes answered.response; longer = short.1 }))
  ]
]
answer_ends bytes (Some (Surface s)) (Some (Client c)) (Some (Viewer f)) old_room new_room outcome serves a none = absurd none
answer_ends bytes (Some (Surface s)) (Some (Client c)) (Some (Lines l)) old_room new_room outcome serves a none = absurd none
answer_ends bytes (Some (Surface s)) (Some (Client c)) (Some (Client d)) old_room new_room outcome serves a none = absurd none
answer_ends bytes (Some (Surface s)) (Some (Client c)) None old_room new_room outcome serves a none = absurd none
answer_ends bytes (Some (Surface s)) (Some (Surface t)) new old_room new_room outcome none a answers = absurd none
answer_ends bytes (Some (Surface s)) (Some (Viewer f)) new old_room new_room outcome none a answers = absurd none
answer_ends bytes (Some (Surface s)) (Some (Lines l)) new old_room new_room outcome none a answers = absurd none
answer_ends bytes (Some (Surface s)) None new old_room new_room outcome none a answers = absurd none
answer_ends bytes (Some (Viewer f)) client new old_room new_room outcome none a answers = absurd none
answer_ends bytes (Some (Lines l)) client new old_room new_room outcome none a answers = absurd none
answer_ends bytes (Some (Client c)) client new old_room new_room outcome none a answers = absurd none
answer_ends bytes None client new old_room new_room outcome none a answers = absurd none

-- it shows what it showed
pub answered_same : (bytes : List ℕ) (surface new : Option Kept) (old_room new_room : Buffer) (outcome : Outcome) → AnswersIn bytes (surface, old_room) outcome (new, new_room) → ShowsAsBefore surface new
answered_same bytes (Some (Surface s)) (Some (Surface t)) old_room new_room outcome answers = elim answers.others [
  | inl unread ↦ ap (λ (p : SourceValue ChosenWidths × Buffer). full_of p.0.surface) unread.1
  | inr (inl refused) ↦ ap (λ (p : SourceValue ChosenWidths × Buffer). full_of p.0.surface) refused.1
  | inr (inr answered) ↦ ap (λ (u : SourceValue ChosenWidths). full_of u.surface) answered.2.trims
]
answered_same bytes (Some (Surface s)) (Some (Viewer f)) old_room new_room outcome none = none
answered_same bytes (Some (Surface s)) (Some (Lines l)) old_room new_room outcome none = none
answered_same bytes (Some (Surface s)) (Some (Client c)) old_room new_room outcome none = none
answered_same bytes (Some (Surface s)) None old_room new_room outcome none = none
answered_same bytes (Some (Viewer f)) new old_room new_room outcome refused = ap (λ (p : Option Kept × Buffer). p.0) refused.1
answered_same bytes (Some (Lines l)) new old_room new_room outcome refused = ap (λ (p : Option Kept × Buffer). p.0) refused.1
answered_same bytes (Some (Client c)) new old_room new_room outcome refused = ap (λ (p : Option Kept × Buffer). p.0) refused.1
answered_same bytes None new old_room new_room outcome refused = ap (λ (p : Option Kept × Buffer). p.0) refused.1

pub shows_itself : (surface : Option Kept) → ShowsAsBefore surface surface
shows_itself (Some (Surface s)) = refl
shows_itself (Some (Viewer f)) = refl
shows_itself (Some (Lines l)) = refl
shows_itself (Some (Client c)) = refl
shows_itself None = refl

-- ---- the client is fed

reach_ends : (surface client : Option Kept) (room : ℕ) (result : Result ℕ ClientError) (old new : FaultFields) (outcome : Outcome) → Reaches result old outcome new → MayCarry surface client room outcome
reach_ends surface client room (Ok n) old new outcome reaches = subst (MayCarry surface client room) (sym reaches.0) tt
reach_ends surface client room (Err (errors.Fault e)) old new outcome reaches = subst (MayCarry surface client room) (sym reaches.0) tt
reach_ends surface client room (Err (errors.Size at)) old new outcome reaches = subst (MayCarry surface client room) (sym reaches.0) tt
reach_ends surface client room (Err errors.Numbers) old new outcome reaches = subst (MayCarry surface client room) (sym reaches.0) tt
reach_ends surface client room (Err errors.Memory) old new outcome reaches = subst (MayCarry surface client room) (sym reaches.0) tt

pub feed_ends : (piece : List ℕ) (surface client new : Option Kept) (room : ℕ) (old_written new_written : ℕ × FaultFields) (outcome : Outcome) → IsReadyIn client → FeedsIn piece (client, old_written) outcome (new, new_written) → MayCarry surface new room outcome
feed_ends piece surface (Some (Client c)) (Some (Client d)) room old_written new_written outcome ready (result, reaches, counts, feeds) = reach_ends surface (Some (Client d)) room result old_written.1 new_written.1 outcome reaches
feed_ends piece surface (Some (Client c)) (Some (Surface s)) room old_written new_written outcome ready none = absurd none
feed_ends piece surface (Some (Client c)) (Some (Viewer f)) room old_written new_written outcome ready none = absurd none
feed_ends piece surface (Some (Client c)) (Some (Lines l)) room old_written new_written outcome ready none = absurd none
feed_ends piece surface (Some (Client c)) None room old_written new_written outcome ready none = absurd none
feed_ends piece surface (Some (Surface s)) new room old_written new_written outcome none fed = absurd none
feed_ends piece surface (Some (Viewer f)) new room old_written new_written outcome none fed = absurd none
feed_ends piece surface (Some (Lines l)) new room old_written new_written outcome none fed = absurd none
feed_ends piece surface None new room old_written new_written outcome none fed = absurd none
