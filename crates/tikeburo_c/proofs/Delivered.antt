-- What the calls for streams do together.
use Rattle.std.proofs.Common.{◌≡◌, inl, inr, ℕ, ℤ, pos, List, ◌++◌, length, take, refl, sym, ap, ◌∙◌, subst}
use Rattle.std.proofs.Math.Seq.{take-append_seam}
use Rattle.std.proofs.lemmas.Bool.{cases_Bool}
use Rattle.std.specs.Prelude.{Option, Some, None, Ok, Err, ◌==◌}
use Rattle.termwiz_share.specs.Client.{ClientValue, IsReady, ask_of}
use Rattle.termwiz_share.specs.Serving.{Serves}
use Rattle.termwiz_share.specs.Source.{IsResponse, SourceValue}
use Rattle.termwiz_share.specs.declared.error.ClientError.{ClientError}
use Rattle.termwiz_share.specs.declared.error.ClientError.TheVariants as errors
use Rattle.termwiz_wire.specs.Sent.{IsAsk, ask}
use Rattle.termwiz_wire.specs.declared.sent.Ask.{Ask}
use Rattle.tikeburo_c.specs.Outcomes.{Outcome, Reports, status_of}
use Rattle.tikeburo_c.specs.Results.{Buffer, OnClient}
use Rattle.tikeburo_c.specs.Streams.{AnswersAsk, AnswersIn, FailsInto, FeedsIn, GivesAsk, Resets, RespondsIn, ServesIn, ShowsIn, named_ask}
use Rattle.tikeburo_c.specs.Widths.{columns_by}
use Rattle.tikeburo_c.specs.declared.clients.FaultFields.{FaultFields}
use Rattle.tikeburo_c.specs.declared.failure.Failure.{Failure}
use Rattle.tikeburo_c.specs.declared.failure.Failure.TheVariants.{Memory, Unreadable, Truncated, Region, Numbers, NoHandle, WrongKind, Range, Short, OtherWidths}
use Rattle.tikeburo_c.specs.declared.kept.Kept.{Kept}
use Rattle.tikeburo_c.specs.declared.kept.Kept.TheVariants.{Surface, Viewer, Client, Lines}
use Rattle.tikeburo_c.specs.declared.widths.ChosenWidths.{ChosenWidths}

-- no failure has the number 0
failed : (f : Failure) → status_of (Err f) ≡ pos 0 → ⊥
failed Memory e = cc
failed Unreadable e = cc
failed Truncated e = cc
failed Region e = cc
failed Numbers e = cc
failed NoHandle e = cc
failed WrongKind e = cc
failed Range e = cc
failed Short e = cc
failed OtherWidths e = cc

is_ok : (status : ℤ) (outcome : Outcome) → status ≡ status_of outcome → status ≡ pos 0 → outcome ≡ Ok tt
is_ok status (Ok u) e done = refl
is_ok status (Err f) e done = absurd (failed f (sym e ∙ done))

-- what a call did that reports success
pub done_by : (status : ℤ) (P : Outcome → Type 0) → Reports status P → status ≡ pos 0 → P (Ok tt)
done_by status P reports done = subst P (is_ok status reports.0 reports.1 done) reports.2

-- the front of the buffer is what was given
pub front_is : (bytes room : List ℕ) (len : ℕ) (rest : List ℕ) → room ≡ bytes ++ rest → len ≡ length bytes → take len room ≡ bytes
front_is bytes room len rest e l = ap (λ (n : ℕ). take n room) l ∙ ap (take (length bytes)) e ∙ take-append_seam bytes rest

-- ---- a client is made ready

abbrev pub IsReadyIn : Option Kept → Type 0
IsReadyIn (Some (Client c)) = IsReady c
IsReadyIn _ = ⊥

pub serves_reset : (surface client new : Option Kept) (outcome : Outcome) → ServesIn surface client → OnClient Resets client outcome new → ServesIn surface new
serves_reset (Some (Surface s)) (Some (Client c)) (Some (Client d)) outcome serves resets = resets.serves s serves
serves_reset (Some (Surface s)) (Some (Client c)) (Some (Surface t)) outcome serves none = none
serves_reset (Some (Surface s)) (Some (Client c)) (Some (Viewer f)) outcome serves none = none
serves_reset (Some (Surface s)) (Some (Client c)) (Some (Lines l)) outcome serves none = none
serves_reset (Some (Surface s)) (Some (Client c)) None outcome serves none = none
serves_reset (Some (Surface s)) (Some (Surface t)) new outcome none resets = absurd none
serves_reset (Some (Surface s)) (Some (Viewer f)) new outcome none resets = absurd none
serves_reset (Some (Surface s)) (Some (Lines l)) new outcome none resets = absurd none
serves_reset (Some (Surface s)) None new outcome none resets = absurd none
serves_reset (Some (Viewer f)) client new outcome none resets = absurd none
serves_reset (Some (Lines l)) client new outcome none resets = absurd none
serves_reset (Some (Client c)) client new outcome none resets = absurd none
serves_reset None client new outcome none resets = absurd none

pub ready_reset : (surface client new : Option Kept) (outcome : Outcome) → ServesIn surface client → OnClient Resets client outcome new → IsReadyIn new
ready_reset (Some (Surface s)) (Some (Client c)) (Some (Client d)) outcome serves resets = resets.ready
ready_reset (Some (Surface s)) (Some (Client c)) (Some (Surface t)) outcome serves none = none
ready_reset (Some (Surface s)) (Some (Client c)) (Some (Viewer f)) outcome serves none = none
ready_reset (Some (Surface s)) (Some (Client c)) (Some (Lines l)) outcome serves none = none
ready_reset (Some (Surface s)) (Some (Client c)) None outcome serves none = none
ready_reset (Some (Surface s)) (Some (Surface t)) new outcome none resets = absurd none
ready_reset (Some (Surface s)) (Some (Viewer f)) new outcome none resets = absurd none
ready_reset (Some (Surface s)) (Some (Lines l)) new outcome none resets = absurd none
ready_reset (Some (Surface s)) None new outcome none resets = absurd none
ready_reset (Some (Viewer f)) client new outcome none resets = absurd none
ready_reset (Some (Lines l)) client new outcome none resets = absurd none
ready_reset (Some (Client c)) client new outcome none resets = absurd none
ready_reset None client new outcome none resets = absurd none

-- ---- it asks

-- what it asks by
abbrev pub asks_by : Option Kept → Ask
asks_by (Some (Client c)) = named_ask (ask_of c)
asks_by _ = record { source = 0; number = 0 }

pub record Asked (a : Ask) (bytes : List ℕ) : Type 0 where
  pub is_ask : IsAsk a
  pub encoded : bytes ≡ ask a

pub asked : (client : Option Kept) (old new : Buffer) → GivesAsk client old (Ok tt) new → Asked (asks_by client) (take new.1 new.0)
asked (Some (Client c)) old new (inl refused) = absurd cc
asked (Some (Client c)) old new (inr (is_ask, gives)) = record { is_ask = is_ask; encoded = front_is _ _ _ _ gives.1 gives.2 }
asked (Some (Surface s)) old new refused = absurd cc
asked (Some (Viewer f)) old new refused = absurd cc
asked (Some (Lines l)) old new refused = absurd cc
asked None old new refused = absurd cc

-- ---- the surface answers

pub serves_answered : (bytes : List ℕ) (surface client new : Option Kept) (old_room new_room : Buffer) (outcome : Outcome) → ServesIn surface client → AnswersIn bytes (surface, old_room) outcome (new, new_room) → ServesIn new client
serves_answered bytes (Some (Surface s)) (Some (Client c)) (Some (Surface t)) old_room new_room outcome serves answers = elim answers.others [
  | inl unread ↦ subst (λ (u : SourceValue ChosenWidths). Serves columns_by u c) (sym (ap (λ (p : SourceValue ChosenWidths × Buffer). p.0) unread.1)) serves
  | inr (inl refused) ↦ subst (λ (u : SourceValue ChosenWidths). Serves columns_by u c) (sym (ap (λ (p : SourceValue ChosenWidths × Buffer). p.0) refused.1)) serves
  | inr (inr answered) ↦ answered.2.preserves.clients c serves
]
serves_answered bytes (Some (Surface s)) (Some (Client c)) (Some (Viewer f)) old_room new_room outcome serves none = none
serves_answered bytes (Some (Surface s)) (Some (Client c)) (Some (Lines l)) old_room new_room outcome serves none = none
serves_answered bytes (Some (Surface s)) (Some (Client c)) (Some (Client d)) old_room new_room outcome serves none = none
serves_answered bytes (Some (Surface s)) (Some (Client c)) None old_room new_room outcome serves none = none
serves_answered bytes (Some (Surface s)) (Some (Surface t)) new old_room new_room outcome none answers = absurd none
serves_answered bytes (Some (Surface s)) (Some (Viewer f)) new old_room new_room outcome none answers = absurd none
serves_answered bytes (Some (Surface s)) (Some (Lines l)) new old_room new_room outcome none answers = absurd none
serves_answered bytes (Some (Surface s)) None new old_room new_room outcome none answers = absurd none
serves_answered bytes (Some (Viewer f)) client new old_room new_room outcome none answers = absurd none
serves_answered bytes (Some (Lines l)) client new old_room new_room outcome none answers = absurd none
serves_answered bytes (Some (Client c)) client new old_room new_room outcome none answers = absurd none
serves_answered bytes None client new old_room new_room outcome none answers = absurd none

-- an answer to no source is a repaint
pub named_response : (s : SourceValue ChosenWidths) (a : Ask) (bytes : List ℕ) → IsResponse columns_by s (named_ask a) bytes → IsResponse columns_by s a bytes
named_response s a bytes r = elim (cases_Bool (a.source == 0)) [
  | inr some ↦ (let same : named_ask a ≡ a = rw some refl in subst (λ (b : Ask). IsResponse columns_by s b bytes) same r)
  | inl none ↦
      let zero : (named_ask a).number ≡ 0 = rw none refl in
      record {
        given = r.given;
        encoded = r.encoded;
        is_sent = r.is_sent;
        width = r.width;
        height = r.height;
        sized = r.sized;
        number = r.number;
        from = inl (elim r.from [ inl e ↦ e | inr both ↦ both.1 ∙ zero ]);
        carries = r.carries;
        few = r.few;
        borne = r.borne;
      }
]

answered_by : (s : SourceValue ChosenWidths) (c : ClientValue ChosenWidths) (t : SourceValue ChosenWidths) (a : Ask) (old_room new_room : Buffer) → a ≡ named_ask (ask_of c) → AnswersAsk a (s, old_room) (Ok tt) (t, new_room) → IsResponse columns_by t (ask_of c) (take new_room.1 new_room.0)
answered_by s c t a old_room new_room is answers =
    let front = front_is _ _ _ _ answers.gives.1 answers.gives.2 in
    named_response t (ask_of c) _ (subst (λ (b : Ask). IsResponse columns_by t b (take new_room.1 new_room.0)) is (subst (λ (bytes : List ℕ). IsResponse columns_by t a bytes) (sym front) answers.response))

pub responded : (bytes : List ℕ) (surface client new : Option Kept) (old_room new_room : Buffer) → ServesIn surface client → Asked (asks_by client) bytes → AnswersIn bytes (surface, old_room) (Ok tt) (new, new_room) → RespondsIn new client (take new_room.1 new_room.0)
responded bytes (Some (Surface s)) (Some (Client c)) (Some (Surface t)) old_room new_room serves a answers = elim (answers.answers (named_ask (ask_of c)) a.is_ask a.encoded) [
  | inl refused ↦ absurd cc
  | inr answered ↦ answered_by s c t (named_ask (ask_of c)) old_room new_room refl answered
]
responded bytes (Some (Surface s)) (Some (Client c)) (Some (Viewer f)) old_room new_room serves a none = none
responded bytes (Some (Surface s)) (Some (Client c)) (Some (Lines l)) old_room new_room serves a none = none
responded bytes (Some (Surface s)) (Some (Client c)) (Some (Client d)) old_room new_room serves a none = none
responded bytes (Some (Surface s)) (Some (Client c)) None old_room new_room serves a none = none
responded bytes (Some (Surface s)) (Some (Surface t)) new old_room new_room none a answers = absurd none
responded bytes (Some (Surface s)) (Some (Viewer f)) new old_room new_room none a answers = absurd none
responded bytes (Some (Surface s)) (Some (Lines l)) new old_room new_room none a answers = absurd none
responded bytes (Some (Surface s)) None new old_room new_room none a answers = absurd none
responded bytes (Some (Viewer f)) client new old_room new_room none a answers = absurd none
responded bytes (Some (Lines l)) client new old_room new_room none a answers = absurd none
responded bytes (Some (Client c)) client new old_room new_room none a answers = absurd none
responded bytes None client new old_room new_room none a answers = absurd none

-- ---- the client is fed

no_failure : (e : ClientError) (old new : FaultFields) → FailsInto e old (Ok tt) new → ⊥
no_failure (errors.Fault e) old new fails = cc
no_failure (errors.Size at) old new fails = cc
no_failure errors.Numbers old new fails = cc
no_failure errors.Memory old new fails = cc

pub serves_fed : (piece : List ℕ) (surface client new : Option Kept) (old_written new_written : ℕ × FaultFields) (outcome : Outcome) → ServesIn surface client → IsReadyIn client → RespondsIn surface client piece → FeedsIn piece (client, old_written) outcome (new, new_written) → ServesIn surface new
serves_fed piece (Some (Surface s)) (Some (Client c)) (Some (Client d)) old_written new_written outcome serves ready responds (result, reaches, counts, feeds) = feeds.serves s serves ready responds
serves_fed piece (Some (Surface s)) (Some (Client c)) (Some (Surface t)) old_written new_written outcome serves ready responds none = none
serves_fed piece (Some (Surface s)) (Some (Client c)) (Some (Viewer f)) old_written new_written outcome serves ready responds none = none
serves_fed piece (Some (Surface s)) (Some (Client c)) (Some (Lines l)) old_written new_written outcome serves ready responds none = none
serves_fed piece (Some (Surface s)) (Some (Client c)) None old_written new_written outcome serves ready responds none = none
serves_fed piece (Some (Surface s)) (Some (Surface t)) new old_written new_written outcome none ready responds fed = absurd none
serves_fed piece (Some (Surface s)) (Some (Viewer f)) new old_written new_written outcome none ready responds fed = absurd none
serves_fed piece (Some (Surface s)) (Some (Lines l)) new old_written new_written outcome none ready responds fed = absurd none
serves_fed piece (Some (Surface s)) None new old_written new_written outcome none ready responds fed = absurd none
serves_fed piece (Some (Viewer f)) client new old_written new_written outcome none ready responds fed = absurd none
serves_fed piece (Some (Lines l)) client new old_written new_written outcome none ready responds fed = absurd none
serves_fed piece (Some (Client c)) client new old_written new_written outcome none ready responds fed = absurd none
serves_fed piece None client new old_written new_written outcome none ready responds fed = absurd none

pub shows_fed : (piece : List ℕ) (surface client new : Option Kept) (old_written new_written : ℕ × FaultFields) → ServesIn surface client → IsReadyIn client → RespondsIn surface client piece → FeedsIn piece (client, old_written) (Ok tt) (new, new_written) → ShowsIn surface new
shows_fed piece (Some (Surface s)) (Some (Client c)) (Some (Client d)) old_written new_written serves ready responds (Ok n, reaches, counts, feeds) = (feeds.shows s serves ready responds).0
shows_fed piece (Some (Surface s)) (Some (Client c)) (Some (Client d)) old_written new_written serves ready responds (Err e, reaches, counts, feeds) = absurd (no_failure e old_written.1 new_written.1 reaches)
shows_fed piece (Some (Surface s)) (Some (Client c)) (Some (Surface t)) old_written new_written serves ready responds none = none
shows_fed piece (Some (Surface s)) (Some (Client c)) (Some (Viewer f)) old_written new_written serves ready responds none = none
shows_fed piece (Some (Surface s)) (Some (Client c)) (Some (Lines l)) old_written new_written serves ready responds none = none
shows_fed piece (Some (Surface s)) (Some (Client c)) None old_written new_written serves ready responds none = none
shows_fed piece (Some (Surface s)) (Some (Surface t)) new old_written new_written none ready responds fed = absurd none
shows_fed piece (Some (Surface s)) (Some (Viewer f)) new old_written new_written none ready responds fed = absurd none
shows_fed piece (Some (Surface s)) (Some (Lines l)) new old_written new_written none ready responds fed = absurd none
shows_fed piece (Some (Surface s)) None new old_written new_written none ready responds fed = absurd none
shows_fed piece (Some (Viewer f)) client new old_written new_written none ready responds fed = absurd none
shows_fed piece (Some (Lines l)) client new old_written new_written none ready responds fed = absurd none
shows_fed piece (Some (Client c)) client new old_written new_written none ready responds fed = absurd none
shows_fed piece None client new old_written new_written none ready responds fed = absurd none
