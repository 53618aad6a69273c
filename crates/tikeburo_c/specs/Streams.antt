-- What goes between surfaces and clients as bytes.
use Rattle.std.specs.Prelude.{◌≡◌, ◌⊎◌, ℕ, ◌<◌, true, false, Result, Ok, Err, OnOk, Option, Some, None, List, [], ◌++◌, length, ◌==◌, if◌then◌else◌}
use Rattle.cbor.specs.declared.error.FaultKind.{FaultKind}
use Rattle.cbor.specs.declared.error.FaultKind.TheVariants as faults
use Rattle.termwiz_share.specs.Client.{ClientValue, IsReady, ask_of}
use Rattle.termwiz_share.specs.Feeding.{Feeds, KeepsPiece, TakesNext}
use Rattle.termwiz_share.specs.Histories.{ClientFollows, FollowsNext, ClientFollowsTo, Given}
use Rattle.termwiz_share.specs.Serving.{KeepsSources, PreservesServing, Serves, ShowsSource}
use Rattle.termwiz_share.specs.Source.{IsResponse, SourceValue, response_bytes, trimmed_surface}
use Rattle.termwiz_share.specs.declared.error.ClientError.{ClientError}
use Rattle.termwiz_share.specs.declared.error.ClientError.TheVariants as errors
use Rattle.termwiz_share.specs.declared.taken.Taken.{Taken}
use Rattle.termwiz_share.specs.declared.taken.Taken.TheVariants as shows
use Rattle.termwiz_screen.specs.FullScreen.{FullScreen}
use Rattle.termwiz_surface.specs.RowNumbers.{NumbersRows}
use Rattle.termwiz_surface.specs.Surface.{full_of}
use Rattle.termwiz_wire.specs.Answers.{ask_at}
use Rattle.termwiz_wire.specs.Sent.{IsAsk, ask}
use Rattle.termwiz_wire.specs.declared.sent.Ask.{Ask}
use Rattle.tikeburo_c.specs.Outcomes.{Outcome, unread_as}
use Rattle.tikeburo_c.specs.Results.{Buffer, GivesInto, OnClientAnd, OrNoMemory, Refused}
use Rattle.tikeburo_c.specs.Widths.{columns_by}
use Rattle.tikeburo_c.specs.declared.clients.FaultFields.{FaultFields}
use Rattle.tikeburo_c.specs.declared.clients.TakenFields.{TakenFields}
use Rattle.tikeburo_c.specs.declared.failure.Failure.{Failure}
use Rattle.tikeburo_c.specs.declared.failure.Failure.TheVariants.{Memory, NoHandle, Numbers, Range, Short, Unreadable, WrongKind}
use Rattle.tikeburo_c.specs.declared.kept.Kept.{Kept}
use Rattle.tikeburo_c.specs.declared.kept.Kept.TheVariants.{Surface, Viewer, Client, Lines}
use Rattle.tikeburo_c.specs.declared.widths.ChosenWidths.{ChosenWidths}

-- ---- answers

-- the one ask that the bytes encode, with nothing after it
abbrev pub IsOnlyAsk : List ℕ → Result Ask Failure → Type 0
IsOnlyAsk bytes (Ok a) = (bytes ≡ ask a) × ((b : Ask) → IsAsk b → bytes ≡ ask b → a ≡ b)
IsOnlyAsk bytes (Err failure) =
    (failure ≡ Memory) ⊎
    ((failure ≡ unread_as (ask_at bytes)) × ((a : Ask) → IsAsk a → bytes ≡ ask a → ⊥))

-- a surface, and a caller's buffer
abbrev pub Answering : Type 0
Answering = SourceValue ChosenWidths × Buffer

-- the surface answers this ask, and forgets what no answer needs
pub record AnswersAsk (a : Ask) (old : Answering) (outcome : Outcome) (new : Answering) :
    Type 0 where
  pub bytes : List ℕ
  pub response : IsResponse columns_by new.0 a bytes
  pub given : bytes ≡ response_bytes columns_by new.0 a
  pub gives : GivesInto bytes old.1 outcome new.1
  pub trims : new.0 ≡ record old.0 { surface = trimmed_surface old.0.surface }
  pub preserves : PreservesServing columns_by old.0 new.0

-- it answers some ask that the bytes encode
abbrev pub AnswersEncoded : List ℕ → Answering → Outcome → Answering → Type 0
AnswersEncoded bytes old outcome new = (a : Ask) × (bytes ≡ ask a) × AnswersAsk a old outcome new

-- the one ask that the bytes encode is answered, unless memory was refused
pub record AnswersBytes (bytes : List ℕ) (old : Answering) (outcome : Outcome) (new : Answering) :
    Type 0 where
  pub answers : (a : Ask) → IsAsk a → bytes ≡ ask a → OrNoMemory (AnswersAsk a) old outcome new
  -- whatever the bytes are, they are refused by what is wrong with them, or encode an ask that is
  -- answered
  pub others :
      Refused (unread_as (ask_at bytes)) old outcome new ⊎
      OrNoMemory (AnswersEncoded bytes) old outcome new

-- by the surface that the handle has
abbrev pub AnswersIn : List ℕ → Option Kept × Buffer → Outcome → Option Kept × Buffer → Type 0
AnswersIn bytes (Some (Surface s), old) outcome (Some (Surface t), new) =
    AnswersBytes bytes (s, old) outcome (t, new)
AnswersIn bytes (Some (Surface s), old) outcome _ = ⊥
AnswersIn bytes (Some (Viewer f), old) outcome new =
    Refused WrongKind (Some (Viewer f), old) outcome new
AnswersIn bytes (Some (Client c), old) outcome new =
    Refused WrongKind (Some (Client c), old) outcome new
AnswersIn bytes (Some (Lines l), old) outcome new =
    Refused WrongKind (Some (Lines l), old) outcome new
AnswersIn bytes (None, old) outcome new = Refused NoHandle (None, old) outcome new

-- ---- clients

-- the number of a fault, as the header names them; bytes that are cut are none
abbrev pub fault_number : FaultKind → ℕ
fault_number faults.Version = 0
fault_number faults.Type = 1
fault_number faults.Utf8 = 2
fault_number faults.Range = 3
fault_number faults.Region = 4
fault_number faults.Measure = 6
fault_number faults.Limit = 7
fault_number faults.Truncated = 8

-- a fault as a struct, with the change that it is in
abbrev pub fields_at : ℕ → ℕ → Option ℕ → FaultFields
fields_at kind at (Some change) =
    record { kind = kind; has_change = true; at = at; change = change }
fields_at kind at None = record { kind = kind; has_change = false; at = at; change = 0 }

-- what came of the next answer as a struct
abbrev pub taken_fields : Option Taken → TakenFields
taken_fields None = record { kind = 0; at = 0 }
taken_fields (Some shows.Shown) = record { kind = 1; at = 0 }
taken_fields (Some (shows.Stale at)) = record { kind = 2; at = at }

-- what a call of a client came to, and what it wrote to the struct of a fault
abbrev pub FailsInto : ClientError → FaultFields → Outcome → FaultFields → Type 0
FailsInto (errors.Fault f) old outcome new =
    (outcome ≡ Err Unreadable) × (new ≡ fields_at (fault_number f.kind) f.at f.change)
FailsInto (errors.Size at) old outcome new =
    (outcome ≡ Err Unreadable) × (new ≡ fields_at 5 at None)
FailsInto errors.Numbers old outcome new = (outcome ≡ Err Numbers) × (new ≡ old)
FailsInto errors.Memory old outcome new = (outcome ≡ Err Memory) × (new ≡ old)

abbrev pub Reaches :
    {A : Type 0} → Result A ClientError → FaultFields → Outcome → FaultFields → Type 0
Reaches (Ok x) old outcome new = (outcome ≡ Ok tt) × (new ≡ old)
Reaches (Err error) old outcome new = FailsInto error old outcome new

-- what it wrote beside that: nothing where it failed
abbrev pub Writes : {A B : Type 0} → (A → B) → Result A ClientError → B → B → Type 0
Writes written (Ok x) old new = new ≡ written x
Writes written (Err error) old new = new ≡ old

-- bytes are fed to a client as the library's clients take them
pub record FeedsAs (piece : List ℕ) (old : ClientValue ChosenWidths)
    (result : Result ℕ ClientError) (new : ClientValue ChosenWidths) : Type 0 where
  pub feeds : Feeds columns_by old piece result new
  pub follows :
      (histories : ℕ → ℕ → FullScreen) (sent : List Given) (future : List ℕ) →
      ClientFollows columns_by histories sent old (piece ++ future) →
      ClientFollowsTo columns_by histories sent future old result new
  -- one that is fed the response to its ask shows what the source shows, and is served by it still,
  -- also after an error
  pub shows :
      (s : SourceValue ChosenWidths) → Serves columns_by s old → IsReady old →
      IsResponse columns_by s (ask_of old) piece → OnOk result (ShowsSource s new × IsReady new)
  pub serves :
      (s : SourceValue ChosenWidths) → Serves columns_by s old → IsReady old →
      IsResponse columns_by s (ask_of old) piece → Serves columns_by s new
  pub numbered : NumbersRows old.surface new.surface

-- a client, and a caller's number of answers and struct for a fault
abbrev pub Feeding : Type 0
Feeding = ClientValue ChosenWidths × (ℕ × FaultFields)

abbrev pub FeedsBytes : List ℕ → Feeding → Outcome → Feeding → Type 0
FeedsBytes piece old outcome new =
    (result : Result ℕ ClientError) × Reaches result old.1.1 outcome new.1.1 ×
    Writes (λ (n : ℕ). n) result old.1.0 new.1.0 × FeedsAs piece old.0 result new.0

-- to the client that the handle has
abbrev pub FeedsIn :
    List ℕ → Option Kept × (ℕ × FaultFields) → Outcome → Option Kept × (ℕ × FaultFields) → Type 0
FeedsIn piece = OnClientAnd (FeedsBytes piece)

-- bytes are kept by a client as the library's clients keep them
pub record KeepsAs (piece : List ℕ) (old : ClientValue ChosenWidths)
    (result : Result (Unit {0}) ClientError) (new : ClientValue ChosenWidths) : Type 0 where
  pub keeps : KeepsPiece old piece result new
  pub follows :
      (histories : ℕ → ℕ → FullScreen) (sent : List Given) (future : List ℕ) →
      ClientFollows columns_by histories sent old (piece ++ future) →
      OnOk result (ClientFollows columns_by histories sent new future)
  pub serves : KeepsSources columns_by old new

-- a client, and a caller's struct for a fault
abbrev pub Keeping : Type 0
Keeping = ClientValue ChosenWidths × FaultFields

abbrev pub KeepsBytes : List ℕ → Keeping → Outcome → Keeping → Type 0
KeepsBytes piece old outcome new =
    (result : Result (Unit {0}) ClientError) × Reaches result old.1 outcome new.1 ×
    KeepsAs piece old.0 result new.0

-- the next answer is taken as the library's clients take it
pub record TakesNextAs (old : ClientValue ChosenWidths) (result : Result (Option Taken) ClientError)
    (new : ClientValue ChosenWidths) : Type 0 where
  pub takes : TakesNext columns_by old result new
  pub follows :
      (histories : ℕ → ℕ → FullScreen) (sent : List Given) (future : List ℕ) →
      ClientFollows columns_by histories sent old future →
      FollowsNext columns_by histories sent future old result new
  -- one that has the response to its ask shows what the source shows, and is served by it still,
  -- also after an error
  pub shows :
      (s : SourceValue ChosenWidths) → Serves columns_by s old → old.stopped ≡ None →
      IsResponse columns_by s (ask_of old) old.kept →
      OnOk result ((result ≡ Ok (Some shows.Shown)) × ShowsSource s new × IsReady new)
  pub serves :
      (s : SourceValue ChosenWidths) → Serves columns_by s old → old.stopped ≡ None →
      IsResponse columns_by s (ask_of old) old.kept → Serves columns_by s new
  pub numbered : NumbersRows old.surface new.surface

-- a client, and a caller's structs for what came of an answer and for a fault
abbrev pub Taking : Type 0
Taking = ClientValue ChosenWidths × (TakenFields × FaultFields)

abbrev pub TakesNextInto : Taking → Outcome → Taking → Type 0
TakesNextInto old outcome new =
    (result : Result (Option Taken) ClientError) × Reaches result old.1.1 outcome new.1.1 ×
    Writes taken_fields result old.1.0 new.1.0 × TakesNextAs old.0 result new.0

-- an ask that names no source has no number
abbrev pub named_ask : Ask → Ask
named_ask a = if a.source == 0 then record { source = 0; number = 0 } else a

-- this ask is given
abbrev pub GivesOne : Ask → Buffer → Outcome → Buffer → Type 0
GivesOne a old outcome new = IsAsk a × GivesInto (ask a) old outcome new

-- an ask is given, of which the number has a source
pub record MakesAsk (a : Ask) (old : Buffer) (outcome : Outcome) (new : Buffer) : Type 0 where
  pub refused : a.source ≡ 0 → 0 < a.number → Refused Range old outcome new
  pub given : (a.source ≡ 0 → a.number ≡ 0) → OrNoMemory (GivesOne a) old outcome new

-- the call returned the two numbers of the one ask that the bytes encode, or they are none
abbrev pub ReadsAsk : List ℕ → ℕ × ℕ → Outcome → ℕ × ℕ → Type 0
ReadsAsk bytes old (Ok _) (s, n) = IsOnlyAsk bytes (Ok (record { source = s; number = n }))
ReadsAsk bytes old (Err failure) new = IsOnlyAsk bytes (Err failure) × (new ≡ old)

-- what the client asks by is given
abbrev pub GivesAsk : Option Kept → Buffer → Outcome → Buffer → Type 0
GivesAsk (Some (Client c)) = OrNoMemory (GivesOne (named_ask (ask_of c)))
GivesAsk (Some (Surface s)) = Refused WrongKind
GivesAsk (Some (Viewer f)) = Refused WrongKind
GivesAsk (Some (Lines l)) = Refused WrongKind
GivesAsk None = Refused NoHandle

-- the client is ready for the bytes of a new stream, and shows what it showed
pub record Resets (old : ClientValue ChosenWidths) (outcome : Outcome)
    (new : ClientValue ChosenWidths) : Type 0 where
  pub done : outcome ≡ Ok tt
  pub resets : new ≡ record old { kept = []; stopped = None }
  pub ready : IsReady new
  pub serves : KeepsSources columns_by old new

-- ---- a surface and a client, by their handles

-- the surface serves the client
abbrev pub ServesIn : Option Kept → Option Kept → Type 0
ServesIn (Some (Surface s)) (Some (Client c)) = Serves columns_by s c
ServesIn _ _ = ⊥

-- the client shows all that the surface keeps
abbrev pub ShowsIn : Option Kept → Option Kept → Type 0
ShowsIn (Some (Surface s)) (Some (Client c)) = ShowsSource s c
ShowsIn _ _ = ⊥

-- the surface shows what it showed, and anything else is as it was
abbrev pub ShowsAsBefore : Option Kept → Option Kept → Type 0
ShowsAsBefore (Some (Surface s)) (Some (Surface t)) = full_of t.surface ≡ full_of s.surface
ShowsAsBefore (Some (Surface s)) _ = ⊥
ShowsAsBefore (Some (Viewer f)) new = new ≡ Some (Viewer f)
ShowsAsBefore (Some (Client c)) new = new ≡ Some (Client c)
ShowsAsBefore (Some (Lines l)) new = new ≡ Some (Lines l)
ShowsAsBefore None new = new ≡ None

-- these are the bytes of an answer of the surface to what the client asks by
abbrev pub RespondsIn : Option Kept → Option Kept → List ℕ → Type 0
RespondsIn (Some (Surface s)) (Some (Client c)) bytes = IsResponse columns_by s (ask_of c) bytes
RespondsIn _ _ bytes = ⊥

-- the surface's answer to the client has more bytes than these
pub record IsLonger (surface client : Option Kept) (room : ℕ) : Type 0 where
  pub bytes : List ℕ
  pub response : RespondsIn surface client bytes
  pub longer : room < length bytes

-- what may come of bringing an answer to a client by a buffer of `room` bytes: it is taken, memory
-- is refused, the client doesn't take it or has no more numbers for it, or it is longer than the
-- buffer
abbrev pub MayCarry : Option Kept → Option Kept → ℕ → Outcome → Type 0
MayCarry surface client room (Ok u) = Unit {0}
MayCarry surface client room (Err Memory) = Unit {0}
MayCarry surface client room (Err Unreadable) = Unit {0}
MayCarry surface client room (Err Numbers) = Unit {0}
MayCarry surface client room (Err Short) = IsLonger surface client room
MayCarry surface client room (Err _) = ⊥
