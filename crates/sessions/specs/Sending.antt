-- What is sent of a source: what each event makes of it and of the number of the last answer that
-- was sent, and whole runs.
use Rattle.std.specs.List.{flat_map}
use Rattle.std.specs.Prelude.{◌≡◌, ℕ, true, List, [], ◌∷◌, Vec}
use Rattle.std.specs.declared.alloc.Global.{Global}
use Rattle.sessions.specs.ViewRun.{unicode}
use Rattle.termwiz_cell.specs.Width.{unicode_columns}
use Rattle.termwiz_cell.specs.declared.emoji.UnicodeWidths.{UnicodeWidths}
use Rattle.termwiz_screen.specs.Log.{next_number}
use Rattle.termwiz_share.specs.Histories.{Given}
use Rattle.termwiz_share.specs.Source.{IsResponse, SourceValue, response_bytes, sent_by, trimmed_surface}
use Rattle.termwiz_surface.specs.Schedule.{Acts}
use Rattle.termwiz_surface.specs.Schedule as schedule
use Rattle.termwiz_surface.specs.Surface.{SurfaceValue, blank_surface, full_of}
use Rattle.termwiz_surface.specs.declared.view.Event.{Event}
use Rattle.termwiz_surface.specs.declared.view.Event.TheVariants as event
use Rattle.termwiz_surface.specs.declared.view.Outcome.{Outcome}
use Rattle.termwiz_wire.specs.declared.sent.Ask.{Ask}
use Rattle.sessions.specs.declared.send.runs.SendEvent.{SendEvent}
use Rattle.sessions.specs.declared.send.runs.SendEvent.TheVariants.{Changes, Flush, Resize, Send}
use Rattle.sessions.specs.declared.send.runs.SendOutcome.{SendOutcome}
use Rattle.sessions.specs.declared.send.runs.SendOutcome.TheVariants.{Of, Sent}

-- how texts are measured
abbrev pub unicode_measure : UnicodeWidths → List ℕ → ℕ
unicode_measure widths = unicode_columns

abbrev pub Sender : Type 0
Sender = SourceValue UnicodeWidths

-- what happens to the surface itself; what is sent leaves it
abbrev pub own : SendEvent → Event UnicodeWidths
own (Changes changes) = event.Changes changes
own (Flush n) = event.Flush n
own (Resize w h) = event.Resize w h
own Send = event.Follow

-- the surface that it happens to: before changes the source forgets what no answer needs
abbrev pub surface_before : SendEvent → Sender → SurfaceValue UnicodeWidths
surface_before (Changes changes) s = trimmed_surface s.surface
surface_before _ s = s.surface

-- an event happens to the surface of the source s, which is t then
pub record Happens (s : Sender) (e : SendEvent) (outcome : Outcome) (t : Sender) : Type 0 where
  pub acts : Acts unicode_measure (surface_before e s) (own e) outcome t.surface
  pub number : t.number ≡ s.number

-- the source s gives a response of these bytes to the ask, and is t then: the delta that is due
-- where the ask's number is known and the delta is worth sending, and else the repaint
pub record IsAnswered (s : Sender) (ask : Ask) (bytes : Vec ℕ Global) (t : Sender) : Type 0 where
  pub trims : t ≡ record s { surface = trimmed_surface s.surface }
  pub given : bytes.items ≡ response_bytes unicode_measure t ask
  pub response : IsResponse unicode_measure t ask bytes.items

-- the sizes that the event names are those that a surface may have
abbrev pub IsSendInRange : SendEvent → Type 0
IsSendInRange e = schedule.IsInRange (own e)

-- the bytes that were sent
abbrev pub bytes_sent : SendOutcome → List ℕ
bytes_sent (Of outcome) = []
bytes_sent (Sent bytes) = bytes.items

abbrev pub stream_sent : List SendOutcome → List ℕ
stream_sent outcomes = flat_map bytes_sent outcomes

-- by what an answer is sent where n is the number of the last one
abbrev pub own_ask : Sender → ℕ → Ask
own_ask s n = record { source = s.number; number = n }

-- a response, and the full screen that the source has
abbrev pub frame_of :
    (s : Sender) (ask : Ask) (bytes : List ℕ) → IsResponse unicode_measure s ask bytes → Given
frame_of s ask bytes r =
    record { sent = sent_by s.number r.given; shown = full_of s.surface }

-- from this source, with n as the number of the last answer that was sent, the events may have
-- these outcomes, where these frames are sent
pub data Sends : Sender → ℕ → List SendEvent → List SendOutcome → List Given → Type 0 where
  Ended : (s : Sender) (n : ℕ) → Sends s n [] [] []
  Made :
      (s t : Sender) (n : ℕ) (e : SendEvent) (outcome : Outcome) (events : List SendEvent)
      (outcomes : List SendOutcome) (frames : List Given)
      → Happens s e outcome t → Sends t n events outcomes frames →
      Sends s n (e ∷ events) (Of outcome ∷ outcomes) frames
  Answered :
      (s t : Sender) (n : ℕ) (bytes : Vec ℕ Global) (events : List SendEvent)
      (outcomes : List SendOutcome) (frames : List Given) (is : IsAnswered s (own_ask s n) bytes t)
      → Sends t (next_number t.surface.log) events outcomes frames
      → Sends s n (Send ∷ events) (Sent bytes ∷ outcomes)
      (frame_of t (own_ask s n) bytes.items is.response ∷ frames)

-- the source of a run before its first event
abbrev pub first_source : ℕ → ℕ → ℕ → Sender
first_source number w h = record { surface = blank_surface unicode w h true; number = number }

-- the events may have these outcomes on a blank surface of this size, which is the source of this
-- number
abbrev pub AreSent : ℕ → ℕ → ℕ → List SendEvent → List SendOutcome → List Given → Type 0
AreSent number w h events outcomes frames =
    Sends (first_source number w h) 0 events outcomes frames
