-- What comes of a script: the outcomes of its events on a blank surface of the size that the words
-- give, which is the source that they name.
use Rattle.std.specs.Io.KnownBytes.{Appends}
use Rattle.std.specs.Prelude.{ℕ, List, Option, IfSome, String}
use Rattle.sessions.specs.Lines.{Say}
use Rattle.termwiz_share.specs.Histories.{Given}
use Rattle.sessions.specs.Saying.{SaysSend}
use Rattle.sessions.specs.Sending.{AreSent, stream_sent}
use Rattle.sessions.specs.Words.{GiveSending}
use Rattle.sessions.specs.Writing.{AppendsSome}
use Rattle.sessions.specs.declared.send.runs.SendEvent.{SendEvent}
use Rattle.sessions.specs.declared.send.runs.SendOutcome.{SendOutcome}

-- where the script is known, each of its lines says its event
pub record IsSendRun {A : Type 0} (words : List (String A)) (script : Option (List ℕ))
    (outcomes : List SendOutcome) : Type 0 where
  pub source : ℕ
  pub width : ℕ
  pub height : ℕ
  pub sizes : GiveSending words source width height
  pub events : List SendEvent
  pub said : IfSome script (λ bytes. Say SaysSend bytes events)
  pub frames : List Given
  pub sent : AreSent source width height events outcomes frames

-- what such a run sends is written
pub record WritesRun {A : Type 0} (words : List (String A)) (script old new : Option (List ℕ)) :
    Type 0 where
  pub outcomes : List SendOutcome
  pub run : IsSendRun words script outcomes
  pub written : Appends old new (stream_sent outcomes)

-- a beginning of it is
pub record BeginsRun {A : Type 0} (words : List (String A)) (script old new : Option (List ℕ)) :
    Type 0 where
  pub outcomes : List SendOutcome
  pub run : IsSendRun words script outcomes
  pub begun : AppendsSome old new (stream_sent outcomes)
