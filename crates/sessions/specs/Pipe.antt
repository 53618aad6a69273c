-- What is shown of the stream that is sent.
use Rattle.std.specs.List.{All}
use Rattle.std.specs.Prelude.{ℕ, Bool, List}
use Rattle.termwiz_wire.specs.declared.fault.Limits.{Limits}
use Rattle.termwiz_share.specs.Histories.{Given}
use Rattle.sessions.specs.Frames.{IsWithinFrames}
use Rattle.sessions.specs.Sending.{AreSent}
use Rattle.sessions.specs.Watching.{ShowsFrames}
use Rattle.sessions.specs.declared.send.runs.SendEvent.{SendEvent}
use Rattle.sessions.specs.declared.send.runs.SendOutcome.{SendOutcome}
use Rattle.sessions.specs.declared.watch.runs.Watched.{Watched}

-- each answer that the events may send is shown by the number and the full screen that the source
-- had then, where each is within the limits
pub record IsPiped (limits : Limits) (source w h : ℕ) (events : List SendEvent) (each : Bool)
    (shown : Watched) : Type 0 where
  pub outcomes : List SendOutcome
  pub frames : List Given
  pub sent : AreSent source w h events outcomes frames
  pub shows : All (IsWithinFrames limits) frames → ShowsFrames each frames shown
