-- Which lines of a script send an answer.
use Rattle.std.specs.Prelude.{◌≡◌, ℕ, List, codes}
use Rattle.sessions.specs.declared.send.runs.SendEvent.{SendEvent}
use Rattle.sessions.specs.declared.send.runs.SendEvent.TheVariants.{Send}

-- a line says to send exactly where it is `send`
pub record SaysSend (line : List ℕ) (event : SendEvent) : Type 0 where
  pub sends : line ≡ codes "send" → event ≡ Send
  pub alone : event ≡ Send → line ≡ codes "send"
