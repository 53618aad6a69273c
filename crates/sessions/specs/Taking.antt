-- What one call makes of a stream.
use Rattle.std.specs.Bool.{⊤}
use Rattle.std.specs.Prelude.{◌≡◌, ℕ, false, if◌then◌else◌, List, [], Option, Some, None, Result, Ok, Err}
use Rattle.std.specs.Io.KnownBytes.{prepend_known}
use Rattle.termwiz_cell.specs.Width.{unicode_columns}
use Rattle.termwiz_cell.specs.declared.emoji.UnicodeWidths.{UnicodeWidths}
use Rattle.termwiz_share.specs.Client.{ClientValue, Shown, fits, has_other_size, shown_after, stale_place}
use Rattle.termwiz_share.specs.declared.error.ClientError.{ClientError}
use Rattle.termwiz_share.specs.declared.error.ClientError.TheVariants as errors
use Rattle.termwiz_share.specs.declared.taken.Taken.{Taken}
use Rattle.termwiz_share.specs.declared.taken.Taken.TheVariants as outcomes
use Rattle.termwiz_wire.specs.Answers.{answer_at}
use Rattle.termwiz_wire.specs.declared.fault.Limits.{Limits}
use Rattle.termwiz_wire.specs.declared.sent.SentAnswer.{SentAnswer}
use Rattle.sessions.specs.Watching.{TakesNone}
use Rattle.sessions.specs.declared.ending.SessionError.TheVariants.{Memory}
use Rattle.sessions.specs.declared.watch.stream.StreamError.{StreamError}
use Rattle.sessions.specs.declared.watch.stream.StreamError.TheVariants.{Answer, Session}

-- all the bytes that a client has still to take, where those to be read are known
abbrev pub coming : ClientValue UnicodeWidths → Option (List ℕ) → Option (List ℕ)
coming c remaining = prepend_known c.kept remaining

-- what comes of an answer that is taken
abbrev pub taken_as : Shown → SentAnswer → Taken
taken_as s a = if fits s a then outcomes.Shown else outcomes.Stale (stale_place s a)

-- how a stream ends where a client fails
abbrev pub of_client : ClientError → StreamError
of_client (errors.Fault fault) = Answer (errors.Fault fault)
of_client (errors.Size at) = Answer (errors.Size at)
of_client errors.Numbers = Session Memory
of_client errors.Memory = Session Memory

-- the session ends, and nothing is wrong with the bytes
abbrev pub IsSession : StreamError → Type 0
IsSession (Answer e) = ⊥
IsSession (Session error) = ⊤

-- the bytes begin with an answer that a client that shows s takes so, and it shows u then
pub record TakesAnswer (limits : Limits) (s : Shown) (bytes : List ℕ) (t : Taken) (u : Shown)
    (left : List ℕ) : Type 0 where
  pub sent : SentAnswer
  pub decoded : answer_at unicode_columns limits bytes ≡ Ok (sent, left)
  pub size : has_other_size s sent ≡ false
  pub outcome : t ≡ taken_as s sent
  pub shows : u ≡ shown_after unicode_columns s sent

-- of all the bytes that come the next answer is taken, or there is none, or it isn't taken
abbrev pub TakesComing :
    Limits → Shown → List ℕ → Result (Option Taken) StreamError → Shown → Option (List ℕ) → Type 0
TakesComing limits s bytes (Ok (Some t)) u coming =
    (left : List ℕ) × (coming ≡ Some left) × TakesAnswer limits s bytes t u left
TakesComing limits s bytes (Ok None) u coming = (bytes ≡ []) × (u ≡ s)
TakesComing limits s bytes (Err (Answer e)) u coming =
    (bytes ≡ [] → ⊥) × TakesNone limits s bytes e × (u ≡ s)
TakesComing limits s bytes (Err (Session error)) u coming = ⊤
