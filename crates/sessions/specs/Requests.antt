-- What comes on the input of a run that answers asks, and which lines say it.
use Rattle.std.specs.Bool.{⊤}
use Rattle.std.specs.Io.{StartsWith}
use Rattle.std.specs.Prelude.{◌≡◌, ℕ, true, false, List, ◌∷◌, ◌++◌, codes, Option, Some, None}
use Rattle.sessions.specs.Lines.{is_skipped}
use Rattle.sessions.specs.Number.{value_of}
use Rattle.termwiz_wire.specs.declared.sent.Ask.{Ask}
use Rattle.sessions.specs.Saying.{SaysSend}
use Rattle.sessions.specs.Sending.{IsSendInRange}
use Rattle.sessions.specs.Words.{IsWholeNumber}
use Rattle.sessions.specs.declared.send.runs.Request.{Request}
use Rattle.sessions.specs.declared.send.runs.Request.TheVariants as request

abbrev pub IsRequestInRange : Request → Type 0
IsRequestInRange (request.Event e) = IsSendInRange e
IsRequestInRange (request.Ask _) = ⊤

-- the words are a source and a number, parted by one space
pub record AreAskWords (words : List ℕ) (ask : Ask) : Type 0 where
  pub source : List ℕ
  pub number : List ℕ
  pub parted : words ≡ source ++ 32 ∷ number
  pub is_source : IsWholeNumber source
  pub is_number : IsWholeNumber number
  pub source_is : ask.source ≡ value_of source
  pub number_is : ask.number ≡ value_of number

-- a line asks exactly where it is `ask` and these words, and any other is an event's
abbrev pub SaysRequest : List ℕ → Request → Type 0
SaysRequest line (request.Event e) = (StartsWith line (codes "ask ") → ⊥) × SaysSend line e
SaysRequest line (request.Ask ask) =
    (words : List ℕ) × (line ≡ codes "ask " ++ words) × AreAskWords words ask

-- the request that a line says, if it says one
abbrev pub MaySay : List ℕ → Option Request → Type 0
MaySay line None = is_skipped line ≡ true
MaySay line (Some request) = (is_skipped line ≡ false) × SaysRequest line request
