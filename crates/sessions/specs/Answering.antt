-- Runs that answer asks: what comes of each request on a source, and of the lines of an input.
use Rattle.std.specs.Io.KnownBytes.{Appends}
use Rattle.std.specs.Prelude.{◌≡◌, ℕ, true, false, List, [], ◌∷◌, Option, IfSome, String}
use Rattle.sessions.specs.Lines.{Say, SayFirst, is_skipped}
use Rattle.termwiz_screen.specs.Log.{next_number}
use Rattle.sessions.specs.Requests.{SaysRequest}
use Rattle.sessions.specs.Sending.{Happens, IsAnswered, Sender, first_source, own_ask, stream_sent}
use Rattle.sessions.specs.Words.{GiveSending}
use Rattle.sessions.specs.declared.send.runs.Request.{Request}
use Rattle.sessions.specs.declared.send.runs.Request.TheVariants as request
use Rattle.sessions.specs.declared.send.runs.SendEvent.{SendEvent}
use Rattle.sessions.specs.declared.send.runs.SendEvent.TheVariants.{Send}
use Rattle.sessions.specs.declared.send.runs.SendOutcome.{SendOutcome}
use Rattle.sessions.specs.declared.send.runs.SendOutcome.TheVariants.{Of, Sent}

-- from the source s, with n as the number of the last answer that was sent, over an event to t and
-- k
abbrev pub Does : Sender → ℕ → SendEvent → SendOutcome → Sender → ℕ → Type 0
Does s n e (Of outcome) t k = Happens s e outcome t × (k ≡ n)
Does s n Send (Sent bytes) t k =
    IsAnswered s (own_ask s n) bytes t × (k ≡ next_number t.surface.log)
Does s n _ (Sent bytes) t k = ⊥

-- from s and n over a request to t and k: an answer to an ask doesn't change n
abbrev pub AnswersRequest : Sender → ℕ → Request → SendOutcome → Sender → ℕ → Type 0
AnswersRequest s n (request.Event e) outcome t k = Does s n e outcome t k
AnswersRequest s n (request.Ask ask) (Sent bytes) t k = IsAnswered s ask bytes t × (k ≡ n)
AnswersRequest s n (request.Ask ask) (Of outcome) t k = ⊥

-- what a line asks for is done, with one outcome, or none where it asks for nothing
abbrev pub DoesLine : List ℕ → Sender → ℕ → List SendOutcome → Sender → ℕ → Type 0
DoesLine line s n [] t k = (is_skipped line ≡ true) × (t ≡ s) × (k ≡ n)
DoesLine line s n (outcome ∷ []) t k =
    (is_skipped line ≡ false) ×
    ((request : Request) × SaysRequest line request × AnswersRequest s n request outcome t k)
DoesLine line s n _ t k = ⊥

-- what a line asks for is done, and this holds of the bytes that are sent
pub record SendsLine (line : List ℕ) (s : Sender) (n : ℕ) (t : Sender) (k : ℕ)
    (holds : List ℕ → Type 0) : Type 0 where
  pub outcomes : List SendOutcome
  pub does : DoesLine line s n outcomes t k
  pub written : holds (stream_sent outcomes)

-- the requests may have these outcomes in turn
pub data AnswersAll : Sender → ℕ → List Request → List SendOutcome → Type 0 where
  Ended : (s : Sender) (n : ℕ) → AnswersAll s n [] []
  Next :
      (s t : Sender) (n k : ℕ) (asked : Request) (outcome : SendOutcome) (requests : List Request)
      (outcomes : List SendOutcome)
      → AnswersRequest s n asked outcome t k → AnswersAll t k requests outcomes →
      AnswersAll s n (asked ∷ requests) (outcome ∷ outcomes)

-- what the lines of the input ask for is written, on a blank surface of this size; where the input
-- is known, each line says its request
pub record WritesAnswers (source w h : ℕ) (input old new : Option (List ℕ)) : Type 0 where
  pub requests : List Request
  pub said : IfSome input (λ lines. Say SaysRequest lines requests)
  pub outcomes : List SendOutcome
  pub answered : AnswersAll (first_source source w h) 0 requests outcomes
  pub written : Appends old new (stream_sent outcomes)

-- some lines at the front of the input are done, and this holds of the bytes that they ask for
pub record AnswersFirst (source w h : ℕ) (input : Option (List ℕ)) (holds : List ℕ → Type 0) :
    Type 0 where
  pub requests : List Request
  pub said : IfSome input (λ lines. SayFirst SaysRequest lines requests)
  pub outcomes : List SendOutcome
  pub answered : AnswersAll (first_source source w h) 0 requests outcomes
  pub written : holds (stream_sent outcomes)

-- as the words ask
pub record AnswersAsAsked {A : Type 0} (words : List (String A)) (input old new : Option (List ℕ)) :
    Type 0 where
  pub source : ℕ
  pub width : ℕ
  pub height : ℕ
  pub sizes : GiveSending words source width height
  pub writes : WritesAnswers source width height input old new

pub record AnswersFirstAsAsked {A : Type 0} (words : List (String A)) (input : Option (List ℕ))
    (holds : List ℕ → Type 0) : Type 0 where
  pub source : ℕ
  pub width : ℕ
  pub height : ℕ
  pub sizes : GiveSending words source width height
  pub writes : AnswersFirst source width height input holds
