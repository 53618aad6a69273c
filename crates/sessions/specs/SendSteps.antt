-- What one event makes of what is sent.
use Rattle.std.specs.Prelude.{◌≡◌, ℕ, List, ◌∷◌, ◌++◌}
use Rattle.termwiz_cell.specs.declared.emoji.UnicodeWidths.{UnicodeWidths}
use Rattle.termwiz_share.specs.Client.{ClientValue, Shown, shown_by}
use Rattle.termwiz_share.specs.Histories.{Given}
use Rattle.termwiz_share.specs.Serving.{Serves}
use Rattle.sessions.specs.Frames.{TakesFrames}
use Rattle.sessions.specs.Sending.{Sender, Sends, unicode_measure}
use Rattle.sessions.specs.declared.send.runs.SendEvent.{SendEvent}
use Rattle.sessions.specs.declared.send.runs.SendOutcome.{SendOutcome}

-- a client that the source serves shows v, which has the number n of the source
pub record HasNamed (s : Sender) (n : ℕ) (v : Shown) : Type 0 where
  pub client : ClientValue UnicodeWidths
  pub shows : shown_by client ≡ v
  pub serves : Serves unicode_measure s client
  pub number : v.number ≡ n
  pub own : (n ≡ 0 → ⊥) → v.source ≡ s.number

-- from s and n over an event to t and k: a client that shows v takes what is sent then, and any run
-- goes on from there
pub record SendsOn (s : Sender) (n : ℕ) (v : Shown) (e : SendEvent) (outcome : SendOutcome)
    (t : Sender) (k : ℕ) : Type 0 where
  pub given : List Given
  pub next : Shown
  pub named : HasNamed t k next
  pub leads : (frames : List Given) → TakesFrames next frames → TakesFrames v (given ++ frames)
  pub sends :
      (events : List SendEvent) (outcomes : List SendOutcome) (frames : List Given) →
      Sends t k events outcomes frames →
      Sends s n (e ∷ events) (outcome ∷ outcomes) (given ++ frames)
