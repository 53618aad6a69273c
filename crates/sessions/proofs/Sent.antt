-- What each event makes of what is sent, and runs of events.
use Rattle.std.proofs.Common.{◌≡◌, ℕ, List, [], ◌∷◌, ◌++◌, refl, sym, ap, subst, append_assoc, append-nil}
use Rattle.std.specs.List.{All}
use Rattle.std.specs.Prelude.{Vec}
use Rattle.std.specs.declared.alloc.Global.{Global}
use Rattle.termwiz_cell.specs.Width.{unicode_columns}
use Rattle.termwiz_screen.specs.Log.{next_number}
use Rattle.termwiz_share.specs.Client.{Shown}
use Rattle.termwiz_share.specs.Histories.{Given, stream}
use Rattle.termwiz_share.specs.Serving.{KeepsClients, Serves}
use Rattle.termwiz_surface.specs.declared.view.Outcome.{Outcome}
use Rattle.sessions.specs.Frames.{TakesFrames, IsChain, first_shown, shown_with}
use Rattle.sessions.specs.SendSteps.{HasNamed, SendsOn}
use Rattle.sessions.specs.Sending.{Happens, IsAnswered, IsSendInRange, Sender, stream_sent, unicode_measure, frame_of, own_ask, Sends, Ended, Made, Answered, first_source, AreSent}
use Rattle.sessions.specs.declared.send.runs.SendEvent.{SendEvent}
use Rattle.sessions.specs.declared.send.runs.SendEvent.TheVariants.{Send}
use Rattle.sessions.specs.declared.send.runs.SendOutcome.{SendOutcome}
use Rattle.sessions.specs.declared.send.runs.SendOutcome.TheVariants.{Of, Sent}
use Rattle.sessions.proofs.Leading.{first_named, given_leads, given_named, nobody, still_named}

pub made_steps : (s t : Sender) (n : ℕ) (v : Shown) (e : SendEvent) (outcome : Outcome) → Happens s e outcome t → KeepsClients unicode_measure s t → HasNamed s n v → SendsOn s n v e (Of outcome) t n
made_steps s t n v e outcome happens keeps named = record {
  given = [];
  next = v;
  named = still_named s t n v happens.number keeps named;
  leads = λ frames l. l;
  sends = λ events outcomes frames r. Made s t n e outcome events outcomes frames happens r;
}

pub given_steps : (s t : Sender) (n : ℕ) (v : Shown) (bytes : Vec ℕ Global) → IsAnswered s (own_ask s n) bytes t → KeepsClients unicode_measure s t → HasNamed s n v → SendsOn s n v Send (Sent bytes) t (next_number t.surface.log)
given_steps s t n v bytes is keeps named =
    let same : t.number ≡ s.number = ap (λ (x : Sender). x.number) is.trims in
    let there : HasNamed t n v = still_named s t n v same keeps named in
    let frame : Given = frame_of t (own_ask s n) bytes.items is.response in
    record {
      given = frame ∷ [];
      next = shown_with frame;
      named = given_named t n v there (own_ask s n) refl bytes.items is.response;
      leads = λ frames l. (given_leads t n v there (own_ask s n) refl bytes.items is.response, l);
      sends = λ events outcomes frames r. Answered s t n bytes events outcomes frames is r;
    }

-- the bytes that were sent are those of the answers
pub stream-encoded : (s : Sender) (n : ℕ) (events : List SendEvent) (outcomes : List SendOutcome) (frames : List Given) → Sends s n events outcomes frames → stream_sent outcomes ≡ stream unicode_columns frames
stream-encoded s n events outcomes frames (Ended _ _) = refl
stream-encoded s n events outcomes frames (Made _ t _ e outcome es os fs happens r) = stream-encoded t n es os fs r
stream-encoded s n events outcomes frames (Answered _ t _ bytes es os fs is r) = λ i. is.response.encoded i ++ stream-encoded t (next_number t.surface.log) es os fs r i

-- the events that are left, after those that sent these answers
pub record HasRun (number w h : ℕ) (events : List SendEvent) (left : List SendEvent) (outcomes : List SendOutcome) (s : Sender) (n : ℕ) : Type 0 where
  pub frames : List Given
  pub viewing : Shown
  pub in_range : All IsSendInRange left
  pub named : HasNamed s n viewing
  pub leads : (more : List Given) → TakesFrames viewing more → TakesFrames first_shown (frames ++ more)
  pub sends : (later : List SendOutcome) (more : List Given) → Sends s n left later more → Sends (first_source number w h) 0 events (outcomes ++ later) (frames ++ more)

pub first_run : (number w h : ℕ) (events : List SendEvent) (s : Sender) (n : ℕ) → s ≡ first_source number w h → n ≡ 0 → Serves unicode_measure s nobody → All IsSendInRange events → HasRun number w h events events [] s n
first_run number w h events s n is none serves in_range =
    let P : Sender → Type 0 = λ t. HasRun number w h events events [] t n in
    let Q : ℕ → Type 0 = λ k. HasRun number w h events events [] (first_source number w h) k in
    subst P (sym is) (subst Q (sym none) (record {
      frames = [];
      viewing = first_shown;
      in_range = in_range;
      named = first_named (first_source number w h) (subst (λ (t : Sender). Serves unicode_measure t nobody) is serves);
      leads = λ more l. l;
      sends = λ later more r. r;
    }))

pub next_run : (number w h : ℕ) (events left : List SendEvent) (outcomes : List SendOutcome) (s t : Sender) (n k : ℕ) (e : SendEvent) (outcome : SendOutcome) (run : HasRun number w h events (e ∷ left) outcomes s n)
    → SendsOn s n run.viewing e outcome t k → All IsSendInRange left → HasRun number w h events left (outcomes ++ outcome ∷ []) t k
next_run number w h events left outcomes s t n k e outcome run step in_range = record {
  frames = run.frames ++ step.given;
  viewing = step.next;
  in_range = in_range;
  named = step.named;
  leads = λ more l. rw (append_assoc run.frames step.given more) (run.leads (step.given ++ more) (step.leads more l));
  sends = λ later more r. rw (append_assoc run.frames step.given more, append_assoc outcomes (outcome ∷ []) later) (run.sends (outcome ∷ later) (step.given ++ more) (step.sends left later more r));
}

-- a run whose events are all done
pub ended_run : (number w h : ℕ) (events left : List SendEvent) (outcomes : List SendOutcome) (s : Sender) (n : ℕ) → left ≡ [] → HasRun number w h events left outcomes s n → (frames : List Given) × AreSent number w h events outcomes frames × IsChain frames
ended_run number w h events left outcomes s n e run =
    let P : List SendEvent → Type 0 = λ es. Sends s n es [] [] in
    let Q : List SendOutcome → Type 0 = λ os. Sends (first_source number w h) 0 events os (run.frames ++ []) in
    let R : List Given → Type 0 = λ fs. Sends (first_source number w h) 0 events outcomes fs in
    let L : List Given → Type 0 = λ fs. TakesFrames first_shown fs in (
      run.frames,
      subst R (append-nil run.frames) (subst Q (append-nil outcomes) (run.sends [] [] (subst P (sym e) (Ended s n)))),
      subst L (append-nil run.frames) (run.leads [] tt),
    )
