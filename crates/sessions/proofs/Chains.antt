-- What is shown of a chain: the screen of each frame.
use Rattle.std.proofs.Common.{◌≡◌, ℕ, ◌+◌, ◌<◌, ◌∙◌, Bool, true, false, List, [], ◌∷◌, ◌++◌, length, map, refl, sym, ap, subst, append-nil, arith}
use Rattle.std.specs.List.{All}
use Rattle.std.specs.Prelude.{Option, None, Some, Result, Ok, Err, if◌then◌else◌}
use Rattle.std.proofs.lemmas.Bool.{true≢false}
use Rattle.std.proofs.lemmas.List.{length-append}
use Rattle.std.proofs.lemmas.List.Elements.{All-head, All-tail}
use Rattle.termwiz_cell.specs.Width.{unicode_columns}
use Rattle.termwiz_share.specs.Client.{Shown, has_other_size, shown_after}
use Rattle.termwiz_share.specs.Feeding.{TakesAll}
use Rattle.termwiz_share.specs.Histories.{Given, stream}
use Rattle.termwiz_share.specs.declared.error.ClientError.{ClientError}
use Rattle.termwiz_share.specs.declared.error.ClientError.TheVariants as errors
use Rattle.termwiz_share.proofs.Streams.{ok_is, ok_or_err}
use Rattle.termwiz_share.proofs.Taking.{some_bytes}
use Rattle.termwiz_wire.specs.Answers.{answer_at}
use Rattle.termwiz_wire.specs.Sent.{answer}
use Rattle.termwiz_wire.specs.MoreBytes.{Laws}
use Rattle.termwiz_wire.specs.declared.fault.Limits.{Limits}
use Rattle.termwiz_wire.specs.declared.sent.SentAnswer.{SentAnswer}
use Rattle.termwiz_wire.proofs.PastLimits.{laws}
use Rattle.sessions.specs.Frames.{IsChain, IsWithinFrames, TakesFrame, TakesFrames, first_shown, shown_with}
use Rattle.sessions.specs.Watching.{EndsAt, IsWatched, ShowsFrames, TakesNone, kept, shown_each, shown_one, stale_each, stale_one}
use Rattle.sessions.specs.declared.watch.runs.Watched.{Watched}

-- an answer has some bytes
answer-some : (a : SentAnswer) (rest : List ℕ) → answer unicode_columns a ++ rest ≡ [] → ⊥
answer-some a rest none = omega (arith, ap length none, length-append (answer unicode_columns a) rest, some_bytes unicode_columns a)

-- what is shown and stale of answers, the first of which a client that shows s takes
module _ (s : Shown) (f : Given) (takes : TakesFrame s f) where
  one_shown : shown_one s f.sent ≡ shown_with f ∷ []
  one_shown = ap (λ (b : Bool). if b then shown_after unicode_columns s f.sent ∷ [] else []) takes.fresh ∙ ap (λ (v : Shown). v ∷ []) takes.leads

  none_stale : (n : ℕ) → stale_one n s f.sent ≡ []
  none_stale n = rw takes.fresh refl

module _ (limits : Limits) (some : 0 < limits.bytes) where
  law : Laws unicode_columns limits
  law = laws unicode_columns limits some

  -- an answer of a chain is decoded
  decoded : (f : Given) (s : Shown) (bytes rest : List ℕ) → TakesFrame s f → IsWithinFrames limits f → bytes ≡ answer unicode_columns f.sent ++ rest → answer_at unicode_columns limits bytes ≡ Ok (f.sent, rest)
  decoded f s bytes rest takes within is = ap (answer_at unicode_columns limits) is ∙ law.again f.sent rest takes.form (record { screen = within.screen; bytes = within.bytes; borne = takes.borne })

  -- nothing is, from no bytes
  none_read : (a : SentAnswer) (rest bytes : List ℕ) → bytes ≡ [] → answer_at unicode_columns limits bytes ≡ Ok (a, rest) → ⊥
  none_read a rest bytes none is = ok_or_err (a, rest) law.goes.first (answer_at unicode_columns limits []) (ap (answer_at unicode_columns limits) (sym none) ∙ is) law.goes.starts

  -- it ends without a fault where nothing is left
  ended_whole : (s : Shown) (rest : List ℕ) (n : ℕ) (fault : Option (ℕ × ClientError)) → rest ≡ [] → EndsAt limits s rest n fault → fault ≡ None
  ended_whole s rest n None none ends = refl
  ended_whole s rest n (Some fault) none ends = absurd (ends.0 none)

  no_fault : (s : Shown) (f : Given) (bytes rest : List ℕ) (why : ClientError) → TakesFrame s f → answer_at unicode_columns limits bytes ≡ Ok (f.sent, rest) → TakesNone limits s bytes why → ⊥
  no_fault s f bytes rest (errors.Fault fault) takes is fails = ok_or_err (f.sent, rest) fault (answer_at unicode_columns limits bytes) is fails
  no_fault s f bytes rest (errors.Size at) takes is fails =
      let same : ◌≡◌ {A = SentAnswer × List ℕ} (fails.0, fails.1) (f.sent, rest) = ok_is (fails.0, fails.1) (f.sent, rest) (answer_at unicode_columns limits bytes) fails.2 is in
      true≢false (sym fails.3 ∙ ap (λ (p : SentAnswer × List ℕ). has_other_size s p.0) same ∙ takes.size)
  no_fault s f bytes rest errors.Numbers takes is fails = fails
  no_fault s f bytes rest errors.Memory takes is fails = fails

  -- it doesn't end where an answer of the chain is left
  ended_not : (s : Shown) (f : Given) (bytes rest : List ℕ) (n : ℕ) (fault : Option (ℕ × ClientError)) → TakesFrame s f → IsWithinFrames limits f → bytes ≡ answer unicode_columns f.sent ++ rest → EndsAt limits s bytes n fault → ⊥
  ended_not s f bytes rest n None takes within is ends = answer-some f.sent rest (sym is ∙ ends)
  ended_not s f bytes rest n (Some fault) takes within is ends = no_fault s f bytes rest fault.1 takes (decoded f s bytes rest takes within is) ends.2

  -- what is shown of a chain
  record ShowsEach (frames : List Given) (n : ℕ) (s : Shown) (given : List SentAnswer) (fault : Option (ℕ × ClientError)) : Type 0 where
    shown : shown_each s given ≡ map shown_with frames
    stale : stale_each n s given ≡ []
    no_fault : fault ≡ None

  shows_each : (frames : List Given) (n : ℕ) (s t : Shown) (bytes rest : List ℕ) (given : List SentAnswer) (count : ℕ) (fault : Option (ℕ × ClientError)) → TakesFrames s frames → All (IsWithinFrames limits) frames → bytes ≡ stream unicode_columns frames
      → TakesAll unicode_columns limits s bytes given t rest → EndsAt limits t rest count fault → ShowsEach frames n s given fault
  shows_each [] n s t bytes rest [] count fault chain within is takes ends = record { shown = refl; stale = refl; no_fault = ended_whole t rest count fault (sym takes.0 ∙ is) ends }
  shows_each [] n s t bytes rest (a ∷ given) count fault chain within is takes ends = absurd (none_read a takes.0 bytes is takes.1)
  shows_each (f ∷ frames) n s t bytes rest [] count fault chain within is takes ends =
      absurd (ended_not s f bytes (stream unicode_columns frames) count fault chain.0 (All-head (IsWithinFrames limits) f frames within) is (subst (λ (v : Shown). EndsAt limits v bytes count fault) takes.1 (subst (λ (b : List ℕ). EndsAt limits t b count fault) (sym takes.0) ends)))
  shows_each (f ∷ frames) n s t bytes rest (a ∷ given) count fault chain within is takes ends =
      let here : answer_at unicode_columns limits bytes ≡ Ok (f.sent, stream unicode_columns frames) = decoded f s bytes (stream unicode_columns frames) chain.0 (All-head (IsWithinFrames limits) f frames within) is in
      let same : ◌≡◌ {A = SentAnswer × List ℕ} (a, takes.0) (f.sent, stream unicode_columns frames) = ok_is (a, takes.0) (f.sent, stream unicode_columns frames) (answer_at unicode_columns limits bytes) takes.1 here in
      let one : a ≡ f.sent = ap (λ (p : SentAnswer × List ℕ). p.0) same in
      let next : shown_after unicode_columns s a ≡ shown_with f = ap (shown_after unicode_columns s) one ∙ chain.0.leads in
      let later = shows_each frames (n + 1) (shown_after unicode_columns s a) t takes.0 rest given count fault (subst (λ (v : Shown). TakesFrames v frames) (sym next) chain.1) (All-tail (IsWithinFrames limits) f frames within) (ap (λ (p : SentAnswer × List ℕ). p.1) same) takes.3 ends in
      record {
        shown = ap (λ (l : List Shown). l ++ shown_each (shown_after unicode_columns s a) given) (ap (shown_one s) one ∙ one_shown s f chain.0) ∙ ap (λ (l : List Shown). shown_with f ∷ l) later.shown;
        stale = ap (λ (l : List (ℕ × ℕ)). l ++ stale_each (n + 1) (shown_after unicode_columns s a) given) (ap (stale_one n s) one ∙ none_stale s f chain.0 n) ∙ later.stale;
        no_fault = later.no_fault;
      }

  pub shows_chain : (each : Bool) (frames : List Given) (bytes : List ℕ) (w : Watched) → IsChain frames → All (IsWithinFrames limits) frames → bytes ≡ stream unicode_columns frames → IsWatched limits bytes each w → ShowsFrames each frames w
  shows_chain each frames bytes w chain within is watched =
      let all = shows_each frames 1 first_shown watched.takes.last bytes watched.takes.rest watched.given (length watched.given) w.fault chain within is watched.takes.takes watched.takes.ends in
      record {
        views = watched.views ∙ ap (kept each) all.shown;
        unmarked = watched.unmarked;
        stale = watched.stale ∙ all.stale;
        fault = all.no_fault;
      }
