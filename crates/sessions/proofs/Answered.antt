-- What is answered of the lines of an input, so far and to its end.
use Rattle.std.proofs.Common.{◌≡◌, ℕ, ◌<◌, ◌∙◌, true, false, List, [], ◌∷◌, ◌++◌, length, inl, inr, refl, sym, ap, subst, append_assoc, append-nil}
use Rattle.std.specs.Prelude.{Option, None, Some, Result, Ok, Err, IfOk, IfSome, is_ok, MatchResult, Vec}
use Rattle.std.specs.declared.alloc.Global.{Global}
use Rattle.std.specs.Io.KnownBytes.{Appends, IsAtEnd}
use Rattle.std.specs.Io.BufRead.{drop_through, first_piece, DropsThrough}
use Rattle.std.proofs.KnownBytes.{Appends-nil, Appends-trans}
use Rattle.std.proofs.lemmas.Bool.{true≢false}
use Rattle.std.proofs.lemmas.List.Concat.{flat_map-append}
use Rattle.sessions.specs.Lines.{LineSays, Say, LastLine, SayFirst, NoMore}
use Rattle.sessions.specs.Answering.{AnswersRequest, AnswersAll, AnswersFirst, DoesLine, Ended, Next, SendsLine, WritesAnswers}
use Rattle.sessions.specs.Requests.{MaySay, SaysRequest}
use Rattle.sessions.specs.Sending.{Sender, bytes_sent, first_source, stream_sent}
use Rattle.sessions.specs.declared.send.runs.Request.{Request}
use Rattle.sessions.specs.declared.send.runs.SendOutcome.{SendOutcome}
use Rattle.sessions.specs.Writing.{AppendsSome}
use Rattle.sessions.proofs.Lines.{line_says, line_says_first}
use Rattle.sessions.proofs.Writing.{some_all, some_next}

abbrev pub Known : Type 0
Known = Option (List ℕ)

-- the lines of known bytes say these requests
abbrev pub SayAll : Known → List Request → Type 0
SayAll known requests = IfSome known (λ lines. Say SaysRequest lines requests)

-- a line came off these bytes, which leaves those
pub record HasCome (line : List ℕ) (old new : Known) : Type 0 where
  pub front : IfSome old (λ xs. (0 < length xs) × (line ≡ first_piece 10 xs))
  pub left : DropsThrough old new 10

-- the next piece was read
pub has_come : {E : Type 0} (byte : ℕ) (piece : Result (Vec ℕ Global) E) (line : Vec ℕ Global) (old new : Known) → byte ≡ 10 → piece ≡ Ok line
    → IfOk piece (λ x. IfSome old (λ xs. (0 < length xs) × (x.items ≡ first_piece byte xs)) × DropsThrough old new byte) → HasCome line.items old new
has_come {E} byte piece line old new newline is fact =
    let P : Result (Vec ℕ Global) E → ℕ → Type 0 = λ r b. IfOk r (λ x. IfSome old (λ xs. (0 < length xs) × (x.items ≡ first_piece b xs)) × DropsThrough old new b) in
    let both = subst (λ (r : Result (Vec ℕ Global) E). P r 10) is (subst (λ (b : ℕ). P piece b) newline fact) in
    record { front = both.0; left = both.1 }

-- a piece that was read without an error
pub is_read : {X E D : Type 0} (Q : E → Type 0) (piece : Result X E) (result : Result X D) (line : X) → MatchResult piece (λ x. result ≡ Ok x) Q → is_ok result ≡ is_ok piece → result ≡ Ok line → piece ≡ Ok line
is_read {X} Q (Ok x) result line is variant was =
    let both = sym is ∙ was in
    let same : x ≡ line = cc in
    ap (λ (y : X). Ok y) same
is_read {X} {E} {D} Q (Err e) result line is variant was = absurd (true≢false (sym (ap (λ (r : Result X D). is_ok r) was) ∙ variant))

says_more : (line : List ℕ) (old new : Known) (requests more : List Request) → HasCome line old new → LineSays SaysRequest line requests → SayAll new more → SayAll old (requests ++ more)
says_more line None new requests more come said later = tt
says_more line (Some xs) new requests more come said later =
    line_says SaysRequest xs requests more
    (subst (λ (l : List ℕ). LineSays SaysRequest l requests) come.front.1 said)
    (subst (λ (known : Known). SayAll known more) come.left later)

says_none : (known : Known) → IsAtEnd known → SayAll known []
says_none None end = tt
says_none (Some xs) end = subst (λ (lines : List ℕ). Say SaysRequest lines []) (sym end) (LastLine [] [] refl (inl (refl, refl)))

-- some lines at the front of known bytes say these requests
abbrev SayFirstAll : Known → List Request → Type 0
SayFirstAll known requests = IfSome known (λ lines. SayFirst SaysRequest lines requests)

says_first_more : (line : List ℕ) (old new : Known) (requests more : List Request) → HasCome line old new → LineSays SaysRequest line requests → SayFirstAll new more → SayFirstAll old (requests ++ more)
says_first_more line None new requests more come said later = tt
says_first_more line (Some xs) new requests more come said later =
    line_says_first SaysRequest xs requests more
    (subst (λ (l : List ℕ). LineSays SaysRequest l requests) come.front.1 said)
    (subst (λ (known : Known). SayFirstAll known more) come.left later)

says_first_none : (known : Known) → SayFirstAll known []
says_first_none None = tt
says_first_none (Some xs) = NoMore xs

-- what a line asks for is done
pub line_done : (line : List ℕ) (s t : Sender) (n k : ℕ) (request : Request) (outcome : SendOutcome) (holds : List ℕ → Type 0) → MaySay line (Some request) → AnswersRequest s n request outcome t k → holds (bytes_sent outcome) → SendsLine line s n t k holds
line_done line s t n k request outcome holds says answers written = record {
  outcomes = outcome ∷ [];
  does = (says.0, (request, says.1, answers));
  written = subst holds (sym (append-nil (bytes_sent outcome))) written;
}

module _ (source w h : ℕ) (input : Known) where
  -- the lines so far are done, with these outcomes, and any run goes on with the others
  pub record IsDone (outcomes : List SendOutcome) (rest : Known) (s : Sender) (n : ℕ) : Type 0 where
    pub requests : List Request
    pub said : (more : List Request) → SayAll rest more → SayAll input (requests ++ more)
    pub said_first : (more : List Request) → SayFirstAll rest more → SayFirstAll input (requests ++ more)
    pub answered : (more : List Request) (later : List SendOutcome) → AnswersAll s n more later → AnswersAll (first_source source w h) 0 (requests ++ more) (outcomes ++ later)

  -- a line more is done, which may send something
  done_on : (outcomes : List SendOutcome) (rest left : Known) (line : List ℕ) (s t : Sender) (n k : ℕ) (sent : List SendOutcome) → IsDone outcomes rest s n → HasCome line rest left → DoesLine line s n sent t k → IsDone (outcomes ++ sent) left t k
  done_on outcomes rest left line s t n k [] run come does =
      subst (λ (all : List SendOutcome). IsDone all left t k) (sym (append-nil outcomes)) (record {
        requests = run.requests;
        said = λ more later. run.said more (says_more line rest left [] more come (inl (does.0, refl)) later);
        said_first = λ more later. run.said_first more (says_first_more line rest left [] more come (inl (does.0, refl)) later);
        answered = λ more later on.
            let P : Sender → Type 0 = λ u. AnswersAll u k more later in
            let Q : ℕ → Type 0 = λ j. AnswersAll s j more later in
            run.answered more later (subst Q does.2 (subst P does.1 on));
      })
  done_on outcomes rest left line s t n k (outcome ∷ []) run come does =
      let (some, (request, says, answers)) = does in
      record {
        requests = run.requests ++ request ∷ [];
        said = λ more later.
            subst (λ (all : List Request). SayAll input all) (sym (append_assoc run.requests (request ∷ []) more))
            (run.said (request ∷ more) (says_more line rest left (request ∷ []) more come (inr (some, (request, says, refl))) later));
        said_first = λ more later.
            subst (λ (all : List Request). SayFirstAll input all) (sym (append_assoc run.requests (request ∷ []) more))
            (run.said_first (request ∷ more) (says_first_more line rest left (request ∷ []) more come (inr (some, (request, says, refl))) later));
        answered = λ more later on.
            rw (append_assoc run.requests (request ∷ []) more, append_assoc outcomes (outcome ∷ []) later)
            (run.answered (request ∷ more) (outcome ∷ later) (Next s t n k request outcome more later answers on));
      }
  done_on outcomes rest left line s t n k (outcome ∷ other ∷ more) run come does = absurd does

  -- nothing comes after them
  all_answered : (outcomes : List SendOutcome) (rest : Known) (s : Sender) (n : ℕ) (run : IsDone outcomes rest s n) → AnswersAll (first_source source w h) 0 run.requests outcomes
  all_answered outcomes rest s n run =
      let P : List Request → Type 0 = λ all. AnswersAll (first_source source w h) 0 all outcomes in
      let Q : List SendOutcome → Type 0 = λ all. AnswersAll (first_source source w h) 0 (run.requests ++ []) all in
      subst P (append-nil run.requests) (subst Q (append-nil outcomes) (run.answered [] [] (Ended s n)))

  done_first : (outcomes : List SendOutcome) (rest : Known) (s : Sender) (n : ℕ) (P : List ℕ → Type 0) → IsDone outcomes rest s n → P (stream_sent outcomes) → AnswersFirst source w h input P
  done_first outcomes rest s n P run written = record {
    requests = run.requests;
    said = subst (λ (all : List Request). SayFirstAll input all) (append-nil run.requests) (run.said_first [] (says_first_none rest));
    outcomes = outcomes;
    answered = all_answered outcomes rest s n run;
    written = written;
  }

  -- no line is done yet
  pub none_first : (P : List ℕ → Type 0) → P [] → AnswersFirst source w h input P
  none_first P written = record {
    requests = [];
    said = says_first_none input;
    outcomes = [];
    answered = Ended (first_source source w h) 0;
    written = written;
  }

  module _ (old : Known) where
    -- and what they send is written
    pub record IsSoFar (rest : Known) (s : Sender) (n : ℕ) (new : Known) : Type 0 where
      pub outcomes : List SendOutcome
      pub done : IsDone outcomes rest s n
      pub written : Appends old new (stream_sent outcomes)

    pub so_far_first : (s : Sender) (n : ℕ) → s ≡ first_source source w h → n ≡ 0 → IsSoFar input s n old
    so_far_first s n is none =
        let P : Sender → Type 0 = λ t. IsSoFar input t n old in
        let Q : ℕ → Type 0 = λ k. IsSoFar input (first_source source w h) k old in
        subst P (sym is) (subst Q (sym none) (record {
          outcomes = [];
          done = record { requests = []; said = λ more later. later; said_first = λ more later. later; answered = λ more later run. run };
          written = Appends-nil old;
        }))

    module _ (rest left : Known) (line : List ℕ) (s t : Sender) (n k : ℕ) (new newer : Known) (run : IsSoFar rest s n new) (come : HasCome line rest left) where
      -- a line is done, and what it sends is written
      pub so_far_on : SendsLine line s n t k (Appends new newer) → IsSoFar left t k newer
      so_far_on sends = record {
        outcomes = run.outcomes ++ sends.outcomes;
        done = done_on run.outcomes rest left line s t n k sends.outcomes run.done come sends.does;
        written =
            subst (λ (bytes : List ℕ). Appends old newer bytes) (sym (flat_map-append bytes_sent run.outcomes sends.outcomes))
            (Appends-trans old new newer (stream_sent run.outcomes) (stream_sent sends.outcomes) run.written sends.written);
      }

      -- or a beginning of that
      pub so_far_cut : SendsLine line s n t k (AppendsSome new newer) → AnswersFirst source w h input (AppendsSome old newer)
      so_far_cut sends =
          done_first (run.outcomes ++ sends.outcomes) left t k (AppendsSome old newer) (done_on run.outcomes rest left line s t n k sends.outcomes run.done come sends.does)
          (subst (λ (bytes : List ℕ). AppendsSome old newer bytes) (sym (flat_map-append bytes_sent run.outcomes sends.outcomes))
          (some_next old new newer (stream_sent run.outcomes) (stream_sent sends.outcomes) run.written sends.written))

    module _ (rest : Known) (s : Sender) (n : ℕ) (new : Known) (run : IsSoFar rest s n new) where
      -- no line is left
      pub so_far_ended : IsAtEnd rest → WritesAnswers source w h input old new
      so_far_ended end = record {
        requests = run.done.requests;
        said = subst (λ (all : List Request). SayAll input all) (append-nil run.done.requests) (run.done.said [] (says_none rest end));
        outcomes = run.outcomes;
        answered = all_answered run.outcomes rest s n run.done;
        written = run.written;
      }

      -- the next one isn't done
      pub so_far_whole : AnswersFirst source w h input (Appends old new)
      so_far_whole = done_first run.outcomes rest s n (Appends old new) run.done run.written

      pub so_far_begun : AnswersFirst source w h input (AppendsSome old new)
      so_far_begun = done_first run.outcomes rest s n (AppendsSome old new) run.done (some_all old new (stream_sent run.outcomes) run.written)
