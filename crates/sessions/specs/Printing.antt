-- What is printed of a stream.
use Rattle.std.specs.Bool.{⊤}
use Rattle.std.specs.Io.KnownBytes.{Appends}
use Rattle.std.specs.List.{flat_map}
use Rattle.std.specs.Prelude.{◌≡◌, ℕ, true, List, [], codes, if◌then◌else◌, String, Option, Some, None, Result, Ok, Err}
use Rattle.termwiz_share.specs.Client.{Shown}
use Rattle.termwiz_share.specs.declared.error.ClientError.{ClientError}
use Rattle.termwiz_share.specs.declared.taken.Taken.{Taken}
use Rattle.termwiz_share.specs.declared.taken.Taken.TheVariants as outcomes
use Rattle.termwiz_wire.specs.declared.sent.SentAnswer.{SentAnswer}
use Rattle.sessions.specs.Frames.{first_shown}
use Rattle.sessions.specs.Printed.{stale_line, viewed_lines}
use Rattle.sessions.specs.Watching.{TakesUpTo, kept, shown_each, stale_each}
use Rattle.sessions.specs.Words.{AskFor, first_options}
use Rattle.sessions.specs.declared.watch.WatchEnd.{WatchEnd}
use Rattle.sessions.specs.declared.watch.WatchEnd.TheVariants.{Fault, Session, Stale}
use Rattle.sessions.specs.declared.watch.printing.Printing.{Printing}
use Rattle.sessions.specs.declared.watch.stream.StreamError.{StreamError}
use Rattle.sessions.specs.declared.watch.stream.StreamError.TheVariants as stream
use Rattle.sessions.specs.declared.words.WatchOptions.{WatchOptions}

-- the lines of what is shown
abbrev pub shown_lines : Shown → List ℕ
shown_lines s = viewed_lines (codes "viewer") s.number s.picture.screen

-- how a session ends where the answer of this number isn't taken
abbrev pub end_by : ℕ → StreamError → WatchEnd
end_by number (stream.Answer error) = Fault number error
end_by number (stream.Session error) = Session error

-- what a session wrote to its output and to that of errors
pub record Outputs : Type 0 where
  pub out : Option (List ℕ)
  pub err : Option (List ℕ)

-- the answer of this number is taken so, and s is shown then
abbrev pub PrintsOne : Shown → ℕ → Taken → Printing → Outputs → Printing → Outputs → Type 0
PrintsOne s number outcomes.Shown p old q new =
    Appends old.out new.out (if p.each then shown_lines s else []) × (new.err ≡ old.err) ×
    (q ≡ (if p.each then p else record p { pending = true }))
PrintsOne s number (outcomes.Stale at) p old q new =
    (new.out ≡ old.out) × Appends old.err new.err (stale_line number at) ×
    (q ≡ record p { stale = true })

-- where all answers were taken
abbrev pub end_of_watch : Printing → Result (Unit {0}) WatchEnd
end_of_watch p = if p.stale then Err Stale else Ok tt

-- what is still to be printed, where s is shown
abbrev pub pending_lines : Printing → Shown → List ℕ
pending_lines p s = if p.pending then shown_lines s else []

-- it is printed, and the session ends so, unless memory or a write is refused
abbrev pub Finishes :
    Printing → Shown → Result (Unit {0}) WatchEnd → Option (List ℕ) → Result (Unit {0}) WatchEnd →
    Option (List ℕ) → Type 0
Finishes p s end old (Err (Session error)) new = ⊤
Finishes p s end old result new = (result ≡ end) × Appends old new (pending_lines p s)

-- of these bytes each answer is taken until this end. What is shown then is printed, or the last of
-- it, and those that are stale are reported
pub record PrintsUpTo (o : WatchOptions) (bytes : List ℕ) (fault : Option (ℕ × ClientError))
    (stale : List (ℕ × ℕ)) (old new : Outputs) : Type 0 where
  pub given : List SentAnswer
  pub takes : TakesUpTo o.limits bytes given fault
  pub stale_are : stale ≡ stale_each 1 first_shown given
  pub printed :
      Appends old.out new.out (flat_map shown_lines (kept o.each (shown_each first_shown given)))
  pub reported : Appends old.err new.err (flat_map (λ (s : ℕ × ℕ). stale_line s.0 s.1) stale)

-- all of them, of which some may be stale, or up to a fault; where memory, a read or a write was
-- refused nothing is said
abbrev pub Prints :
    WatchOptions → List ℕ → Result (Unit {0}) WatchEnd → Outputs → Outputs → Type 0
Prints o bytes (Ok u) old new = PrintsUpTo o bytes None [] old new
Prints o bytes (Err Stale) old new =
    (stale : List (ℕ × ℕ)) × (stale ≡ [] → ⊥) × PrintsUpTo o bytes None stale old new
Prints o bytes (Err (Fault number why)) old new =
    (stale : List (ℕ × ℕ)) × PrintsUpTo o bytes (Some (number, why)) stale old new
Prints o bytes (Err (Session error)) old new = ⊤

-- as the words ask
pub record PrintsAsAsked {A : Type 0} (words : List (String A)) (bytes : List ℕ)
    (result : Result (Unit {0}) WatchEnd) (old new : Outputs) : Type 0 where
  pub options : WatchOptions
  pub asked : AskFor first_options words options
  pub prints : Prints options bytes result old new

-- all answers are taken, and none of them is stale
abbrev pub PrintsAll : {A : Type 0} → List (String A) → List ℕ → Outputs → Outputs → Type 0
PrintsAll words bytes old new = PrintsAsAsked words bytes (Ok tt) old new
