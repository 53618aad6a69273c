-- What a client makes of all the bytes that come, by what it makes of those that came.
use Rattle.std.proofs.Common.{◌≡◌, ◌⊎◌, ℕ, ◌<◌, ◌∙◌, true, List, [], ◌∷◌, ◌++◌, inl, inr, refl, sym, ap, subst, append-nil}
use Rattle.std.specs.Prelude.{Option, None, Some, Result, Ok, Err, IfSome}
use Rattle.std.specs.Io.KnownBytes.{IsAtEnd, Keeps, prepend_known}
use Rattle.termwiz_cell.specs.Width.{unicode_columns}
use Rattle.termwiz_cell.specs.declared.emoji.UnicodeWidths.{UnicodeWidths}
use Rattle.termwiz_share.specs.Client.{ClientValue, Shown, has_other_size, shown_by, size_place}
use Rattle.termwiz_share.specs.Feeding.{AreCut, EndsHere, TakesNextOrNone, TakesNext}
use Rattle.termwiz_share.specs.declared.error.ClientError.{ClientError}
use Rattle.termwiz_share.specs.declared.error.ClientError.TheVariants as errors
use Rattle.termwiz_share.specs.declared.taken.Taken.{Taken}
use Rattle.termwiz_share.specs.declared.taken.Taken.TheVariants as outcomes
use Rattle.termwiz_share.proofs.Streams.{err_is, ok_or_err}
use Rattle.termwiz_share.proofs.Taking.{no_size, none_taken}
use Rattle.termwiz_wire.specs.Answers.{answer_at}
use Rattle.termwiz_wire.specs.MoreBytes.{Goes, IsTruncated}
use Rattle.termwiz_wire.specs.declared.fault.Fault.{Fault}
use Rattle.termwiz_wire.specs.declared.fault.Limits.{Limits}
use Rattle.termwiz_wire.specs.declared.sent.SentAnswer.{SentAnswer}
use Rattle.termwiz_wire.proofs.PastLimits.{laws}
use Rattle.sessions.specs.Sending.{unicode_measure}
use Rattle.sessions.specs.Taking.{IsSession, TakesComing, TakesAnswer, coming, of_client}
use Rattle.sessions.specs.Watching.{TakesNone}
use Rattle.sessions.specs.declared.watch.stream.StreamError.{StreamError}
use Rattle.sessions.specs.declared.watch.stream.StreamError.TheVariants.{Answer, Session}

abbrev pub Bytes : Type 0
Bytes = List ℕ

abbrev pub Viewer : Type 0
Viewer = ClientValue UnicodeWidths

pub keeps_same : (known : Option Bytes) → Keeps known known
keeps_same None = tt
keeps_same (Some bytes) = refl

pub keeps_on : (a b c : Option Bytes) → Keeps a b → Keeps b c → Keeps a c
keeps_on None b c p q = tt
keeps_on (Some x) None c p q = absurd p
keeps_on (Some x) (Some y) None p q = absurd q
keeps_on (Some x) (Some y) (Some z) p q = q ∙ p

-- nothing is said where nothing is known
pub if_known : (known : Option Bytes) (P : Bytes → Type 0) → ((bytes : Bytes) → known ≡ Some bytes → P bytes) → IfSome known P
if_known None P law = tt
if_known (Some bytes) P law = law bytes refl

pub if_some : (known : Option Bytes) (P Q : Bytes → Type 0) → ((bytes : Bytes) → P bytes → Q bytes) → IfSome known P → IfSome known Q
if_some None P Q law p = tt
if_some (Some bytes) P Q law p = law bytes p

keeps_known : (a b : Option Bytes) (bytes : Bytes) → a ≡ Some bytes → Keeps a b → b ≡ Some bytes
keeps_known None b bytes is keeps = cc
keeps_known (Some x) None bytes is keeps = absurd keeps
keeps_known (Some x) (Some y) bytes is keeps = ap (λ (z : Bytes). Some z) keeps ∙ is

-- the bytes that are to be read
record IsRest (pending bytes : Bytes) (remaining : Option Bytes) : Type 0 where
  pub rest : Bytes
  pub known : remaining ≡ Some rest
  pub all : bytes ≡ pending ++ rest

rest_of : (pending bytes : Bytes) (remaining : Option Bytes) → prepend_known pending remaining ≡ Some bytes → IsRest pending bytes remaining
rest_of pending bytes None is = cc
rest_of pending bytes (Some rest) is = record { rest = rest; known = refl; all = cc }

at_end : (rest : Bytes) (remaining : Option Bytes) → remaining ≡ Some rest → IsAtEnd remaining → rest ≡ []
at_end rest None is end = cc
at_end rest (Some bytes) is end = let same : bytes ≡ rest = cc in sym same ∙ end

nil_front : (a b : Bytes) → a ++ b ≡ [] → a ≡ []
nil_front [] b e = refl
nil_front (x ∷ a) b e = cc

module _ (limits : Limits) (some : 0 < limits.bytes) where
  goes : Goes (answer_at unicode_columns limits) IsTruncated
  goes = (laws unicode_columns limits some).goes

  -- what is taken is taken where more bytes come
  more_one : (s u : Shown) (bytes left more : Bytes) (t : Taken) → TakesAnswer limits s bytes t u left → TakesAnswer limits s (bytes ++ more) t u (left ++ more)
  more_one s u bytes left more t one = record {
    sent = one.sent;
    decoded = goes.value bytes more one.sent left one.decoded;
    size = one.size;
    outcome = one.outcome;
    shows = one.shows;
  }

  -- something is there to be decoded
  some_value : (bytes : Bytes) (a : SentAnswer) (left : Bytes) → answer_at unicode_columns limits bytes ≡ Ok (a, left) → bytes ≡ [] → ⊥
  some_value bytes a left is none = ok_or_err (a, left) goes.first (answer_at unicode_columns limits []) (ap (answer_at unicode_columns limits) (sym none) ∙ is) goes.starts

  some_fault : (bytes : Bytes) (f : Fault) → answer_at unicode_columns limits bytes ≡ Err f → (IsTruncated f → ⊥) → bytes ≡ [] → ⊥
  some_fault bytes f is other none =
      let same : f ≡ goes.first = err_is f goes.first (answer_at unicode_columns limits []) (ap (answer_at unicode_columns limits) (sym none) ∙ is) goes.starts in
      other (ap (λ (x : Fault). x.kind) same ∙ goes.starts_cut)

  -- an answer that a client took off its bytes
  took : (c d : Viewer) (t : Taken) → c.limits ≡ limits → TakesNextOrNone unicode_measure c (Ok (Some t)) d → TakesAnswer limits (shown_by c) c.kept t (shown_by d) d.kept
  took c d outcomes.Shown same s = record { sent = s.0; decoded = rw same at s.1; size = s.3; outcome = rw s.2 refl; shows = s.4 }
  took c d (outcomes.Stale at) same s = record {
    sent = s.0;
    decoded = rw same at s.1;
    size = no_size (shown_by c) s.0 s.2;
    outcome = rw s.2 (ap (λ (k : ℕ). outcomes.Stale k) s.3);
    shows = ap shown_by s.4 ∙ sym (none_taken unicode_columns (shown_by c) s.0 s.2);
  }

-- a client with these bytes to come shows what it showed first
pub record IsThere (first : Viewer) (known : Option Bytes) (now : Viewer) (later : Option Bytes) : Type 0 where
  pub limits : now.limits ≡ first.limits
  pub reading : now.stopped ≡ None
  pub shows : shown_by now ≡ shown_by first
  pub keeps : Keeps known (coming now later)

pub there_first : (c : Viewer) (later : Option Bytes) → c.stopped ≡ None → IsThere c (coming c later) c later
there_first c later reading = record { limits = refl; reading = reading; shows = refl; keeps = keeps_same (coming c later) }

pub there_on : (first : Viewer) (known : Option Bytes) (now new : Viewer) (later after : Option Bytes) → IsThere first known now later → new.limits ≡ now.limits → shown_by new ≡ shown_by now → new.stopped ≡ None → Keeps (coming now later) (coming new after) → IsThere first known new after
there_on first known now new later after there limits shows reading keeps = record {
  limits = limits ∙ there.limits;
  reading = reading;
  shows = shows ∙ there.shows;
  keeps = keeps_on known (coming now later) (coming new after) there.keeps keeps;
}

module _ (first : Viewer) (some : 0 < first.limits.bytes) (known : Option Bytes) (now : Viewer) (later : Option Bytes) (there : IsThere first known now later) where
  all_of : (bytes : Bytes) → known ≡ Some bytes → IsRest now.kept bytes later
  all_of bytes is = rest_of now.kept bytes later (keeps_known known (coming now later) bytes is there.keeps)

  abbrev Comes : Result (Option Taken) StreamError → Viewer → Option Bytes → Type 0
  Comes result new after = IfSome known (λ bytes. TakesComing first.limits (shown_by first) bytes result (shown_by new) (coming new after))

  open_step : (new : Viewer) (r : Result (Option Taken) ClientError) → TakesNext unicode_measure now r new → TakesNextOrNone unicode_measure now r new
  open_step new r (inl stopped) = absurd (let bad : Some stopped.0 ≡ None = sym stopped.1 ∙ there.reading in let no_way : ⊥ = cc in no_way)
  open_step new r (inr step) = step.1

  -- an answer is taken
  pub comes_taken : (new : Viewer) (t : Taken) → TakesNext unicode_measure now (Ok (Some t)) new → Comes (Ok (Some t)) new later
  comes_taken new t next = if_known known (λ bytes. TakesComing first.limits (shown_by first) bytes (Ok (Some t)) (shown_by new) (coming new later)) (λ bytes is.
      let rest = all_of bytes is in
      let here : TakesAnswer first.limits (shown_by first) now.kept t (shown_by new) new.kept = subst (λ (s : Shown). TakesAnswer first.limits s now.kept t (shown_by new) new.kept) there.shows (took first.limits some now new t there.limits (open_step new (Ok (Some t)) next)) in (
        new.kept ++ rest.rest,
        ap (prepend_known new.kept) rest.known,
        subst (λ (b : Bytes). TakesAnswer first.limits (shown_by first) b t (shown_by new) (new.kept ++ rest.rest)) (sym rest.all) (more_one first.limits some (shown_by first) (shown_by new) now.kept new.kept rest.rest t here),
      ))

  -- the next one isn't
  fails : (new : Viewer) (e : ClientError) → TakesNextOrNone unicode_measure now (Err e) new → (bytes : Bytes) → known ≡ Some bytes → TakesComing first.limits (shown_by first) bytes (Err (of_client e)) (shown_by new) (coming new later)
  fails new (errors.Fault f) step bytes is =
      let rest = all_of bytes is in
      let here : answer_at unicode_columns first.limits now.kept ≡ Err f = rw there.limits at step.0 in
      let there_too : answer_at unicode_columns first.limits bytes ≡ Err f = ap (answer_at unicode_columns first.limits) rest.all ∙ (goes first.limits some).fault now.kept rest.rest f here step.1 in
      (some_fault first.limits some bytes f there_too step.1, there_too, ap shown_by step.2 ∙ there.shows)
  fails new (errors.Size at) step bytes is =
      let rest = all_of bytes is in
      let here : answer_at unicode_columns first.limits now.kept ≡ Ok (step.0, step.1) = rw there.limits at step.2 in
      let there_too : answer_at unicode_columns first.limits bytes ≡ Ok (step.0, step.1 ++ rest.rest) = ap (answer_at unicode_columns first.limits) rest.all ∙ (goes first.limits some).value now.kept rest.rest step.0 step.1 here in
      (some_value first.limits some bytes step.0 (step.1 ++ rest.rest) there_too, (step.0, step.1 ++ rest.rest, there_too, subst (λ (s : Shown). has_other_size s step.0 ≡ true) there.shows step.3, subst (λ (s : Shown). at ≡ size_place s step.0) there.shows step.4), ap shown_by step.5 ∙ there.shows)
  fails new errors.Numbers step bytes is = tt
  fails new errors.Memory step bytes is = tt

  pub comes_failed : (new : Viewer) (e : ClientError) → TakesNext unicode_measure now (Err e) new → Comes (Err (of_client e)) new later
  comes_failed new e next = if_known known (λ bytes. TakesComing first.limits (shown_by first) bytes (Err (of_client e)) (shown_by new) (coming new later)) (λ bytes is. fails new e (open_step new (Err e) next) bytes is)

  -- the stream ends, where the bytes make no answer
  module _ (end : IsAtEnd later) where
    all_kept : (bytes : Bytes) → known ≡ Some bytes → bytes ≡ now.kept
    all_kept bytes is = let rest = all_of bytes is in rest.all ∙ ap (λ (l : Bytes). now.kept ++ l) (at_end rest.rest later rest.known end) ∙ append-nil now.kept

    pub comes_ended : AreCut unicode_columns now.limits now.kept → EndsHere unicode_measure now (Ok tt) → Comes (Ok None) now later
    comes_ended cut (inl none) = if_known known (λ bytes. TakesComing first.limits (shown_by first) bytes (Ok None) (shown_by now) (coming now later)) (λ bytes is. (all_kept bytes is ∙ none, there.shows))
    comes_ended cut (inr whole) = absurd (ok_or_err (whole.0, whole.1) cut.fault (answer_at unicode_columns now.limits now.kept) whole.2 cut.is)

    ends : (e : ClientError) → EndsHere unicode_measure now (Err e) → (bytes : Bytes) → known ≡ Some bytes → TakesComing first.limits (shown_by first) bytes (Err (of_client e)) (shown_by now) (coming now later)
    ends (errors.Fault f) here bytes is =
        let all = all_kept bytes is in
        (λ none. here.0 (sym all ∙ none), ap (answer_at unicode_columns first.limits) all ∙ (rw there.limits at here.1), there.shows)
    ends (errors.Size at) here bytes is = absurd here
    ends errors.Numbers here bytes is = absurd here
    ends errors.Memory here bytes is = tt

    pub comes_cut : (e : ClientError) → EndsHere unicode_measure now (Err e) → Comes (Err (of_client e)) now later
    comes_cut e here = if_known known (λ bytes. TakesComing first.limits (shown_by first) bytes (Err (of_client e)) (shown_by now) (coming now later)) (ends e here)

  -- no answer is whole, and the client is where it was
  pub there_none : (new : Viewer) → TakesNext unicode_measure now (Ok None) new → IsThere first known new later
  there_none new next = subst (λ (v : Viewer). IsThere first known v later) (sym (open_step new (Ok None) next).1) there

  pub cut_none : (new : Viewer) → TakesNext unicode_measure now (Ok None) new → AreCut unicode_columns new.limits new.kept
  cut_none new next = let step = open_step new (Ok None) next in subst (λ (v : Viewer). AreCut unicode_columns v.limits v.kept) (sym step.1) step.0

  -- the bytes can't be read, or kept
  pub comes_session : (new : Viewer) (after : Option Bytes) (e : StreamError) → IsSession e → Comes (Err e) new after
  comes_session new after (Answer e) bad = absurd bad
  comes_session new after (Session e) is = if_known known (λ bytes. Unit {0}) (λ bytes known_is. tt)
