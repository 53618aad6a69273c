-- What is printed of a stream, as far as it has come.
use Rattle.std.proofs.Common.{◌≡◌, ℕ, ◌+◌, ◌∙◌, inl, inr, Bool, true, false, List, [], ◌∷◌, ◌++◌, refl, sym, ap, subst, append-nil}
use Rattle.std.specs.Io.KnownBytes.{Appends}
use Rattle.std.specs.List.{flat_map}
use Rattle.std.specs.Prelude.{Option, None, Some, IfSome, OnOk, Result, Ok, Err, if◌then◌else◌}
use Rattle.std.proofs.KnownBytes.{Appends-nil, Appends-trans}
use Rattle.std.proofs.lemmas.Bool.{cases_Bool, true≢false}
use Rattle.std.proofs.lemmas.List.Concat.{flat_map-append}
use Rattle.termwiz_share.specs.Client.{Shown, shown_by}
use Rattle.termwiz_share.specs.declared.error.ClientError.{ClientError}
use Rattle.termwiz_share.specs.declared.taken.Taken.{Taken}
use Rattle.termwiz_share.specs.declared.taken.Taken.TheVariants as outcomes
use Rattle.sessions.specs.Frames.{first_shown}
use Rattle.sessions.specs.Printed.{stale_line}
use Rattle.sessions.specs.Printing.{Finishes, Outputs, Prints, PrintsOne, PrintsUpTo, end_by, end_of_watch, pending_lines, shown_lines}
use Rattle.sessions.specs.Taking.{TakesComing, coming}
use Rattle.sessions.specs.Watching.{TakesUpTo, kept, shown_each, stale_each}
use Rattle.sessions.specs.declared.ending.SessionError.{SessionError}
use Rattle.sessions.specs.declared.watch.WatchEnd.{WatchEnd}
use Rattle.sessions.specs.declared.watch.WatchEnd.TheVariants.{Fault, Session, Stale}
use Rattle.sessions.specs.declared.watch.printing.Printing.{Printing}
use Rattle.sessions.specs.declared.watch.stream.StreamError.{StreamError}
use Rattle.sessions.specs.declared.watch.stream.StreamError.TheVariants as stream
use Rattle.sessions.specs.declared.words.WatchOptions.{WatchOptions}
use Rattle.termwiz_wire.specs.declared.fault.Limits.{Limits}
use Rattle.sessions.proofs.Coming.{Bytes, Viewer, if_known, if_some}
use Rattle.sessions.proofs.Watched.{HasCome, HasNext, Says, Takes, all_come, come_first, fault_come, has_next, kept_last, kept_none, shown_by_one, stale_by_one}

abbrev Lines : Type 0
Lines = List Shown

abbrev stale_text : ℕ × ℕ → Bytes
stale_text s = stale_line s.0 s.1

-- what is printed at once, and what at the end
abbrev at_once : Bool → Lines → Lines
at_once each shown = if each then shown else []

abbrev at_end : Bool → Lines → Lines
at_end each shown = if each then [] else kept false shown

both : (each : Bool) (shown : Lines) → kept each shown ≡ at_once each shown ++ at_end each shown
both true shown = sym (append-nil shown)
both false shown = refl

-- these are shown, and now is shown last
pub record IsPrinted (p : Printing) (shown : Lines) (now : Shown) (old new : Option Bytes) : Type 0 where
  pub written : Appends old new (flat_map shown_lines (at_once p.each shown))
  pub pending : at_end p.each shown ≡ (if p.pending then now ∷ [] else [])

-- one more is printed, or pending
more_printed : (each pending : Bool) (shown : Lines) (now next : Shown) (stale : Bool) (old mid new : Option Bytes) → IsPrinted (record { each = each; pending = pending; stale = stale }) shown now old mid → Appends mid new (if each then shown_lines next else [])
    → IsPrinted (if each then record { each = each; pending = pending; stale = stale } else record { each = each; pending = true; stale = stale }) (shown ++ next ∷ []) next old new
more_printed true true shown now next stale old mid new so_far prints = absurd (let bad : [] ≡ now ∷ [] = so_far.pending in let no_way : ⊥ = cc in no_way)
more_printed true false shown now next stale old mid new so_far prints = record {
  written = subst (λ (b : Bytes). Appends old new b) (ap (λ (l : Bytes). flat_map shown_lines shown ++ l) (sym (append-nil (shown_lines next))) ∙ sym (flat_map-append shown_lines shown (next ∷ []))) (Appends-trans old mid new (flat_map shown_lines shown) (shown_lines next) so_far.written prints);
  pending = refl;
}
more_printed false pending shown now next stale old mid new so_far prints = record {
  written = Appends-trans old mid new [] [] so_far.written prints;
  pending = kept_last shown next;
}

-- all of them, once what is pending is printed
all_printed : (p : Printing) (shown : Lines) (now : Shown) (old mid new : Option Bytes) → IsPrinted p shown now old mid → Appends mid new (pending_lines p now) → Appends old new (flat_map shown_lines (kept p.each shown))
all_printed p shown now old mid new so_far prints =
    let last : flat_map shown_lines (at_end p.each shown) ≡ pending_lines p now = ap (flat_map shown_lines) so_far.pending ∙ lines_of p.pending in
    let all : flat_map shown_lines (at_once p.each shown) ++ pending_lines p now ≡ flat_map shown_lines (kept p.each shown) =
    ap (λ (l : Bytes). flat_map shown_lines (at_once p.each shown) ++ l) (sym last) ∙ sym (flat_map-append shown_lines (at_once p.each shown) (at_end p.each shown)) ∙ ap (flat_map shown_lines) (sym (both p.each shown)) in
    subst (λ (b : Bytes). Appends old new b) all (Appends-trans old mid new (flat_map shown_lines (at_once p.each shown)) (pending_lines p now) so_far.written prints)
  where
    lines_of : (pending : Bool) → flat_map shown_lines (if pending then now ∷ [] else []) ≡ (if pending then shown_lines now else [])
    lines_of true = append-nil (shown_lines now)
    lines_of false = refl

-- what is reported
pub record IsReported (stale : Bool) (places : List (ℕ × ℕ)) (old new : Option Bytes) : Type 0 where
  pub reported : Appends old new (flat_map stale_text places)
  pub none : stale ≡ false → places ≡ []
  pub some : stale ≡ true → places ≡ [] → ⊥

some_more : (places : List (ℕ × ℕ)) (n at : ℕ) → places ++ (n, at) ∷ [] ≡ [] → ⊥
some_more [] n at e = cc
some_more (x ∷ places) n at e = cc

-- ---- a session

-- `count` answers are taken, and what is shown then is printed or pending
pub record IsSoFar (o : WatchOptions) (bytes : Bytes) (count : ℕ) (now : Viewer) (later : Option Bytes) (p : Printing) (old new : Outputs) : Type 0 where
  pub come : HasCome o.limits bytes count now later
  pub each : p.each ≡ o.each
  pub printed : IsPrinted p (shown_each first_shown come.given) (shown_by now) old.out new.out
  pub reported : IsReported p.stale (stale_each 1 first_shown come.given) old.err new.err

pub so_far_first : (o : WatchOptions) (now : Viewer) (known : Option Bytes) (outputs : Outputs) → shown_by now ≡ first_shown → now.kept ≡ [] → IfSome known (λ bytes. IsSoFar o bytes 0 now known (record { each = o.each; pending = false; stale = false }) outputs outputs)
so_far_first o now known outputs shows none = if_known known (λ bytes. IsSoFar o bytes 0 now known (record { each = o.each; pending = false; stale = false }) outputs outputs) (λ bytes is.
    subst (λ (later : Option Bytes). IsSoFar o bytes 0 now later (record { each = o.each; pending = false; stale = false }) outputs outputs) (sym is) (first bytes))
  where
    no_lines : (each : Bool) → (at_once each [] ≡ []) × (at_end each [] ≡ [])
    no_lines true = (refl, refl)
    no_lines false = (refl, refl)

    first : (bytes : Bytes) → IsSoFar o bytes 0 now (Some bytes) (record { each = o.each; pending = false; stale = false }) outputs outputs
    first bytes =
        let come : HasCome o.limits bytes 0 now (Some bytes) = record { given = []; counted = refl; left = bytes; left_is = (come_first o.limits now bytes shows none).left_is; takes = (refl, shows) } in
        record {
          come = come;
          each = refl;
          printed = record {
            written = subst (λ (l : Lines). Appends outputs.out outputs.out (flat_map shown_lines l)) (sym (no_lines o.each).0) (Appends-nil outputs.out);
            pending = (no_lines o.each).1;
          };
          reported = record { reported = Appends-nil outputs.err; none = λ e. refl; some = λ e. absurd (true≢false (sym e)) };
        }

module _ (o : WatchOptions) (bytes : Bytes) (count : ℕ) (now new : Viewer) (later after : Option Bytes) (p q : Printing) (old mid newer : Outputs) (so_far : IsSoFar o bytes count now later p old mid) where
  abbrev TakesHere : Result (Option Taken) StreamError → Type 0
  TakesHere result = Takes o.limits bytes count now new later after so_far.come result

  pub so_far_on : (t : Taken) → TakesHere (Ok (Some t)) → PrintsOne (shown_by new) (count + 1) t p mid q newer → IsSoFar o bytes (count + 1) new after q old newer
  so_far_on outcomes.Shown takes prints =
      let next = has_next o.limits bytes count now new later after so_far.come outcomes.Shown takes in
      let was : IsPrinted (record { each = p.each; pending = p.pending; stale = p.stale }) (shown_each first_shown so_far.come.given) (shown_by now) old.out mid.out = so_far.printed in
      let more = more_printed p.each p.pending (shown_each first_shown so_far.come.given) (shown_by now) (shown_by new) p.stale old.out mid.out newer.out was prints.0 in
      let same : stale_each 1 first_shown next.come.given ≡ stale_each 1 first_shown so_far.come.given = next.stale ∙ append-nil (stale_each 1 first_shown so_far.come.given) in
      let q_is = prints.2 in
      record {
        come = next.come;
        each = ap (λ (x : Printing). x.each) q_is ∙ each_of p.each ∙ so_far.each;
        printed = rw (q_is, next.shown) more;
        reported = rw (same, prints.1, q_is, stale_of p.each) so_far.reported;
      }
    where
      each_of : (each : Bool) → (if each then p else record p { pending = true }).each ≡ p.each
      each_of true = refl
      each_of false = refl

      stale_of : (each : Bool) → (if each then p else record p { pending = true }).stale ≡ p.stale
      stale_of true = refl
      stale_of false = refl
  so_far_on (outcomes.Stale at) takes prints =
      let next = has_next o.limits bytes count now new later after so_far.come (outcomes.Stale at) takes in
      let places : List (ℕ × ℕ) = stale_each 1 first_shown so_far.come.given in
      let same : shown_each first_shown next.come.given ≡ shown_each first_shown so_far.come.given = next.shown ∙ append-nil (shown_each first_shown so_far.come.given) in
      let is : q ≡ record p { stale = true } = prints.2 in
      let out : newer.out ≡ mid.out = prints.0 in
      let stays : shown_by new ≡ shown_by now = next.stays in
      let text : flat_map stale_text (places ++ (count + 1, at) ∷ []) ≡ flat_map stale_text places ++ stale_line (count + 1) at = flat_map-append stale_text places ((count + 1, at) ∷ []) ∙ ap (λ (l : Bytes). flat_map stale_text places ++ l) (append-nil (stale_line (count + 1) at)) in
      record {
        come = next.come;
        each = ap (λ (x : Printing). x.each) is ∙ so_far.each;
        printed = rw (is, same, stays, out) (record { written = so_far.printed.written; pending = so_far.printed.pending });
        reported = rw (is, next.stale) (record {
          reported = subst (λ (b : Bytes). Appends old.err newer.err b) (sym text) (Appends-trans old.err mid.err newer.err (flat_map stale_text places) (stale_line (count + 1) at) so_far.reported.reported prints.1);
          none = λ e. absurd (true≢false e);
          some = λ e. some_more places (count + 1) at;
        });
      }

  module _ (out : Option Bytes) where
    abbrev now_written : Outputs
    now_written = record { out = out; err = mid.err }

    up_to : (fault : Option (ℕ × ClientError)) → TakesUpTo o.limits bytes so_far.come.given fault → shown_by new ≡ shown_by now → Appends mid.out out (pending_lines p (shown_by new)) → PrintsUpTo o bytes fault (stale_each 1 first_shown so_far.come.given) old now_written
    up_to fault takes same prints = record {
      given = so_far.come.given;
      takes = takes;
      stale_are = refl;
      printed = subst (λ (e : Bool). Appends old.out out (flat_map shown_lines (kept e (shown_each first_shown so_far.come.given)))) so_far.each
          (all_printed p (shown_each first_shown so_far.come.given) (shown_by now) old.out mid.out out so_far.printed (subst (λ (s : Shown). Appends mid.out out (pending_lines p s)) same prints));
      reported = so_far.reported.reported;
    }

    -- all are taken
    pub prints_whole : (result : Result (Unit {0}) WatchEnd) → TakesHere (Ok None) → Finishes p (shown_by new) (end_of_watch p) mid.out result out → Prints o bytes result old now_written
    prints_whole (Ok u) takes ends =
        let all = all_come o.limits bytes count now new later after so_far.come takes in
        let none = so_far.reported.none (is_whole p.stale ends.0) in
        subst (λ (places : List (ℕ × ℕ)). PrintsUpTo o bytes None places old now_written) none (up_to None all.0 all.1 ends.1)
      where
        is_whole : (stale : Bool) → ◌≡◌ {A = Result (Unit {0}) WatchEnd} (Ok u) (if stale then Err Stale else Ok tt) → stale ≡ false
        is_whole true e = absurd (let no_way : ⊥ = cc in no_way)
        is_whole false e = refl
    prints_whole (Err Stale) takes ends =
        let all = all_come o.limits bytes count now new later after so_far.come takes in
        (stale_each 1 first_shown so_far.come.given, so_far.reported.some (is_stale p.stale ends.0), up_to None all.0 all.1 ends.1)
      where
        is_stale : (stale : Bool) → ◌≡◌ {A = Result (Unit {0}) WatchEnd} (Err Stale) (if stale then Err Stale else Ok tt) → stale ≡ true
        is_stale true e = refl
        is_stale false e = absurd (let no_way : ⊥ = cc in no_way)
    prints_whole (Err (Fault n why)) takes ends = absurd (no_fault p.stale ends.0)
      where
        no_fault : (stale : Bool) → ◌≡◌ {A = Result (Unit {0}) WatchEnd} (Err (Fault n why)) (if stale then Err Stale else Ok tt) → ⊥
        no_fault true e = cc
        no_fault false e = cc
    prints_whole (Err (Session e)) takes ends = tt

    -- one isn't
    pub prints_end : (error : StreamError) (result : Result (Unit {0}) WatchEnd) → TakesHere (Err error) → Finishes p (shown_by new) (Err (end_by (count + 1) error)) mid.out result out → Prints o bytes result old now_written
    prints_end (stream.Answer e) (Ok u) takes ends = absurd (let bad = ends.0 in let no_way : ⊥ = cc in no_way)
    prints_end (stream.Answer e) (Err Stale) takes ends = absurd (let bad = ends.0 in let no_way : ⊥ = cc in no_way)
    prints_end (stream.Answer e) (Err (Fault n why)) takes ends =
        let stopped = fault_come o.limits bytes count now new later after so_far.come e takes in
        let bad = ends.0 in
        let number : count + 1 ≡ n = cc in
        let error : e ≡ why = cc in
        (stale_each 1 first_shown so_far.come.given, rw (← number, ← error) (up_to (Some (count + 1, e)) stopped.0 stopped.1 ends.1))
    prints_end (stream.Answer e) (Err (Session s)) takes ends = tt
    prints_end (stream.Session e) (Ok u) takes ends = absurd (let bad = ends.0 in let no_way : ⊥ = cc in no_way)
    prints_end (stream.Session e) (Err Stale) takes ends = absurd (let bad = ends.0 in let no_way : ⊥ = cc in no_way)
    prints_end (stream.Session e) (Err (Fault n why)) takes ends = absurd (let bad = ends.0 in let no_way : ⊥ = cc in no_way)
    prints_end (stream.Session e) (Err (Session s)) takes ends = tt

module _ (o : WatchOptions) (known : Option Bytes) (count : ℕ) (now new : Viewer) (later after : Option Bytes) (p : Printing) (old mid : Outputs) (limits : now.limits ≡ o.limits) (so_far : IfSome known (λ bytes. IsSoFar o bytes count now later p old mid)) where
  within : (result : Result (Option Taken) StreamError) → Says now later result new after → IfSome (coming now later) (λ all. TakesComing o.limits (shown_by now) all result (shown_by new) (coming new after))
  within result says = subst (λ (l : Limits). IfSome (coming now later) (λ all. TakesComing l (shown_by now) all result (shown_by new) (coming new after))) limits says

  pub next_printed : (q : Printing) (newer : Outputs) (t : Taken) → Says now later (Ok (Some t)) new after → PrintsOne (shown_by new) (count + 1) t p mid q newer → IfSome known (λ bytes. IsSoFar o bytes (count + 1) new after q old newer)
  next_printed q newer t says prints = if_some known (λ bytes. IsSoFar o bytes count now later p old mid) (λ bytes. IsSoFar o bytes (count + 1) new after q old newer)
      (λ bytes here. so_far_on o bytes count now new later after p q old mid newer here t (within (Ok (Some t)) says) prints) so_far

  pub whole_printed : (out : Option Bytes) (result : Result (Unit {0}) WatchEnd) → Says now later (Ok None) new after → Finishes p (shown_by new) (end_of_watch p) mid.out result out → IfSome known (λ bytes. Prints o bytes result old (record { out = out; err = mid.err }))
  whole_printed out result says ends = if_some known (λ bytes. IsSoFar o bytes count now later p old mid) (λ bytes. Prints o bytes result old (record { out = out; err = mid.err }))
      (λ bytes here. prints_whole o bytes count now new later after p p old mid mid here out result (within (Ok None) says) ends) so_far

  pub end_printed : (out : Option Bytes) (error : StreamError) (result : Result (Unit {0}) WatchEnd) → Says now later (Err error) new after → Finishes p (shown_by new) (Err (end_by (count + 1) error)) mid.out result out → IfSome known (λ bytes. Prints o bytes result old (record { out = out; err = mid.err }))
  end_printed out error result says ends = if_some known (λ bytes. IsSoFar o bytes count now later p old mid) (λ bytes. Prints o bytes result old (record { out = out; err = mid.err }))
      (λ bytes here. prints_end o bytes count now new later after p p old mid mid here out error result (within (Err error) says) ends) so_far

-- what failed is not the stream
pub prints_refused : (o : WatchOptions) (known : Option Bytes) (error : SessionError) (result : Result (Unit {0}) WatchEnd) (old more : Outputs) → result ≡ Err (Session error) → IfSome known (λ bytes. Prints o bytes result old more)
prints_refused o known error result old more is =
    let P : Result (Unit {0}) WatchEnd → Type 0 = λ r. IfSome known (λ bytes. Prints o bytes r old more) in
    subst P (sym is) (if_known known (λ bytes. Unit {0}) (λ bytes k. tt))

-- ---- nothing is reported where none is stale

whole_fresh : (p : Printing) → end_of_watch p ≡ Ok tt → p.stale ≡ false
whole_fresh p e = elim (cases_Bool p.stale) [
  | inl stale ↦ absurd (let no : ◌≡◌ {A = Result (Unit {0}) WatchEnd} (Err Stale) (Ok tt) = rw stale at e in cc)
  | inr fresh ↦ fresh
]

pub silent_whole : (p : Printing) (s : Shown) (old new : Option Bytes) (r : Result (Unit {0}) WatchEnd) (A : Type 0) → Finishes p s (end_of_watch p) old r new → (p.stale ≡ false → A) → OnOk r A
silent_whole p s old new (Ok u) A f silent = silent (whole_fresh p (sym f.0))
silent_whole p s old new (Err e) A f silent = tt
