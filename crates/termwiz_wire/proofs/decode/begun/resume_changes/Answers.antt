use Rattle.std.proofs.Common.{◌≡◌, ℕ, ◌-◌, ◌++◌, Bool, false, List, [], length, map, take, drop, Ok, Some, sym, subst, ap, ◌∙◌, append-nil}
use Rattle.cbor.specs.Decoding.{IsBytes, allowed}
use Rattle.termwiz_cell.specs.ChangeValue.{ChangeValue, change_value}
use Rattle.termwiz_cell.specs.Measure.{measure}
use Rattle.termwiz_cell.specs.declared.change.Change.{Change}
use Rattle.termwiz_surface.specs.Unlogged.{lent_value}
use Rattle.termwiz_surface.specs.declared.surface.lists.LentChange.{LentChange}
use Rattle.termwiz_wire.specs.Answers.{answer_in, sent_of}
use Rattle.termwiz_wire.specs.Decoding.{change_at}
use Rattle.std.specs.Prelude.{Option, option_map}
use Rattle.termwiz_wire.specs.Resuming.{BeginsChange, ChangePart, EndsIn, DecodesOn, StopsTruncated, change_part}
use Rattle.termwiz_wire.specs.Sent.{answer}
use Rattle.termwiz_wire.specs.Work.{spent_on}
use Rattle.termwiz_wire.specs.declared.decode.heads.Head.{Head}
use Rattle.termwiz_wire.specs.Lent.{lent_answer}
use Rattle.termwiz_wire.specs.declared.sent.SentAnswer.{SentAnswer}
use Rattle.termwiz_wire.proofs.AnswersFound.{answer_takes}
use Rattle.termwiz_wire.proofs.CutLinks.{cut_change}
use Rattle.termwiz_wire.proofs.Resuming.{answer_took, goes_cut, goes_ends, goes_failed, goes_whole, reading, resumes_whole, slice_from}
use Rattle.termwiz_wire.proofs.Within.{Took, lens_of}
use Rattle.termwiz_wire.proofs.decode.begun.resume_changes.Given.{Over}
use Rattle.termwiz_wire.proofs.decode.begun.resume_changes.Goals as goal
use Rattle.termwiz_wire.proofs.decode.begun.resume_changes.Goals.{After-go_on, After-lent_from}

hand_is : (g : Over) (c : After-go_on g) → c.rest-hand.result.now ≡ take c.args.limits.bytes c.args.bytes.now
hand_is g c = c.rest-hand.ensures.value ∙ c.with_limit-reader.ensures.bytes

start_is : (g : Over) (c : After-go_on g) → take (length c.rest-hand.result.now - c.args.begun.taken) (drop c.args.begun.taken c.rest-hand.result.now) ≡ drop c.args.begun.taken (take c.args.limits.bytes c.args.bytes.now)
start_is g c = slice_from c.rest-hand.result.now c.args.begun.taken ∙ ap (drop c.args.begun.taken) (hand_is g c)

-- each byte is below 256
fits : (g : Over) (c : After-go_on g) → IsBytes (take c.args.limits.bytes c.args.bytes.now)
fits g c = subst (λ (b : List ℕ). IsBytes b) (hand_is g c) c.rest-hand.ensures.bytes

-- no change follows them yet
none_more : (begun changes : List Change) (more : List LentChange) → begun ≡ changes → more ≡ [] → map change_value begun ++ map lent_value more ≡ map change_value changes
none_more begun changes more is none = ap (λ (cs : List LentChange). map change_value begun ++ map lent_value cs) none ∙ append-nil (map change_value begun) ∙ ap (map change_value) is

-- the changes that were there, as they are borrowed
lent_is : (begun changes : List Change) (more : List LentChange) → begun ≡ changes → map change_value changes ++ map lent_value more ≡ map change_value begun ++ map lent_value more
lent_is begun changes more is = ap (λ (cs : List Change). map change_value cs ++ map lent_value more) (sym is)

-- the whole answer
whole : (g : Over) (c : After-lent_from g) → answer_in (measure g.W.Widths.width_of c.args.widths.now) (c.args.limits.bytes - length c.args.bytes.now) c.args.limits (take c.args.limits.bytes c.args.bytes.now) ≡ Ok (sent_of c.args.begun.head (map change_value c.deref.result.now ++ map lent_value c.go_on.new.changes.items), c.go_on.new.reader.bytes.now)
whole g c =
    let start : List ℕ = take (length c.rest-hand.result.now - c.args.begun.taken) (drop c.args.begun.taken c.rest-hand.result.now) in
    goes_whole (measure g.W.Widths.width_of c.args.widths.now) c.args.limits c.args.bytes.now c.args.begun c.requires.leads c.requires.whole c.with_limit-reader.result.room start (map change_value c.deref.result.now ++ map lent_value c.new-more.result.items) (map change_value c.deref.result.now ++ map lent_value c.go_on.new.changes.items) c.go_on.new.reader.room c.go_on.new.reader.bytes.now c.with_limit-reader.ensures.room (none_more c.deref.result.now c.args.begun.changes.items c.new-more.result.items c.deref.ensures.value c.new-more.ensures.items) (start_is g (goal.at.returns-in-Ok-true-clause-exact g c).After-go_on) c.in-Ok-true.field-0 c.in-Ok-true.field-0-test c.in-Ok-true.ensures.goes

-- what is returned is that answer
same : (g : Over) (c : After-lent_from g) → lent_answer c.lent_from.result ≡ sent_of c.args.begun.head (map change_value c.deref.result.now ++ map lent_value c.go_on.new.changes.items)
same g c = c.lent_from.ensures.answer ∙ ap (sent_of c.args.begun.head) (c.in_ok-changes-in-Ok-true.ensures ∙ lent_is c.deref.result.now c.args.begun.changes.items c.go_on.new.changes.items c.deref.ensures.value)

-- the bytes that are returned as taken are its own
taken : (g : Over) (c : After-lent_from g) → Took (reading (measure g.W.Widths.width_of c.args.widths.now) c.args.limits c.args.bytes.now) c.args.limits.bytes (answer (measure g.W.Widths.width_of c.args.widths.now) (lent_answer c.lent_from.result)) c.args.bytes.now c.saturating_sub-taken.result (lent_answer c.lent_from.result)
taken g c =
    let before = (goal.at.returns-in-Ok-true-clause-exact g c).After-go_on in
    let m : List ℕ → ℕ = measure g.W.Widths.width_of c.args.widths.now in
    subst (λ (s : SentAnswer). Took (reading m c.args.limits c.args.bytes.now) c.args.limits.bytes (answer m s) c.args.bytes.now c.saturating_sub-taken.result s) (sym (same g c))
    (answer_took m c.args.limits c.args.bytes.now (sent_of c.args.begun.head (map change_value c.deref.result.now ++ map lent_value c.go_on.new.changes.items)) c.go_on.new.reader.bytes.now c.saturating_sub-taken.result (fits g before) (whole g c)
    (lens_of c.rest-hand.result.now (take c.args.limits.bytes c.args.bytes.now) c.go_on.new.reader.bytes.now c.saturating_sub-taken.result c.saturating_sub-taken.ensures (hand_is g before)))

pub returns-in-Ok-true-clause-exact : goal.returns-in-Ok-true-clause-exact
returns-in-Ok-true-clause-exact g c = resumes_whole (measure g.W.Widths.width_of c.args.widths.now) c.args.limits c.args.bytes.now c.lent_from.result c.saturating_sub-taken.result (taken g c)

pub returns-in-Ok-true-clause-found : goal.returns-in-Ok-true-clause-found
returns-in-Ok-true-clause-found g c = ((taken g c).parts, (taken g c).fits)

pub returns-in-Ok-true-clause-named : goal.returns-in-Ok-true-clause-named
returns-in-Ok-true-clause-named g c =
    let source : c.lent_from.result.source ≡ c.args.begun.head.source = ap (λ (s : SentAnswer). s.source) (same g c) in
    rw source (answer_takes (measure g.W.Widths.width_of c.args.widths.now) (c.args.limits.bytes - length c.args.bytes.now) c.args.limits (take c.args.limits.bytes c.args.bytes.now) (sent_of c.args.begun.head (map change_value c.deref.result.now ++ map lent_value c.go_on.new.changes.items), c.go_on.new.reader.bytes.now) (fits g (goal.at.returns-in-Ok-true-clause-named g c).After-go_on) (whole g c)).named

-- what is begun of the next change, among the bytes within the limit
begins_here : (m : List ℕ → ℕ) (room : ℕ) (hand all rest : List ℕ) (next : Option ChangePart) (after : List ℕ) → hand ≡ all → BeginsChange m room hand rest next after → BeginsChange m room all rest next after
begins_here m room hand all rest next after is begins = subst (λ (h : List ℕ). BeginsChange m room h rest next after) is begins

pub begin_change-requires : goal.begin_change-requires
begin_change-requires g c =
    let before = (goal.at.begin_change-requires g c).After-go_on in
    let start : List ℕ = take (length c.rest-hand.result.now - c.args.begun.taken) (drop c.args.begun.taken c.rest-hand.result.now) in
    let end = goes_ends (measure g.W.Widths.width_of c.args.widths.now) c.args.limits c.args.bytes.now c.args.begun c.requires.leads c.requires.whole c.with_limit-reader.result.room start (map change_value c.deref.result.now ++ map lent_value c.new-more.result.items) (map change_value c.deref.result.now ++ map lent_value c.go_on.new.changes.items) c.go_on.new.reader.room c.go_on.new.reader.bytes.now c.with_limit-reader.ensures.room (none_more c.deref.result.now c.args.begun.changes.items c.new-more.result.items c.deref.ensures.value c.new-more.ensures.items) (start_is g before) c.in-Ok-false.field-0 c.in-Ok-false.ensures.goes in
    subst (λ (h : List ℕ). EndsIn h c.go_on.new.reader.bytes.now) (sym (hand_is g before)) end

pub returns-in-Ok-false-clause-exact : goal.returns-in-Ok-false-clause-exact
returns-in-Ok-false-clause-exact g c =
    let before = (goal.at.returns-in-Ok-false-clause-exact g c).After-go_on in
    let m : List ℕ → ℕ = measure g.W.Widths.width_of c.args.widths.now in
    let head : Head = c.args.begun.head in
    let room : ℕ = c.with_limit-reader.result.room in
    let start : List ℕ = take (length c.rest-hand.result.now - c.args.begun.taken) (drop c.args.begun.taken c.rest-hand.result.now) in
    let made : List ChangeValue = map change_value c.deref.result.now ++ map lent_value c.new-more.result.items in
    let more : List ChangeValue = map change_value c.deref.result.now ++ map lent_value c.go_on.new.changes.items in
    let rest : List ℕ = c.go_on.new.reader.bytes.now in
    let goes : DecodesOn m room head made start (Ok false) more (allowed c.go_on.new.reader.room rest) rest = subst (λ (b : Bool). DecodesOn m room head made start (Ok b) more (allowed c.go_on.new.reader.room rest) rest) c.in-Ok-false.field-0-test c.in-Ok-false.ensures.goes in
    let cut : StopsTruncated (change_at m c.go_on.new.reader.room (Some head.height) rest) = rw c.in-Ok-false.ensures.room (cut_change m room head (spent_on (Some head) more) rest goes.2) in
    goes_cut m c.args.limits c.args.bytes.now c.args.begun c.requires.leads c.requires.whole room start made more c.go_on.new.reader.room rest c.with_limit-reader.ensures.room (none_more c.deref.result.now c.args.begun.changes.items c.new-more.result.items c.deref.ensures.value c.new-more.ensures.items) (start_is g before) c.in_ok-changes-in-Ok-false.changes c.in_ok-next-in-Ok-false.next c.begin_change.new.reader.bytes.now c.in-Ok-false.field-0 c.saturating_sub-taken-in-Ok-false.result c.go_on.new.spent c.in-Ok-false.ensures.bytes (c.in_ok-changes-in-Ok-false.ensures ∙ lent_is c.deref.result.now c.args.begun.changes.items c.go_on.new.changes.items c.deref.ensures.value) c.in-Ok-false.field-0-test c.in-Ok-false.ensures.goes (begins_here m c.go_on.new.reader.room c.rest-hand.result.now (take c.args.limits.bytes c.args.bytes.now) rest (option_map change_part c.in_ok-next-in-Ok-false.next) c.begin_change.new.reader.bytes.now (hand_is g before) (c.in_ok-next-in-Ok-false.ensures.begins (Some head.height) cut)) (c.in-Ok-false.ensures.room ∙ c.with_limit-reader.ensures.room)
    (lens_of c.rest-hand.result.now (take c.args.limits.bytes c.args.bytes.now) c.begin_change.new.reader.bytes.now c.saturating_sub-taken-in-Ok-false.result c.saturating_sub-taken-in-Ok-false.ensures (hand_is g before))
    c.in-Ok-false.ensures.spent c.in-Ok-false.ensures.few

pub returns-clause-exact : goal.returns-clause-exact
returns-clause-exact g c =
    let before = (goal.at.returns-clause-exact g c).After-go_on in
    let start : List ℕ = take (length c.rest-hand.result.now - c.args.begun.taken) (drop c.args.begun.taken c.rest-hand.result.now) in
    goes_failed (measure g.W.Widths.width_of c.args.widths.now) c.args.limits c.args.bytes.now c.args.begun c.requires.leads c.requires.whole c.with_limit-reader.result.room start (map change_value c.deref.result.now ++ map lent_value c.new-more.result.items) (map change_value c.deref.result.now ++ map lent_value c.go_on.new.changes.items) c.go_on.new.reader.room c.go_on.new.reader.bytes.now c.with_limit-reader.ensures.room (none_more c.deref.result.now c.args.begun.changes.items c.new-more.result.items c.deref.ensures.value c.new-more.ensures.items) (start_is g before) c.in-Err.halted c.saturating_sub-at.result c.located.result (c.in-Err.ensures.room ∙ c.with_limit-reader.ensures.room) c.in-Err.ensures.goes
    (lens_of c.rest-hand.result.now (take c.args.limits.bytes c.args.bytes.now) c.go_on.new.reader.bytes.now c.saturating_sub-at.result c.saturating_sub-at.ensures (hand_is g before)) c.located.ensures
