-- An answer or an ask that is decoded was encoded so.
use Rattle.std.proofs.Common.{◌≡◌, ℕ, zero, suc, false, ◌+◌, ◌≤◌, ◌<◌, ◌^◌, true, cond, eqb, ltb, ◌&&◌, not, List, [], ◌++◌, length, Some, None, Result, Ok, refl, ap, subst, ◌∙◌, arith}
use Rattle.std.proofs.lemmas.Bool.{eqb-true}
use Rattle.std.proofs.lemmas.List.{length-append}
use Rattle.cbor.specs.declared.error.FaultKind.TheVariants as faults
use Rattle.cbor.specs.Encoding.{unsigned, array}
use Rattle.cbor.specs.Decoding.{◌>>=◌, Stop, ok, IsBytes, unsigned_at, below_at, array_at, list_at}
use Rattle.cbor.proofs.Items.{unsigned_takes, array_takes, list_takes}
use Rattle.cbor.proofs.Steps.{Takes, Takes-then, bind_ok, guard_ok, guard_past, guard_ended, ok_is}
use Rattle.termwiz_cell.specs.ChangeValue.{ChangeValue}
use Rattle.termwiz_screen.specs.Step.{regions_fit}
use Rattle.termwiz_wire.specs.Cuts.{refused}
use Rattle.termwiz_wire.specs.Encoding.{changes}
use Rattle.termwiz_wire.specs.Answers.{Halt, version_at, body_at, opened_at, source_at, size_at, height_at, based_number_at, head_at, halted, each_at, sent_of, answer_in, asked_at, ask_in}
use Rattle.termwiz_wire.specs.Sent.{answer, ask}
use Rattle.termwiz_wire.specs.Screens.{FitsLimits, is_past}
use Rattle.termwiz_wire.specs.Within.{IsBorne}
use Rattle.termwiz_wire.specs.declared.fault.Limits.{Limits}
use Rattle.termwiz_wire.specs.declared.sent.SentAnswer.{SentAnswer}
use Rattle.termwiz_wire.specs.declared.sent.Ask.{Ask}
use Rattle.termwiz_wire.specs.declared.decode.heads.Head.{Head}
use Rattle.termwiz_wire.proofs.Bounded.{changes-some}
use Rattle.termwiz_wire.proofs.Bounds.{fits_of}
use Rattle.termwiz_wire.proofs.Each.{halted_ok, listed_takes}
use Rattle.termwiz_wire.proofs.Rows.{regions_of}
use Rattle.termwiz_wire.proofs.Steps.{stopped, number_takes, let_takes}

version_takes : (room : ℕ) (bytes rest : List ℕ) → IsBytes bytes → version_at room bytes ≡ Ok rest → Takes bytes (unsigned 2) rest
unfolding version_at
version_takes room bytes rest fits e =
    let a = bind_ok (unsigned_at room bytes) _ rest e in
    let g = guard_ended (eqb a.0.0 2) (stopped faults.Version room bytes) a.0.1 rest a.2 in
    let t = unsigned_takes room bytes a.0 fits a.1 in
    let named = subst (λ (k : ℕ). Takes bytes (unsigned k) a.0.1) (eqb-true a.0.0 2 g.0) t.0 in
    subst (λ (y : List ℕ). Takes bytes (unsigned 2) y) g.1 named

opened_takes : (room items : ℕ) (bytes rest : List ℕ) → IsBytes bytes → opened_at room items bytes ≡ Ok rest → Takes bytes (array items ++ unsigned 2) rest
unfolding opened_at body_at
opened_takes room items bytes rest fits e =
    let count = bind_ok (array_at room bytes) _ rest e in
    let body = bind_ok (body_at room count.0.0 bytes count.0.1) _ rest count.2 in
    let g = guard_past (eqb count.0.0 0) (stopped faults.Type room bytes) (version_at room count.0.1) body.0 body.1 in
    let h = guard_ended (eqb count.0.0 items) (stopped faults.Type room bytes) body.0 rest body.2 in
    let tc = array_takes room bytes count.0 fits count.1 in
    let tv = version_takes room count.0.1 body.0 tc.0.rest_fits g.1 in
    let all = Takes-then bytes (array count.0.0) count.0.1 (unsigned 2) body.0 tc.0 tv in
    let named = subst (λ (k : ℕ). Takes bytes (array k ++ unsigned 2) body.0) (eqb-true count.0.0 items h.0) all in
    subst (λ (y : List ℕ). Takes bytes (array items ++ unsigned 2) y) h.1 named

positive : (n : ℕ) → eqb n 0 ≡ false → 0 < n
positive zero e = absurd cc
positive (suc n) e = omega arith

source_takes : (room : ℕ) (bytes : List ℕ) (x : ℕ × List ℕ) → IsBytes bytes → source_at room bytes ≡ Ok x → Takes bytes (unsigned x.0) x.1 × (0 < x.0)
unfolding source_at
source_takes room bytes x fits e =
    let t = let_takes room (λ n. eqb n 0) faults.Range bytes x fits e in
    (t.0, positive x.0 t.2)

size_takes : (room : ℕ) (bytes : List ℕ) (x : ℕ × List ℕ) → IsBytes bytes → size_at room bytes ≡ Ok x → Takes bytes (unsigned x.0) x.1
unfolding size_at
size_takes room bytes x fits e =
    let a = bind_ok (below_at room (2 ^ 32) bytes) _ x e in
    let g = guard_ok (eqb a.0.0 0) (stopped faults.Range room bytes) a.0 x a.2 in
    subst (λ (y : ℕ × List ℕ). Takes bytes (unsigned y.0) y.1) g.1 (number_takes room (2 ^ 32) bytes a.0 fits a.1).0

height_takes : (room : ℕ) (limits : Limits) (width : ℕ) (bytes : List ℕ) (x : ℕ × List ℕ) → IsBytes bytes → height_at room limits width bytes ≡ Ok x → Takes bytes (unsigned x.0) x.1 × FitsLimits limits width x.0
unfolding height_at
height_takes room limits width bytes x fits e =
    let a = bind_ok (size_at room bytes) _ x e in
    let g = guard_ok (is_past limits width a.0.0) (stopped faults.Limit room bytes) a.0 x a.2 in
    subst (λ (y : ℕ × List ℕ). Takes bytes (unsigned y.0) y.1 × FitsLimits limits width y.0) g.1 (size_takes room bytes a.0 fits a.1, fits_of limits width a.0.0 g.0)

number_found : (room base : ℕ) (bytes : List ℕ) (x : ℕ × List ℕ) → IsBytes bytes → based_number_at room base bytes ≡ Ok x → Takes bytes (unsigned x.0) x.1
unfolding based_number_at
number_found room base bytes x fits e = (let_takes room (λ n. ltb n base) faults.Range bytes x fits e).0

-- ---- heads

abbrev Read : Type 0
Read = Result (Head × List ℕ) Stop

abbrev from_number : ℕ → ℕ → ℕ → ℕ → ℕ → ℕ × List ℕ → Read
from_number room s w h b n = list_at room n.1 >>= λ c. ok (record { source = s; width = w; height = h; base = b; number = n.0; count = c.0 }) c.1

abbrev from_base : ℕ → ℕ → ℕ → ℕ → ℕ × List ℕ → Read
from_base room s w h b = based_number_at room b.0 b.1 >>= λ n. from_number room s w h b.0 n

abbrev from_height : ℕ → ℕ → ℕ → ℕ × List ℕ → Read
from_height room s w h = unsigned_at room h.1 >>= λ b. from_base room s w h.0 b

abbrev from_width : ℕ → Limits → ℕ → ℕ × List ℕ → Read
from_width room limits s w = height_at room limits w.0 w.1 >>= λ h. from_height room s w.0 h

abbrev from_source : ℕ → Limits → ℕ × List ℕ → Read
from_source room limits s = size_at room s.1 >>= λ w. from_width room limits s.0 w

-- the bytes of a head, but for the number of changes
abbrev pub head_bytes : Head → List ℕ
head_bytes x = array 7 ++ unsigned 2 ++ unsigned x.source ++ unsigned x.width ++ unsigned x.height ++ unsigned x.base ++ unsigned x.number

pub record HeadFound (limits : Limits) (bytes : List ℕ) (x : Head × List ℕ) : Type 0 where
  -- before the number of changes
  pub middle : List ℕ
  pub front : Takes bytes (head_bytes x.0) middle
  pub listed : Takes middle (array x.0.count) x.1
  pub count : x.0.count < 2 ^ 64
  pub few : FitsLimits limits x.0.width x.0.height
  pub named : 0 < x.0.source

pub head_takes : (room : ℕ) (limits : Limits) (bytes : List ℕ) (x : Head × List ℕ) → IsBytes bytes → head_at room limits bytes ≡ Ok x → HeadFound limits bytes x
unfolding head_at
head_takes room limits bytes x fits e =
    let body = bind_ok (opened_at room 7 bytes) _ x e in
    let s = bind_ok (source_at room body.0) _ x body.2 in
    let w = bind_ok (size_at room s.0.1) _ x s.2 in
    let h = bind_ok (height_at room limits w.0.0 w.0.1) _ x w.2 in
    let b = bind_ok (unsigned_at room h.0.1) _ x h.2 in
    let n = bind_ok (based_number_at room b.0.0 b.0.1) _ x b.2 in
    let c = bind_ok (list_at room n.0.1) _ x n.2 in
    let t0 = opened_takes room 7 bytes body.0 fits body.1 in
    let ts = source_takes room body.0 s.0 t0.rest_fits s.1 in
    let tw = size_takes room s.0.1 w.0 ts.0.rest_fits w.1 in
    let th = height_takes room limits w.0.0 w.0.1 h.0 tw.rest_fits h.1 in
    let tb = unsigned_takes room h.0.1 b.0 th.0.rest_fits b.1 in
    let tn = number_found room b.0.0 b.0.1 n.0 tb.0.rest_fits n.1 in
    let tc = list_takes room n.0.1 c.0 tn.rest_fits c.1 in
    let s1 = Takes-then bytes (array 7 ++ unsigned 2) body.0 (unsigned s.0.0) s.0.1 t0 ts.0 in
    let w1 = Takes-then bytes (array 7 ++ unsigned 2 ++ unsigned s.0.0) s.0.1 (unsigned w.0.0) w.0.1 s1 tw in
    let h1 = Takes-then bytes (array 7 ++ unsigned 2 ++ unsigned s.0.0 ++ unsigned w.0.0) w.0.1 (unsigned h.0.0) h.0.1 w1 th.0 in
    let b1 = Takes-then bytes (array 7 ++ unsigned 2 ++ unsigned s.0.0 ++ unsigned w.0.0 ++ unsigned h.0.0) h.0.1 (unsigned b.0.0) b.0.1 h1 tb.0 in
    let n1 = Takes-then bytes (array 7 ++ unsigned 2 ++ unsigned s.0.0 ++ unsigned w.0.0 ++ unsigned h.0.0 ++ unsigned b.0.0) b.0.1 (unsigned n.0.0) n.0.1 b1 tn in
    let made : Head = record { source = s.0.0; width = w.0.0; height = h.0.0; base = b.0.0; number = n.0.0; count = c.0.0 } in
    subst (λ (y : Head × List ℕ). HeadFound limits bytes y) (ok_is {A = Head × List ℕ} {E = Stop} (made, c.0.1) x c.2)
    (record { middle = n.0.1; front = n1; listed = tc.0; count = tc.1; few = th.1; named = ts.1 })

-- ---- answers

pub record AnswerFound (measure : List ℕ → ℕ) (limits : Limits) (bytes : List ℕ) (x : SentAnswer × List ℕ) : Type 0 where
  pub taken : Takes bytes (answer measure x.0) x.1
  pub few : FitsLimits limits x.0.answer.width x.0.answer.height
  pub named : 0 < x.0.source
  pub borne : IsBorne x.0

pub answer_takes : (measure : List ℕ → ℕ) (room : ℕ) (limits : Limits) (bytes : List ℕ) (x : SentAnswer × List ℕ) → IsBytes bytes → answer_in measure room limits bytes ≡ Ok x → AnswerFound measure limits bytes x
unfolding answer_in answer
answer_takes measure room limits bytes x fits e =
    let head = bind_ok (halted None (head_at room limits bytes)) _ x e in
    let cs = bind_ok (each_at measure room (Some head.0.0) [] head.0.0.count head.0.1) _ x head.2 in
    let th = head_takes room limits bytes head.0 fits (halted_ok None (head_at room limits bytes) head.0 head.1) in
    let tc = listed_takes measure room (Some head.0.0) head.0.0.count th.middle head.0.1 cs.0 th.listed th.count cs.1 in
    let all = Takes-then bytes (head_bytes head.0.0) th.middle (changes measure cs.0.0) cs.0.1 th.front tc.0 in
    subst (λ (y : SentAnswer × List ℕ). AnswerFound measure limits bytes y) (ok_is {A = SentAnswer × List ℕ} {E = Halt} (sent_of head.0.0 cs.0.0, cs.0.1) x cs.2)
    (record { taken = all; few = th.few; named = th.named; borne = tc.3 })

-- the regions of what was decoded lie on the rows
pub each_regions : (measure : List ℕ → ℕ) (room : ℕ) (head : Head) (n : ℕ) (bytes : List ℕ) (x : List ChangeValue × List ℕ) → IsBytes bytes → n < 2 ^ 64 → each_at measure room (Some head) [] n bytes ≡ Ok x → regions_fit head.height x.0 ≡ true
each_regions measure room head n bytes x fits lt e =
    let start : Takes (array n ++ bytes) (array n) bytes = record { parts = refl; rest_fits = fits } in
    regions_of head.height x.0 (listed_takes measure room (Some head) n (array n ++ bytes) bytes x start lt e).2

-- the regions of an answer lie on its rows
pub answer_regions : (measure : List ℕ → ℕ) (room : ℕ) (limits : Limits) (bytes : List ℕ) (x : SentAnswer × List ℕ) → IsBytes bytes → answer_in measure room limits bytes ≡ Ok x → regions_fit x.0.answer.height x.0.answer.changes ≡ true
unfolding answer_in
answer_regions measure room limits bytes x fits e =
    let head = bind_ok (halted None (head_at room limits bytes)) _ x e in
    let cs = bind_ok (each_at measure room (Some head.0.0) [] head.0.0.count head.0.1) _ x head.2 in
    let th = head_takes room limits bytes head.0 fits (halted_ok None (head_at room limits bytes) head.0 head.1) in
    let tc = listed_takes measure room (Some head.0.0) head.0.0.count th.middle head.0.1 cs.0 th.listed th.count cs.1 in
    subst (λ (y : SentAnswer × List ℕ). regions_fit y.0.answer.height y.0.answer.changes ≡ true) (ok_is {A = SentAnswer × List ℕ} {E = Halt} (sent_of head.0.0 cs.0.0, cs.0.1) x cs.2) (regions_of head.0.0.height cs.0.0 tc.2)

-- its changes are no more than the bytes that it took
pub answer-some : (measure : List ℕ → ℕ) (s : SentAnswer) (bytes rest : List ℕ) → bytes ≡ answer measure s ++ rest → length s.answer.changes + length rest ≤ length bytes
unfolding answer
answer-some measure s bytes rest e =
    let front : List ℕ = array 7 ++ unsigned 2 ++ unsigned s.source ++ unsigned s.answer.width ++ unsigned s.answer.height ++ unsigned s.answer.base ++ unsigned s.answer.number in
    let cs : List ChangeValue = s.answer.changes in
    let all : length bytes ≡ length (front ++ changes measure cs) + length rest = ap length e ∙ length-append (front ++ changes measure cs) rest in
    let parts : length (front ++ changes measure cs) ≡ length front + length (changes measure cs) = length-append front (changes measure cs) in
    let some : length cs + length rest ≤ length (changes measure cs ++ rest) = changes-some measure cs (changes measure cs ++ rest) rest refl in
    let split : length (changes measure cs ++ rest) ≡ length (changes measure cs) + length rest = length-append (changes measure cs) rest in
    omega (arith, all, parts, some, split)

-- ---- asks

asked_takes : (room source : ℕ) (bytes : List ℕ) (x : ℕ × List ℕ) → IsBytes bytes → asked_at room source bytes ≡ Ok x → Takes bytes (unsigned x.0) x.1
unfolding asked_at
asked_takes room source bytes x fits e = (let_takes room (λ n. eqb source 0 && not (eqb n 0)) faults.Range bytes x fits e).0

pub ask_takes : (room : ℕ) (bytes : List ℕ) (x : Ask × List ℕ) → IsBytes bytes → ask_in room bytes ≡ Ok x → Takes bytes (ask x.0) x.1
unfolding ask_in ask
ask_takes room bytes x fits e =
    let body = bind_ok (opened_at room 3 bytes) _ x e in
    let s = bind_ok (unsigned_at room body.0) _ x body.2 in
    let n = bind_ok (asked_at room s.0.0 s.0.1) _ x s.2 in
    let t0 = opened_takes room 3 bytes body.0 fits body.1 in
    let ts = unsigned_takes room body.0 s.0 t0.rest_fits s.1 in
    let tn = asked_takes room s.0.0 s.0.1 n.0 ts.0.rest_fits n.1 in
    let s1 = Takes-then bytes (array 3 ++ unsigned 2) body.0 (unsigned s.0.0) s.0.1 t0 ts.0 in
    let all = Takes-then bytes (array 3 ++ unsigned 2 ++ unsigned s.0.0) s.0.1 (unsigned n.0.0) n.0.1 s1 tn in
    let made : Ask = record { source = s.0.0; number = n.0.0 } in
    subst (λ (y : Ask × List ℕ). Takes bytes (ask y.0) y.1) (ok_is {A = Ask × List ℕ} {E = Stop} (made, n.0.1) x n.2) all
