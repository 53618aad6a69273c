-- What the head of a response says.
use Rattle.std.proofs.Common.{◌≡◌, ℕ, ◌-◌, ◌*◌, ◌^◌, ◌<◌, ◌≤◌, List, [], ◌++◌, length, Result, Ok, Err, sym, ap, subst, ◌∙◌, append-nil, arith}
use Rattle.std.specs.Prelude.{◌⊎◌}
use Rattle.std.proofs.lemmas.Nat.{mul-le}
use Rattle.termwiz_share.specs.Source.{IsResponse, SourceValue, sent_by}
use Rattle.termwiz_wire.specs.Answers.{head_of}
use Rattle.termwiz_wire.specs.Screens.{FitsLimits}
use Rattle.termwiz_wire.specs.Sent.{IsSent, answer}
use Rattle.termwiz_wire.specs.declared.fault.Limits.{Limits}
use Rattle.termwiz_wire.specs.declared.decode.heads.Head.{Head}
use Rattle.termwiz_wire.specs.declared.fault.Fault.{Fault}
use Rattle.termwiz_wire.specs.declared.sent.Ask.{Ask}
use Rattle.termwiz_wire.specs.declared.sent.SentAnswer.{SentAnswer}

abbrev any_size : Limits
any_size = record { cells = 2 ^ 64 - 1; rows = 2 ^ 64 - 1; bytes = 2 ^ 64 - 1 }

few : (w h : ℕ) → w < 2 ^ 32 → h < 2 ^ 32 → FitsLimits any_size w h
few w h fits fits_height =
    let bound : w * h ≤ (2 ^ 32 - 1) * (2 ^ 32 - 1) = mul-le w h (2 ^ 32 - 1) (2 ^ 32 - 1) (omega (arith, fits)) (omega (arith, fits_height)) in
    record { cells = omega (arith, bound); rows = omega (arith, fits_height) }

abbrev found : Head → Result Head Fault
found head = Ok head

-- an answer with this head leads on from what the ask names, or from nothing
abbrev pub Leads : Head → Ask → Type 0
Leads head ask = (head.base ≡ 0) ⊎ ((ask.source ≡ head.source) × (head.base ≡ ask.number))

module _ {W : Type 0} (measure_of : W → List ℕ → ℕ) (s : SourceValue W) (bytes : List ℕ) (read : Result Head Fault) (lt : length bytes < 2 ^ 64) (again : (measure : List ℕ → ℕ) (sent : SentAnswer) (rest : List ℕ) → IsSent measure sent → FitsLimits any_size sent.answer.width sent.answer.height → length (answer measure sent) ≤ 2 ^ 64 - 1 → bytes ≡ answer measure sent ++ rest → read ≡ Ok (head_of sent)) where
  head_given : (ask : Ask) (r : IsResponse measure_of s ask bytes) → read ≡ Ok (head_of (sent_by s.number r.given))
  head_given ask r =
      let len = ap length r.encoded in
      again (measure_of s.surface.widths) (sent_by s.number r.given) [] r.is_sent (few r.given.width r.given.height r.is_sent.well_formed.fits r.is_sent.well_formed.fits_height) (omega (arith, lt, len)) (r.encoded ∙ sym (append-nil _))

  same_head : (ask : Ask) (r : IsResponse measure_of s ask bytes) (head : Head) → read ≡ Ok head → head ≡ head_of (sent_by s.number r.given)
  same_head ask r head is = let e : found head ≡ found (head_of (sent_by s.number r.given)) = sym is ∙ head_given ask r in cc

  -- a response that leads on from what another ask names answers that one too
  pub answers_too : (ask other : Ask) (head : Head) → IsResponse measure_of s ask bytes → read ≡ Ok head → Leads head other → IsResponse measure_of s other bytes
  answers_too ask other head r is leads = record {
    given = r.given;
    encoded = r.encoded;
    is_sent = r.is_sent;
    width = r.width;
    height = r.height;
    sized = r.sized;
    number = r.number;
    from = subst (λ (h : Head). Leads h other) (same_head ask r head is) leads;
    carries = r.carries;
    few = r.few;
    borne = r.borne;
  }

  -- and what answers an ask leads on from what it names
  pub leads_own : (ask : Ask) (head : Head) → IsResponse measure_of s ask bytes → read ≡ Ok head → Leads head ask
  leads_own ask head r is = subst (λ (h : Head). Leads h ask) (sym (same_head ask r head is)) r.from

  pub no_fault : (ask : Ask) (f : Fault) → IsResponse measure_of s ask bytes → read ≡ Err f → ⊥
  no_fault ask f r is = let e = sym is ∙ head_given ask r in absurd cc
