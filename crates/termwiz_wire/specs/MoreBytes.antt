-- What bytes of answers decide, when more may follow them.
use Rattle.std.specs.Prelude.{◌≡◌, ℕ, List, [], ◌++◌, Result, Ok, Err}
use Rattle.cbor.specs.declared.error.FaultKind.{FaultKind}
use Rattle.cbor.specs.declared.error.FaultKind.TheVariants.{Limit, Truncated}
use Rattle.termwiz_wire.specs.Answers.{Halt, answer_at}
use Rattle.termwiz_wire.specs.Sent.{IsSent, answer}
use Rattle.termwiz_wire.specs.Within.{IsBeyond, IsWithinLimits}
use Rattle.termwiz_wire.specs.declared.fault.Fault.{Fault}
use Rattle.termwiz_wire.specs.declared.fault.Limits.{Limits}
use Rattle.termwiz_wire.specs.declared.sent.SentAnswer.{SentAnswer}

-- the fault at which decoding halts
abbrev pub halt : Halt → FaultKind
halt h = h.stop.fault

-- the kind of a fault
abbrev pub kind : Fault → FaultKind
kind f = f.kind

-- more bytes may make an answer
abbrev pub IsTruncated : Fault → Type 0
IsTruncated f = f.kind ≡ Truncated

-- nothing is decoded from no bytes, and what is decoded, and a fault that is not cut, stays as it
-- is with more bytes after them
pub record Goes {T E : Type 0} (read : List ℕ → Result (T × List ℕ) E) (IsCut : E → Type 0) :
    Type 0 where
  pub first : E
  pub starts : read [] ≡ Err first
  pub starts_cut : IsCut first
  pub value :
      (bytes more : List ℕ) (x : T) (rest : List ℕ) → read bytes ≡ Ok (x, rest) →
      read (bytes ++ more) ≡ Ok (x, rest ++ more)
  pub fault :
      (bytes more : List ℕ) (e : E) → read bytes ≡ Err e → (IsCut e → ⊥) →
      read (bytes ++ more) ≡ Err e

-- what is encoded is decoded again, whatever follows it, if the limits allow it, and else it is
-- past them
pub record Laws (measure : List ℕ → ℕ) (limits : Limits) : Type 0 where
  pub goes : Goes (answer_at measure limits) IsTruncated
  pub limited :
      (a : SentAnswer) (rest : List ℕ) → IsSent measure a → IsBeyond measure limits a →
      (f : Fault) × (answer_at measure limits (answer measure a ++ rest) ≡ Err f) × (f.kind ≡ Limit)
  pub again :
      (a : SentAnswer) (rest : List ℕ) → IsSent measure a → IsWithinLimits measure limits a →
      answer_at measure limits (answer measure a ++ rest) ≡ Ok (a, rest)
