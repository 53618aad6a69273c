-- What bytes decide, when more may follow them.
use Rattle.std.specs.Prelude.{◌≡◌, ◌≢◌, ◌⊎◌, ℕ, ◌+◌, ◌<◌, ◌≤◌, List, ◌++◌, length, take, Result, Ok, Err}
use Rattle.cbor.specs.declared.error.FaultKind.{FaultKind}
use Rattle.cbor.specs.declared.error.FaultKind.TheVariants.{Truncated}
use Rattle.cbor.specs.Decoding.{Stop}

-- more bytes come after those that a value left
abbrev pub left : {A : Type 0} → A × List ℕ → List ℕ → A × List ℕ
left x more = (x.0, x.1 ++ more)

-- where nothing is decoded but a head, it left these
abbrev pub rest_with : List ℕ → List ℕ → List ℕ
rest_with rest more = rest ++ more

-- what was read without taking bytes stays, whatever bytes follow
abbrev pub seen : {A : Type 0} → A → List ℕ → A
seen x more = x

-- the fault of an item
abbrev pub itself : FaultKind → FaultKind
itself f = f

-- the fault at which decoding stops
abbrev pub fault : Stop → FaultKind
fault s = s.fault

-- what decoding gave, and what it gives with more bytes: but for `Truncated` it is the same, at the
-- same place
abbrev pub StaysDecoded :
    {Y E : Type 0} → (E → FaultKind) → (Y → List ℕ → Y) → List ℕ → Result Y E → Result Y E → Type 0
StaysDecoded fault grow more (Ok y) later = later ≡ Ok (grow y more)
StaysDecoded fault grow more (Err e) later = (fault e ≡ Truncated) ⊎ (later ≡ Err e)

-- it is a value, or a fault other than `Truncated`
abbrev pub Decides : {Y E : Type 0} → (E → FaultKind) → Result Y E → Type 0
Decides fault (Ok y) = Unit {0}
Decides fault (Err e) = fault e ≢ Truncated

-- a decoding from left to right: a value or a fault stays as it is, whatever follows within the
-- limit, and at the limit there is one
pub record DecodesPrefixes {Y E : Type 0} (fault : E → FaultKind) (grow : Y → List ℕ → Y)
    (read : ℕ → List ℕ → Result Y E) : Type 0 where
  pub stays :
      (room : ℕ) (bytes more : List ℕ) →
      StaysDecoded fault grow more (read (length more + room) bytes) (read room (bytes ++ more))
  pub ends : (bytes : List ℕ) → Decides fault (read 0 bytes)

-- decoding fails with this fault
abbrev pub FailsBy : {Y E : Type 0} → (E → FaultKind) → FaultKind → Result Y E → Type 0
FailsBy fault f (Ok y) = ⊥
FailsBy fault f (Err e) = fault e ≡ f

-- each beginning of a value's bytes that is not all of them is truncated, where they are within the
-- limit
abbrev pub BeginningsOf :
    {A E : Type 0} → (E → FaultKind) → (ℕ → List ℕ → Result (A × List ℕ) E) → List ℕ → Type 0
BeginningsOf fault read bytes =
    (room k : ℕ) → k < length bytes → length bytes ≤ room + k →
    FailsBy fault Truncated (read room (take k bytes))
