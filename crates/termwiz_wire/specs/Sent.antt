-- How answers and asks are encoded.
use Rattle.std.specs.Prelude.{◌≡◌, ℕ, ◌-◌, ◌<◌, ◌≤◌, ◌^◌, Bool, true, false, List, ◌++◌, length}
use Rattle.cbor.specs.Encoding.{unsigned, array}
use Rattle.termwiz_surface.specs.Answer.{IsWellFormed}
use Rattle.termwiz_wire.specs.Encoding.{changes}
use Rattle.termwiz_wire.specs.Forms.{AreChanges}
use Rattle.termwiz_wire.specs.declared.sent.SentAnswer.{SentAnswer}
use Rattle.termwiz_wire.specs.declared.sent.Ask.{Ask}

-- the version, the source, the size, the base, the number, and the changes
unfoldable pub answer : (List ℕ → ℕ) → SentAnswer → List ℕ
answer measure s =
    array 7 ++ unsigned 2 ++ unsigned s.source ++ unsigned s.answer.width ++
    unsigned s.answer.height ++ unsigned s.answer.base ++ unsigned s.answer.number ++
    changes measure s.answer.changes

-- the version, the source and the number
unfoldable pub ask : Ask → List ℕ
ask a = array 3 ++ unsigned 2 ++ unsigned a.source ++ unsigned a.number

-- these encoded bytes are appended where they are at most `most`; otherwise nothing is appended,
-- and the result is false
abbrev pub EncodesWithin : List ℕ → ℕ → List ℕ → Bool → List ℕ → Type 0
EncodesWithin bytes most before true after = (after ≡ before ++ bytes) × (length bytes ≤ most)
EncodesWithin bytes most before false after =
    (after ≡ before) × (most < length bytes) × (most < 2 ^ 64 - 1)

-- what has an encoding: each answer of a program does, with the number of a source
pub record IsSent (measure : List ℕ → ℕ) (s : SentAnswer) : Type 0 where
  pub some_source : 0 < s.source
  pub source : s.source < 2 ^ 64
  pub well_formed : IsWellFormed s.answer
  pub base : s.answer.base < 2 ^ 64
  pub number : s.answer.number < 2 ^ 64
  pub changes : AreChanges measure s.answer.changes

-- an ask that names no source has no number
pub record IsAsk (a : Ask) : Type 0 where
  pub source : a.source < 2 ^ 64
  pub number : a.number < 2 ^ 64
  pub named : a.source ≡ 0 → a.number ≡ 0
