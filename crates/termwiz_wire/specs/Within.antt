-- Answers that are within the limits, and cost no more than what they show.
use Rattle.std.specs.Prelude.{◌≡◌, ◌⊎◌, ℕ, ◌<◌, ◌≤◌, true, List, length}
use Rattle.termwiz_wire.specs.Screens.{FitsLimits, is_past}
use Rattle.termwiz_wire.specs.Sent.{answer}
use Rattle.termwiz_wire.specs.Work.{most_work, work_of}
use Rattle.termwiz_wire.specs.declared.fault.Limits.{Limits}
use Rattle.termwiz_wire.specs.declared.sent.SentAnswer.{SentAnswer}

-- the work of an answer's changes on its screen
abbrev pub answer_work : SentAnswer → ℕ
answer_work s = work_of s.answer.width s.answer.height s.answer.changes

-- the screen bears it
abbrev pub IsBorne : SentAnswer → Type 0
IsBorne s = answer_work s ≤ most_work s.answer.width s.answer.height

-- an answer that is decoded within these limits
pub record IsWithinLimits (measure : List ℕ → ℕ) (limits : Limits) (s : SentAnswer) : Type 0 where
  pub screen : FitsLimits limits s.answer.width s.answer.height
  pub bytes : length (answer measure s) ≤ limits.bytes
  pub borne : IsBorne s

-- one that isn't
abbrev pub IsBeyond : (List ℕ → ℕ) → Limits → SentAnswer → Type 0
IsBeyond measure limits s =
    (is_past limits s.answer.width s.answer.height ≡ true) ⊎
    (limits.bytes < length (answer measure s)) ⊎
    (most_work s.answer.width s.answer.height < answer_work s)
