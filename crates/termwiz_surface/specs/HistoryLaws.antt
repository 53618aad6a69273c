-- What happens to a surface leaves what its numbers named, screens and full screens; and an answer
-- leads to the picture that its number names.
use Rattle.std.specs.Prelude.{◌≡◌, ℕ, ◌≤◌, false, List, []}
use Rattle.termwiz_cell.specs.ChangeValue.{ChangeValue}
use Rattle.termwiz_surface.specs.Answer.{AnswerValue, IsGiven, Carries, is_stale}
use Rattle.termwiz_surface.specs.Following.{LeadsTo}
use Rattle.termwiz_surface.specs.History.{Names, IsPast, GoesOn}
use Rattle.termwiz_screen.specs.Log.{LogValue, next_number, appended, flushed, restarted}
use Rattle.termwiz_screen.specs.Picture.{Pictures, played}

-- what a number named it still names
abbrev pub NamesStay : Type 0 → Type 0
NamesStay P =
    (past later : ℕ → P) (n : ℕ) (p : P) → later n ≡ past n → Names past n p → Names later n p

module _ {P : Type 0} (pictures : Pictures P) where
  -- a surface that never changed has any past: its one number is 0
  abbrev pub NothingIsNamedAtFirst : Type 0
  NothingIsNamedAtFirst =
      (measure : List ℕ → ℕ) (past : ℕ → P) (p : P) →
      IsPast pictures measure past p (record { first = 0; changes = [] })

  -- the surface's own number names its picture
  abbrev pub NumberNamesPicture : Type 0
  NumberNamesPicture =
      (measure : List ℕ → ℕ) (past : ℕ → P) (p : P) (log : LogValue) →
      IsPast pictures measure past p log → Names past (next_number log) p

  -- a viewer that shows what its number names is led to the surface's picture
  abbrev pub NamedAreLed : Type 0
  NamedAreLed =
      (measure : List ℕ → ℕ) (past : ℕ → P) (v p : P) (n : ℕ) (log : LogValue) →
      IsPast pictures measure past p log → n ≤ next_number log → Names past n v →
      LeadsTo pictures measure v n p log

  -- changes that are made and logged take new numbers
  abbrev pub ChangesGoOn : Type 0
  ChangesGoOn =
      (measure : List ℕ → ℕ) (past : ℕ → P) (p q : P) (log : LogValue) (changes : List ChangeValue)
      →
      (pictures.screen q).width ≡ (pictures.screen p).width →
      (pictures.screen q).height ≡ (pictures.screen p).height →
      q ≡ played pictures measure p changes →
      IsPast pictures measure past p log →
      GoesOn pictures measure past (next_number log) q (appended log changes)

  -- a flush changes nothing of what numbers named
  abbrev pub FlushesKeepPast : Type 0
  FlushesKeepPast =
      (measure : List ℕ → ℕ) (past : ℕ → P) (p : P) (n : ℕ) (log : LogValue) →
      IsPast pictures measure past p log → IsPast pictures measure past p (flushed log n)

  -- want of memory and another size take a new number, whatever picture they leave; or the number
  -- is 0, which names none
  abbrev pub RestartsGoOn : Type 0
  RestartsGoOn =
      (measure : List ℕ → ℕ) (past : ℕ → P) (p q : P) (log : LogValue) →
      IsPast pictures measure past p log →
      GoesOn pictures measure past (next_number log) q (restarted log)

  -- answers that were given lead where they led
  abbrev pub AnswersStay : Type 0
  AnswersStay =
      (measure : List ℕ → ℕ) (past later : ℕ → P) (n : ℕ) (p : P) (a : AnswerValue) →
      ((k : ℕ) → k ≤ n → later k ≡ past k) → a.number ≤ n →
      Carries pictures measure past a p → Carries pictures measure later a p

  -- a surface's answer leads to its picture
  abbrev pub GivenCarry : Type 0
  GivenCarry =
      (measure : List ℕ → ℕ) (past : ℕ → P) (p : P) (log : LogValue) (n : ℕ) (a : AnswerValue) →
      IsPast pictures measure past p log → IsGiven pictures measure p log n a →
      Carries pictures measure past a p

  -- a viewer that shows what its number names, in the answer's size, and makes the changes of an
  -- answer that isn't stale has the picture that the surface had when it gave the answer
  abbrev pub CarriedLead : Type 0
  CarriedLead =
      (measure : List ℕ → ℕ) (past : ℕ → P) (a : AnswerValue) (p v : P) (n : ℕ) →
      pictures.IsSized a.width a.height v → is_stale n a ≡ false → Names past n v →
      Carries pictures measure past a p → played pictures measure v a.changes ≡ p
