-- What is read of widths: their number, and the ranges of a table.
use Rattle.std.specs.Prelude.{◌≡◌, ℕ, ◌<◌, ◌≤◌, Ok, Err, List, length}
use Rattle.tikeburo_c.specs.Outcomes.{Outcome}
use Rattle.tikeburo_c.specs.Rows.{at_front}
use Rattle.tikeburo_c.specs.Widths.{choice_number, ranges_of}
use Rattle.tikeburo_c.specs.declared.failure.Failure.TheVariants.{Short}
use Rattle.tikeburo_c.specs.declared.tables.WidthRange.{WidthRange}
use Rattle.tikeburo_c.specs.declared.widths.ChosenWidths.{ChosenWidths}

-- a caller's number and array, with the count beside them
pub record WidthsPlace : Type 0 where
  pub number : ℕ
  pub ranges : List WidthRange
  pub count : ℕ

abbrev pub widths_place : ℕ → List WidthRange → ℕ → WidthsPlace
widths_place number ranges count = record { number = number; ranges = ranges; count = count }

-- the number is there, and the ranges are at the array's front, with their count, or the array is
-- too short and there is only the count
abbrev pub GivesWidths : ChosenWidths → WidthsPlace → Outcome → WidthsPlace → Type 0
GivesWidths widths old (Ok _) new =
    let ranges = ranges_of widths.choice in
    (length ranges ≤ length old.ranges) × (new ≡ record {
      number = choice_number widths.choice;
      ranges = at_front ranges old.ranges;
      count = length ranges;
    })
GivesWidths widths old (Err Short) new =
    let ranges = ranges_of widths.choice in
    (length old.ranges < length ranges) × (new ≡ record old { count = length ranges })
GivesWidths widths old (Err _) new = ⊥
