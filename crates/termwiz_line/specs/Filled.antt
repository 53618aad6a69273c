-- What filling columns of a line leaves.
use Rattle.std.specs.Prelude.{◌≡◌, ◌≢◌, ℕ, suc, ◌-◌, ◌<◌, ◌≤◌, nat_lt, max, true, false, [], length, if◌then◌else◌}
use Rattle.termwiz_cell.specs.CellValue.{CellValue, blank, is_wide}
use Rattle.termwiz_storage.specs.Stored.{fill}
use Rattle.termwiz_storage.specs.FilledAs.{IsFilledAs}
use Rattle.termwiz_line.specs.LineValue.{LineValue, Prunes}

-- a number that is taken once something was done
abbrev pub taken : ℕ → ℕ → ℕ → ℕ
taken count old seqno = if nat_lt 0 count then max old seqno else old

-- the cell is set in this many columns, in order; the line takes the number with the first
pub record Fills (old : LineValue) (count from : ℕ) (c : CellValue) (seqno : ℕ) (new : LineValue) :
    Type 0 where
  pub cells : new.cells ≡ fill count from c old.cells
  pub number : new.seqno ≡ taken count old.seqno seqno
  pub flags : new.flags ≡ old.flags
  pub vector : old.is_vector ≡ true → new.is_vector ≡ true

-- the cell is set in each column from a to b - 1, which leaves what the form says, and then the
-- line is pruned
pub record FillsAndPrunes (old : LineValue) (a b : ℕ) (c : CellValue) (seqno : ℕ)
    (new : LineValue) : Type 0 where
  pub full : LineValue
  pub fills : Fills old (b - a) a c seqno full
  pub form : a < b → IsFilledAs a b c old.cells full.cells
  pub prunes : Prunes full seqno new

-- an empty line stays where the cell is a default blank, and is filled otherwise
pub record IsFilled (old : LineValue) (a b : ℕ) (c : CellValue) (seqno : ℕ) (new : LineValue) :
    Type 0 where
  pub nothing : old.cells ≡ [] → c ≡ blank → new ≡ old
  pub filled : ((old.cells ≡ []) × (c ≡ blank) → ⊥) → FillsAndPrunes old a b c seqno new

-- the cell is set in some first ones of the columns from a to b - 1
pub record IsPartlyFilled (old : LineValue) (a b : ℕ) (c : CellValue) (seqno : ℕ)
    (new : LineValue) : Type 0 where
  pub count : ℕ
  pub within : count ≤ b - a
  pub fills : Fills old count a c seqno new

-- cells that aren't default blanks, set in the columns from a to b - 1, directly after the last
-- cell of a text, are appended to the text; of wide ones a single one
abbrev pub AppendsCells : LineValue → ℕ → ℕ → CellValue → LineValue → Type 0
AppendsCells old a b c new =
    old.is_vector ≡ false → a ≡ length old.cells → a < b → (is_wide c ≡ true → b ≡ suc a) →
    c ≢ blank → new.is_vector ≡ false

-- what is set in the columns from a to b - 1 makes a vector, where it is
pub record MakesVector (old : LineValue) (a b : ℕ) (c : CellValue) (new : LineValue) : Type 0 where
  -- default blanks
  pub blanks : c ≡ blank → a < b → old.cells ≢ [] → new.is_vector ≡ true
  -- other cells, the first of them elsewhere than directly after the last cell
  pub first : c ≢ blank → a < b → a ≢ length old.cells → new.is_vector ≡ true
  -- other cells, wide and more than one
  pub second : c ≢ blank → suc a < b → is_wide c ≡ true → new.is_vector ≡ true
