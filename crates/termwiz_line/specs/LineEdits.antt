-- What edits leave of a line, where they do more or less than give it other cells and the number.
use Rattle.std.specs.Prelude.{◌≡◌, ℕ, ◌<◌, ◌≤◌, true, List, length}
use Rattle.termwiz_cell.specs.CellValue.{CellValue}
use Rattle.termwiz_line.specs.LineFlags.{no_flags}
use Rattle.termwiz_line.specs.LineValue.{LineValue, IsEdited}

-- a vector of these cells with this number, and without flags
pub record IsMade (cells : List CellValue) (seqno : ℕ) (line : LineValue) : Type 0 where
  pub cells_are : line.cells ≡ cells
  pub number : line.seqno ≡ seqno
  pub flags : line.flags ≡ no_flags
  pub vector : line.is_vector ≡ true

-- the line has these cells now; its number and its flags stay, and a vector stays one
pub record HasCells (old : LineValue) (cells : List CellValue) (new : LineValue) : Type 0 where
  pub cells_are : new.cells ≡ cells
  pub number : new.seqno ≡ old.seqno
  pub flags : new.flags ≡ old.flags
  pub vector : old.is_vector ≡ true → new.is_vector ≡ true

-- these cells come out of the line with its flags and this number; out of a vector comes one
pub record IsTakenFrom (old : LineValue) (cells : List CellValue) (seqno : ℕ) (part : LineValue) :
    Type 0 where
  pub cells_are : part.cells ≡ cells
  pub number : part.seqno ≡ seqno
  pub flags : part.flags ≡ old.flags
  pub vector : old.is_vector ≡ true → part.is_vector ≡ true

-- where a cell stands at column x the line has these cells now and takes the number; past its end
-- nothing changes
pub record IsEditedAt (x : ℕ) (old : LineValue) (cells : List CellValue) (seqno : ℕ)
    (new : LineValue) : Type 0 where
  pub inside : x < length old.cells → IsEdited old cells seqno new
  pub past_end : length old.cells ≤ x → new ≡ old
