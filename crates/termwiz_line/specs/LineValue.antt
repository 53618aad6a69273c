-- A line, as contracts see it: its stored cells, its number, its flags, and whether the cells are
-- stored as a vector.
use Rattle.std.specs.Prelude.{◌≡◌, ◌≢◌, ℕ, ◌<◌, max, Bool, true, false, List, length}
use Rattle.termwiz_cell.specs.CellValue.{CellValue}
use Rattle.termwiz_storage.specs.Stored.{IsPruned}
use Rattle.termwiz_line.specs.LineFlags.{LineFlags}

pub record LineValue : Type 0 where
  pub cells : List CellValue
  pub seqno : ℕ
  pub flags : LineFlags
  pub is_vector : Bool

-- number, flags and cells are as before, though perhaps stored in another form; a vector stays one
pub record IsUnchanged (old new : LineValue) : Type 0 where
  pub cells : new.cells ≡ old.cells
  pub number : new.seqno ≡ old.seqno
  pub flags : new.flags ≡ old.flags
  pub vector : old.is_vector ≡ true → new.is_vector ≡ true

-- the line has these cells now, and takes the number; its flags stay, and a vector stays one
pub record IsEdited (old : LineValue) (cells : List CellValue) (seqno : ℕ) (new : LineValue) :
    Type 0 where
  pub cells_are : new.cells ≡ cells
  pub number : new.seqno ≡ max old.seqno seqno
  pub flags : new.flags ≡ old.flags
  pub vector : old.is_vector ≡ true → new.is_vector ≡ true

-- a cell that is set at column x, directly after the last one of a text, is appended to it
abbrev pub AppendsAt : ℕ → LineValue → LineValue → Type 0
AppendsAt x old new = old.is_vector ≡ false → x ≡ length old.cells → new.is_vector ≡ false

-- a cell that is set at a column x elsewhere makes a vector
abbrev pub EditsElsewhere : ℕ → LineValue → LineValue → Type 0
EditsElsewhere x old new = x ≢ length old.cells → new.is_vector ≡ true

-- trailing default blanks are cut, unless that leaves nothing; where that changes the line it takes
-- the number and is a vector, and otherwise it keeps its form; its flags stay
pub record Prunes (old : LineValue) (seqno : ℕ) (new : LineValue) : Type 0 where
  pub cells : IsPruned old.cells new.cells
  pub shorter : length new.cells < length old.cells → new.seqno ≡ max old.seqno seqno
  pub as_long : length new.cells ≡ length old.cells → new.seqno ≡ old.seqno
  pub made : length new.cells < length old.cells → new.is_vector ≡ true
  pub form : length new.cells ≡ length old.cells → new.is_vector ≡ old.is_vector
  pub flags : new.flags ≡ old.flags
  pub vector : old.is_vector ≡ true → new.is_vector ≡ true
