-- What a row has beside its cells: its flags, and the form in which it is stored.
use Rattle.std.specs.Prelude.{◌≡◌, true, List, map}
use Rattle.std.specs.List.{All}
use Rattle.termwiz_line.specs.LineFlags.{LineFlags}
use Rattle.termwiz_line.specs.LineValue.{LineValue}

-- the flags of each row
abbrev pub row_flags : List LineValue → List LineFlags
row_flags rows = map (λ l. l.flags) rows

-- each row is stored as a vector
pub record AreVectors (rows : List LineValue) : Type 0 where
  pub each : All (λ l. l.is_vector ≡ true) rows

-- a row has the flags that it had, and a vector stays one
pub record KeepsSide (old new : LineValue) : Type 0 where
  pub flags : new.flags ≡ old.flags
  pub vector : old.is_vector ≡ true → new.is_vector ≡ true

-- the rows have the flags that they had, and vectors stay vectors
pub record KeepSides (old new : List LineValue) : Type 0 where
  pub flags : row_flags new ≡ row_flags old
  pub vectors : AreVectors old → AreVectors new
