-- How much of some bytes is written where a write may fail.
use Rattle.std.specs.Io.KnownBytes.{Appends}
use Rattle.std.specs.Prelude.{◌≡◌, ℕ, List, ◌++◌, Option}

-- known bytes grow by a beginning of bs
pub record AppendsSome (old new : Option (List ℕ)) (bs : List ℕ) : Type 0 where
  pub written : List ℕ
  pub left : List ℕ
  pub parts : bs ≡ written ++ left
  pub appended : Appends old new written
