-- Setting the letters that a text begins with.
use Rattle.std.specs.Prelude.{ℕ, ◌/◌, List}
use Rattle.std.specs.Str.{chars}
use Rattle.termwiz_surface.specs.{IsEdited, IsLetterRun, LineValue, default_attributes, set_letters}

-- the text's first letters that fit in the columns come to the cells from a column on, the line
-- takes the number, and the rest of the text is left
pub record SetsFirstLetters (column columns : ℕ) (text rest : List ℕ) (seqno : ℕ)
    (old new : LineValue) : Type 0 where
  pub letters : List ℕ
  pub run : IsLetterRun text (columns / 2) letters rest
  pub set : IsEdited old (set_letters column (chars letters) default_attributes old.cells) seqno new
