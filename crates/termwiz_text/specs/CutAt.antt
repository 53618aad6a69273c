-- Where a text may be cut, as where another was joined to it.
use Rattle.std.specs.Prelude.{◌≡◌, ℕ, ◌<◌, true, List, ◌++◌, length, take, drop}
use Rattle.std.specs.Str.{IsCharBoundary}
use Rattle.unicode_segmentation.specs.Grapheme.{graphemes}

-- the text may be cut at the place: the graphemes before it and those after it are the text's
pub record IsCutAt (text : List ℕ) (at : ℕ) : Type 0 where
  -- something stands after the place, unless it is the beginning
  pub within : 0 < at → at < length text
  pub boundary : IsCharBoundary text at
  pub apart : graphemes true text ≡ graphemes true (take at text) ++ graphemes true (drop at text)
