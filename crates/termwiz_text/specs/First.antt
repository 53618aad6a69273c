-- The first grapheme of a text.
use Rattle.std.specs.Prelude.{◌≡◌, ℕ, ◌<◌, true, List, [], ◌∷◌, length}
use Rattle.unicode_segmentation.specs.Grapheme.{graphemes}

-- the text is a grapheme and what follows it
pub record IsFirst (text first rest : List ℕ) : Type 0 where
  pub graphemes_are : graphemes true text ≡ first ∷ graphemes true rest
  -- the grapheme is one by itself
  pub alone : graphemes true first ≡ first ∷ []
  pub shrinks : length rest < length text
