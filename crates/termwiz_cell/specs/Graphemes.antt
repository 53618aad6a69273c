-- Texts cut into graphemes: the extended grapheme clusters of UAX 29.
use Rattle.std.specs.Prelude.{ℕ, Bool, true, ◌==◌, List, length, if◌then◌else◌, [], ◌∷◌}
use Rattle.unicode_segmentation.specs.Grapheme.{graphemes}

-- the text is one grapheme by itself
abbrev pub is_single : List ℕ → Bool
is_single text = length (graphemes true text) == 1

-- U+FFFD
abbrev pub replacement : List ℕ
replacement = 239 ∷ 191 ∷ 189 ∷ []

-- the text that is stored for a grapheme of a longer text: itself where it is one grapheme by
-- itself
abbrev pub single : List ℕ → List ℕ
single g = if is_single g then g else replacement
