-- ASCII in texts: a byte is a character.
use Rattle.std.proofs.Common.{◌≡◌, ℕ, ◌<◌, true, List, [], ◌∷◌, ◌++◌, sym, ap, ◌∙◌}
use Rattle.std.proofs.lemmas.Str.{chars_past_char, IsUtf8-past_char, encode_ascii}
use Rattle.std.specs.Prelude.{encode_utf8}
use Rattle.std.specs.Str.{chars, IsUtf8}
use Rattle.unicode_segmentation.specs.Grapheme.{graphemes}
use Rattle.termwiz_text.proofs.Boundaries.{breaks}
use Rattle.termwiz_text.proofs.Pieces.{graphemes_past_char}

pub past_ascii : (p : ℕ) (b : List ℕ) → p < 128 → p ∷ b ≡ encode_utf8 p ++ b
past_ascii p b l = sym (ap (λ t. t ++ b) (encode_ascii p l))

pub chars_ascii : (p : ℕ) (b : List ℕ) → IsUtf8 (p ∷ b) → p < 128 → chars (p ∷ b) ≡ p ∷ chars b
chars_ascii p b u l = chars_past_char (p ∷ b) b p u (past_ascii p b l)

pub IsUtf8-past_ascii : (p : ℕ) (b : List ℕ) → IsUtf8 (p ∷ b) → p < 128 → IsUtf8 b
IsUtf8-past_ascii p b u l = IsUtf8-past_char (p ∷ b) b p u (past_ascii p b l)

-- a character of ASCII with a boundary after it is the first grapheme
pub graphemes_ascii : (p : ℕ) (b : List ℕ) → IsUtf8 (p ∷ b) → p < 128 → breaks (p ∷ []) (chars b) ≡ true → graphemes true (p ∷ b) ≡ (p ∷ []) ∷ graphemes true b
graphemes_ascii p b u l ends = graphemes_past_char (p ∷ b) b p u (past_ascii p b l) ends ∙ ap (λ g. g ∷ graphemes true b) (encode_ascii p l)
