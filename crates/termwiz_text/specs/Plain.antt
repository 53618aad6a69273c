-- Printable ASCII, U+0020 to U+007E: a space, or a letter, digit or sign.
use Rattle.std.specs.Prelude.{◌≡◌, ℕ, ◌<◌, ◌≤◌, Bool, true, false, ◌&&◌, nat_le, List, [], ◌∷◌, ◌++◌, map, length}
use Rattle.std.specs.Char.{is_ascii}
use Rattle.std.specs.List.{list_all}
use Rattle.std.specs.Str.{chars}
use Rattle.unicode_segmentation.specs.Grapheme.{graphemes}
use Rattle.termwiz_text.specs.Letter.{begins_simple}

abbrev pub is_plain : ℕ → Bool
is_plain c = nat_le 0x20 c && nat_le c 0x7E

-- nothing, or a character of ASCII first
abbrev pub begins_ascii : List ℕ → Bool
begins_ascii [] = true
begins_ascii (c ∷ cs) = is_ascii c

-- the text begins with printable ASCII, after which it ends or goes on with a simple character,
-- which is no mark on it
abbrev pub begins_alone : List ℕ → Bool
begins_alone [] = false
begins_alone (c ∷ cs) = is_plain c && begins_simple (chars cs)

-- the text is one character of printable ASCII
abbrev pub is_one_plain : List ℕ → Bool
is_one_plain (c ∷ []) = is_plain c
is_one_plain _ = false

-- the text's last byte is printable ASCII
unfoldable pub is_plain_last : List ℕ → Bool
is_plain_last [] = false
is_plain_last (c ∷ []) = is_plain c
is_plain_last (c ∷ (d ∷ cs)) = is_plain_last (d ∷ cs)

-- the text is a run of printable ASCII within the limit, and the rest, and both are cut apart
pub record IsPlainRun (text : List ℕ) (limit : ℕ) (run rest : List ℕ) : Type 0 where
  pub whole : run ++ rest ≡ text
  pub plain : list_all is_plain run ≡ true
  pub within : length run ≤ limit
  -- each byte of the run is a grapheme by itself, and the rest is cut as a text of its own
  pub graphemes_are : graphemes true text ≡ map (λ c. c ∷ []) run ++ graphemes true rest
  -- the run is shorter than the limit only where the rest does not begin with one more that stands
  -- alone
  pub longest : length run < limit → begins_alone rest ≡ false
