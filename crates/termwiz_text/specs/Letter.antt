-- Characters that the rules on graphemes leave apart, and that so need no table.
use Rattle.std.specs.Prelude.{◌≡◌, ℕ, ◌<◌, ◌≤◌, Bool, true, false, ◌&&◌, ◌||◌, ◌==◌, List, [], ◌∷◌, ◌++◌, map, length, encode_utf8, Option, Some, None}
use Rattle.std.specs.Char.{is_ascii}
use Rattle.std.specs.Int.{is_in_range}
use Rattle.std.specs.List.{list_all}
use Rattle.std.specs.Str.{chars}
use Rattle.unicode_segmentation.specs.Grapheme.{graphemes}

-- a letter of hiragana or katakana, or an ideograph from U+4E00 to U+9FFF
abbrev pub is_letter : ℕ → Bool
is_letter c =
    is_in_range 0x3041 0x3096 c || is_in_range 0x30A1 0x30FA c || is_in_range 0x4E00 0x9FFF c

-- a letter of Latin, Greek or Cyrillic beyond ASCII, a mathematical operator, a part of a box or a
-- block, or a braille pattern
abbrev pub is_narrow : ℕ → Bool
is_narrow c =
    is_in_range 0x00C0 0x02FF c || is_in_range 0x0391 0x03C9 c || is_in_range 0x0400 0x0482 c
    || is_in_range 0x2200 0x22FF c || is_in_range 0x2500 0x259F c || is_in_range 0x2800 0x28FF c

-- the character, where it is the only one
abbrev pub only_char : List ℕ → Option ℕ
only_char (c ∷ []) = Some c
only_char _ = None

-- a character of ASCII, or such a letter or narrow one: between two of these there is a boundary,
-- but for a CR before an LF
abbrev pub is_simple : ℕ → Bool
is_simple c = is_ascii c || is_letter c || is_narrow c

-- nothing, or a simple character first
abbrev pub begins_simple : List ℕ → Bool
begins_simple [] = true
begins_simple (c ∷ cs) = is_simple c

-- a CR and an LF first
abbrev pub begins_line_end : List ℕ → Bool
begins_line_end (c ∷ (d ∷ cs)) = c == 13 && d == 10
begins_line_end _ = false

-- a letter first
abbrev pub begins_letter : List ℕ → Bool
begins_letter [] = false
begins_letter (c ∷ cs) = is_letter c

-- a letter first, after which the text ends or goes on with a simple character
abbrev pub begins_lone_letter : List ℕ → Bool
begins_lone_letter [] = false
begins_lone_letter (c ∷ cs) = is_letter c && begins_simple cs

-- all characters of the text are letters
abbrev pub AreLetters : List ℕ → Type 0
AreLetters text = list_all is_letter (chars text) ≡ true

-- the text is a run of letters within the limit, and the rest, and both are cut apart
pub record IsLetterRun (text : List ℕ) (limit : ℕ) (run rest : List ℕ) : Type 0 where
  pub whole : run ++ rest ≡ text
  pub letters : AreLetters run
  pub within : length (chars run) ≤ limit
  -- each letter of the run is a grapheme by itself, and the rest is cut as a text of its own
  pub graphemes_are : graphemes true text ≡ map encode_utf8 (chars run) ++ graphemes true rest
  -- the run is shorter than the limit only where the rest does not begin with one more that stands
  -- alone
  pub longest : length (chars run) < limit → begins_lone_letter (chars rest) ≡ false
