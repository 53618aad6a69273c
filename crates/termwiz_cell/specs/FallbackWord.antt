-- A colour in two parts: what a style's word holds of it, and the palette's index that stands in
-- for it. The indices of both colours are one word: two digits to the radix 512.
use Rattle.std.specs.Prelude.{ℕ, ◌+◌, ◌-◌, ◌/◌, ◌%◌, ◌<◌, ◌==◌, if◌then◌else◌, Bool, true, false, Option, None, Some}
use Rattle.termwiz_cell.specs.declared.color.ColorAttribute.{ColorAttribute}
use Rattle.termwiz_cell.specs.declared.color.ColorAttribute.TheVariants as color

-- the palette's indices that stand in for the colours of text and background
pub record Fallbacks : Type 0 where
  pub foreground : Option ℕ
  pub background : Option ℕ

abbrev pub no_fallbacks : Fallbacks
no_fallbacks = record { foreground = None; background = None }

-- the palette's index that stands in for the colour
abbrev pub fallback_of : ColorAttribute → Option ℕ
fallback_of (color.TrueColorWithPaletteFallback _ index) = Some index
fallback_of _ = None

-- the part of a colour that a style's word holds: all but the palette's fallback
abbrev pub word_part : ColorAttribute → ColorAttribute
word_part (color.TrueColorWithPaletteFallback c _) = color.TrueColorWithDefaultFallback c
word_part c = c

-- the word's colour, with its fallback where it has one
abbrev pub with_fallback : Option ℕ → ColorAttribute → ColorAttribute
with_fallback (Some index) (color.TrueColorWithDefaultFallback c) =
    color.TrueColorWithPaletteFallback c index
with_fallback _ word = word

-- a fallback stands beside a true colour alone, and none stands in the style's word
abbrev pub is_apart : Option ℕ → ColorAttribute → Bool
is_apart None (color.TrueColorWithPaletteFallback _ _) = false
is_apart None _ = true
is_apart (Some _) (color.TrueColorWithDefaultFallback _) = true
is_apart (Some _) _ = false

-- the digit of a fallback, below 257: 0 for none, and else the index plus 1
abbrev pub fallback_number : Option ℕ → ℕ
fallback_number None = 0
fallback_number (Some index) = index + 1

abbrev pub fallback_at : ℕ → Option ℕ
fallback_at n = if n == 0 then None else Some (n - 1)

-- the fallbacks that a word spells
abbrev pub fallbacks_at : ℕ → Fallbacks
fallbacks_at w =
    record { foreground = fallback_at (w % 512); background = fallback_at (w / 512) }

-- each digit of the word spells a fallback
pub record IsFallbackWord (w : ℕ) : Type 0 where
  pub foreground : w % 512 < 257
  pub background : w / 512 < 257
