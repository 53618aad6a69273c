-- A style as one word: its digits to mixed radices, the lowest first.
use Rattle.std.specs.Prelude.{ℕ, List, [], ◌∷◌, ◌+◌, ◌-◌, ◌*◌, ◌/◌, ◌%◌, ◌^◌, ◌<◌, false, ◌==◌, nat_lt, if◌then◌else◌, ⊤}
use Rattle.termwiz_cell.specs.Style.{intensity_number, intensity_at, underline_number, underline_at, blink_number, blink_at, semantic_number, semantic_at, vertical_number, vertical_at, flag_number, flag_at}
use Rattle.termwiz_cell.specs.Rgb.{Rgb, rgb}
use Rattle.termwiz_cell.specs.declared.cell.style.Underline.TheVariants as underline
use Rattle.termwiz_cell.specs.declared.cell.style.SemanticType.TheVariants.{Output}
use Rattle.termwiz_cell.specs.declared.color.ColorAttribute.{ColorAttribute}
use Rattle.termwiz_cell.specs.declared.color.ColorAttribute.TheVariants as color
use Rattle.termwiz_cell.specs.Style.{Style}

-- a true colour as a number below 2 ^ 24
abbrev pub rgb_number : Rgb → ℕ
rgb_number c = c.red * 65536 + c.green * 256 + c.blue

abbrev pub rgb_at : ℕ → Rgb
rgb_at n = rgb (n / 65536) (n / 256 % 256) (n % 256)

-- the digit of a colour, below 16777473: 0 for the default, the index plus 1 for one of the
-- palette, and from 257 on the true ones. True ones with a palette's fallback have none of their
-- own
abbrev pub color_number : ColorAttribute → ℕ
color_number color.Default = 0
color_number (color.PaletteIndex index) = index + 1
color_number (color.TrueColorWithDefaultFallback c) = 257 + rgb_number c
color_number (color.TrueColorWithPaletteFallback _ _) = 0

abbrev pub color_at : ℕ → ColorAttribute
color_at n =
    if n == 0 then color.Default
    else if nat_lt n 257 then color.PaletteIndex (n - 1)
    else color.TrueColorWithDefaultFallback (rgb_at (n - 257))

-- the style that a word spells
abbrev pub style_at : ℕ → Style
style_at w = record {
  intensity = intensity_at (w % 4);
  underline = underline_at (w / 2 ^ 2 % 8);
  italic = flag_at (w / 2 ^ 5 % 2);
  reverse = flag_at (w / 2 ^ 6 % 2);
  strikethrough = flag_at (w / 2 ^ 7 % 2);
  invisible = flag_at (w / 2 ^ 8 % 2);
  wrapped = flag_at (w / 2 ^ 9 % 2);
  overline = flag_at (w / 2 ^ 10 % 2);
  blink = blink_at (w / 2 ^ 11 % 3);
  semantic_type = semantic_at (w / 6144 % 3);
  vertical_align = vertical_at (w / 18432 % 3);
  foreground = color_at (w / 55296 % 16777473);
  background = color_at (w / 927727147008);
}

-- each digit of the word spells a value; those of other radices than these always do
pub record IsStyleWord (w : ℕ) : Type 0 where
  pub intensity : w % 4 < 3
  pub underline : w / 2 ^ 2 % 8 < 6
  pub background : w / 927727147008 < 16777473

-- the word with these digits, the lowest first
abbrev pub word_of_digits :
    (intensity underline italic reverse strikethrough invisible wrapped overline blink semantic
    vertical foreground background : ℕ)
    →
    ℕ
word_of_digits intensity underline italic reverse strikethrough invisible wrapped overline blink
    semantic vertical foreground background =
    intensity + underline * 2 ^ 2 + italic * 2 ^ 5 + reverse * 2 ^ 6 + strikethrough * 2 ^ 7 +
    invisible * 2 ^ 8 + wrapped * 2 ^ 9 + overline * 2 ^ 10 + blink * 2 ^ 11 + semantic * 6144 + vertical * 18432 +
    foreground * 55296 + background * 927727147008

-- the word that spells a style
abbrev pub word_of : Style → ℕ
word_of s = word_of_digits (intensity_number s.intensity) (underline_number s.underline)
    (flag_number s.italic) (flag_number s.reverse) (flag_number s.strikethrough)
    (flag_number s.invisible)
    (flag_number s.wrapped) (flag_number s.overline) (blink_number s.blink)
    (semantic_number s.semantic_type)
    (vertical_number s.vertical_align) (color_number s.foreground) (color_number s.background)

-- a true colour has bytes
pub record IsRgb (c : Rgb) : Type 0 where
  pub red : c.red < 256
  pub green : c.green < 256
  pub blue : c.blue < 256

-- a word holds this colour
abbrev pub FitsWord : ColorAttribute → Type 0
FitsWord color.Default = ⊤
FitsWord (color.PaletteIndex index) = index < 256
FitsWord (color.TrueColorWithDefaultFallback c) = IsRgb c
FitsWord (color.TrueColorWithPaletteFallback _ _) = ⊥

abbrev pub HasColors : Style → Type 0
HasColors s = FitsWord s.foreground × FitsWord s.background

-- the attributes that are no colour and no link, as numbers
abbrev pub bits_at : Style → List ℕ
bits_at a =
    intensity_number a.intensity ∷ underline_number a.underline ∷ blink_number a.blink ∷
    flag_number a.italic ∷ flag_number a.reverse ∷ flag_number a.strikethrough ∷
    flag_number a.invisible ∷ flag_number a.wrapped ∷ flag_number a.overline ∷
    semantic_number a.semantic_type ∷ vertical_number a.vertical_align ∷ []

-- the style with the semantic type Output, and no underline, overline and strike through
abbrev pub style_sgr_only : Style → Style
style_sgr_only a =
    record a {
      semantic_type = Output;
      underline = underline.None;
      overline = false;
      strikethrough = false;
    }
