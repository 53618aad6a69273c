-- The texts that write a colour, `#` and hex digits or X11's form `rgb:`, and the colour that each
-- of them writes.
use Rattle.std.specs.Prelude.{◌≡◌, ℕ, ◌+◌, ◌*◌, ◌/◌, ◌%◌, ◌⊎◌, List, [], ◌∷◌, ◌++◌, Option, Some, None, slice_get, slice_index, codes}
use Rattle.termwiz_cell.specs.Rgb.{Rgb, rgb}

-- the hex digits from 0 to 15, in lower and in upper case
abbrev pub lower_digits : List ℕ
lower_digits = codes "0123456789abcdef"

abbrev pub upper_digits : List ℕ
upper_digits = codes "0123456789ABCDEF"

-- a byte's two digits
abbrev pub byte_text : ℕ → List ℕ
byte_text n = slice_index lower_digits (n / 16) ∷ slice_index lower_digits (n % 16) ∷ []

-- `#rrggbb`
abbrev pub rgb_text : Rgb → List ℕ
rgb_text c = codes "#" ++ byte_text c.red ++ byte_text c.green ++ byte_text c.blue

-- a byte's two digits, twice
abbrev pub twice_text : ℕ → List ℕ
twice_text n = byte_text n ++ byte_text n

-- `rgb:rrrr/gggg/bbbb`
abbrev pub x11_text : Rgb → List ℕ
x11_text c =
    codes "rgb:" ++ twice_text c.red ++ codes "/" ++ twice_text c.green ++ codes "/" ++
    twice_text c.blue

-- a hex digit of either case, and its value
abbrev pub IsDigit : ℕ → ℕ → Type 0
IsDigit digit value =
    (slice_get lower_digits value ≡ Some digit) ⊎ (slice_get upper_digits value ≡ Some digit)

-- two digits, and the byte that they write
pub data IsByte (text : List ℕ) (byte : ℕ) : Type 0 where
  two_digits : (a b high low : ℕ) → text ≡ a ∷ b ∷ [] →
      IsDigit a high → IsDigit b low → byte ≡ 16 * high + low → IsByte text byte

-- two digits, or four, of which the first two count
pub data IsPart (text : List ℕ) (byte : ℕ) : Type 0 where
  two : IsByte text byte → IsPart text byte
  four : (first second : List ℕ) (finer : ℕ) → text ≡ first ++ second →
      IsByte first byte → IsByte second finer → IsPart text byte

-- three digits, each of which stands for itself and a zero, or six
pub data IsHexColor (text : List ℕ) (color : Rgb) : Type 0 where
  three : (a b c : ℕ) → text ≡ a ∷ b ∷ c ∷ [] →
      IsByte (a ∷ codes "0") color.red → IsByte (b ∷ codes "0") color.green →
      IsByte (c ∷ codes "0") color.blue → IsHexColor text color
  six : (a b c : List ℕ) → text ≡ a ++ b ++ c →
      IsByte a color.red → IsByte b color.green → IsByte c color.blue → IsHexColor text color

-- three parts with slashes between them
pub data IsX11Color (text : List ℕ) (color : Rgb) : Type 0 where
  parts : (a b c : List ℕ) → text ≡ a ++ codes "/" ++ b ++ codes "/" ++ c →
      IsPart a color.red → IsPart b color.green → IsPart c color.blue → IsX11Color text color

-- the text writes this colour
pub data IsColorText (text : List ℕ) (color : Rgb) : Type 0 where
  hex :
      (digits : List ℕ) → text ≡ codes "#" ++ digits → IsHexColor digits color →
      IsColorText text color
  x11 :
      (rest : List ℕ) → text ≡ codes "rgb:" ++ rest → IsX11Color rest color → IsColorText text color

-- the colour of three parts, where each of them was read
abbrev pub color_of : Option ℕ → Option ℕ → Option ℕ → Option Rgb
color_of (Some red) (Some green) (Some blue) = Some (rgb red green blue)
color_of _ _ _ = None
