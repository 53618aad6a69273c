-- What is printed of a colour, and that it is read back.
use Rattle.std.proofs.Common.{◌≡◌, ℕ, ◌/◌, ◌%◌, ◌^◌, ◌-◌, ◌<◌, ◌∷◌, [], false, refl, ◌∙◌, arith, inl, slice_index}
use Rattle.std.specs.Fmt.{digits, digit_glyph, padded_integral, format_spec}
use Rattle.std.proofs.lemmas.Fmt.{hex_byte}
use Rattle.termwiz_cell.specs.ColorText.{lower_digits, byte_text, twice_text, rgb_text, x11_text, IsDigit, IsByte, IsPart, IsColorText, two_digits, four, six, parts, hex, x11}
use Rattle.termwiz_cell.specs.Rgb.{Rgb}

-- the digit of a number below sixteen
glyph : (n : ℕ) → n < 16 → digit_glyph false n ≡ slice_index lower_digits n
glyph n h = grind arith

-- what is printed of a byte
pub byte_text-printed : (n : ℕ) → n < 256 → padded_integral (format_spec 32 0 4 2 (2 ^ 64 - 1)) false [] (digits 16 false n) ≡ byte_text n
byte_text-printed n h =
    hex_byte false n h ∙ (λ i. glyph (n / 16) (omega arith) i ∷ glyph (n % 16) (omega arith) i ∷ [])

printed-IsDigit : (n : ℕ) → n < 16 → IsDigit (slice_index lower_digits n) n
printed-IsDigit n h = inl (grind arith)

byte_text-IsByte : (n : ℕ) → n < 256 → IsByte (byte_text n) n
byte_text-IsByte n h =
    two_digits _ _ (n / 16) (n % 16) refl (printed-IsDigit (n / 16) (omega arith)) (printed-IsDigit (n % 16) (omega arith)) (omega arith)

twice_text-IsPart : (n : ℕ) → n < 256 → IsPart (twice_text n) n
twice_text-IsPart n h = four _ _ n refl (byte_text-IsByte n h) (byte_text-IsByte n h)

-- each text that is printed writes its colour
pub rgb_text-IsColorText : (c : Rgb) → c.red < 256 → c.green < 256 → c.blue < 256 → IsColorText (rgb_text c) c
rgb_text-IsColorText c r g b =
    hex _ refl (six _ _ _ refl (byte_text-IsByte c.red r) (byte_text-IsByte c.green g) (byte_text-IsByte c.blue b))

pub x11_text-IsColorText : (c : Rgb) → c.red < 256 → c.green < 256 → c.blue < 256 → IsColorText (x11_text c) c
x11_text-IsColorText c r g b =
    x11 _ refl (parts _ _ _ refl (twice_text-IsPart c.red r) (twice_text-IsPart c.green g) (twice_text-IsPart c.blue b))
