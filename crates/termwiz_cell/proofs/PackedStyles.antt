-- A packed style reads back.
use Rattle.std.proofs.Common.{◌≡◌, ℕ, zero, suc, List, [], ◌∷◌, get_or, ◌+◌, ◌-◌, ◌/◌, ◌%◌, ◌^◌, ◌<◌, ◌==◌, nat_lt, if◌then◌else◌, arith, refl, Bool, true, false, ap, sym, ◌∙◌}
use Rattle.std.specs.Bool.{Decides}
use Rattle.std.proofs.lemmas.Bool.{ne_eqb, lt-ltb, le-ltb, ltb-true}
use Rattle.std.proofs.lemmas.Bool.Decides.{Decides-like, Decides-eqb}
use Rattle.termwiz_cell.proofs.Digits as digits
use Rattle.termwiz_cell.specs.declared.cell.style.Intensity.{Intensity}
use Rattle.termwiz_cell.specs.declared.cell.style.Intensity.TheVariants.{Normal, Bold, Half}
use Rattle.termwiz_cell.specs.declared.cell.style.Underline.{Underline}
use Rattle.termwiz_cell.specs.declared.cell.style.Underline.TheVariants as underline
use Rattle.termwiz_cell.specs.declared.cell.style.Blink.{Blink}
use Rattle.termwiz_cell.specs.declared.cell.style.Blink.TheVariants as blink
use Rattle.termwiz_cell.specs.declared.cell.style.SemanticType.{SemanticType}
use Rattle.termwiz_cell.specs.declared.cell.style.SemanticType.TheVariants.{Output, Input, Prompt}
use Rattle.termwiz_cell.specs.declared.cell.style.VerticalAlign.{VerticalAlign}
use Rattle.termwiz_cell.specs.declared.cell.style.VerticalAlign.TheVariants.{BaseLine, SuperScript, SubScript}
use Rattle.termwiz_cell.specs.declared.color.ColorAttribute.{ColorAttribute}
use Rattle.termwiz_cell.specs.declared.color.ColorAttribute.TheVariants as color
use Rattle.termwiz_cell.specs.Rgb.{Rgb, rgb}
use Rattle.termwiz_cell.specs.Style.{Style}
use Rattle.termwiz_cell.specs.Style.{intensity_number, intensity_at, underline_number, underline_at, blink_number, blink_at, semantic_number, semantic_at, vertical_number, vertical_at, flag_number, flag_at, intensity-back, underline-back, blink-back, semantic-back, vertical-back, flag-back}
use Rattle.termwiz_cell.specs.StyleWord.{word_of_digits, rgb_number, rgb_at, color_number, color_at, style_at, word_of, bits_at, IsStyleWord, IsRgb, HasColors, FitsWord}

intensity-lt : (v : Intensity) → intensity_number v < 3
intensity-lt Normal = omega arith
intensity-lt Bold = omega arith
intensity-lt Half = omega arith

underline-lt : (v : Underline) → underline_number v < 6
underline-lt underline.None = omega arith
underline-lt underline.Single = omega arith
underline-lt underline.Double = omega arith
underline-lt underline.Curly = omega arith
underline-lt underline.Dotted = omega arith
underline-lt underline.Dashed = omega arith

blink-lt : (v : Blink) → blink_number v < 3
blink-lt blink.None = omega arith
blink-lt blink.Slow = omega arith
blink-lt blink.Rapid = omega arith

semantic-lt : (v : SemanticType) → semantic_number v < 3
semantic-lt Output = omega arith
semantic-lt Input = omega arith
semantic-lt Prompt = omega arith

vertical-lt : (v : VerticalAlign) → vertical_number v < 3
vertical-lt BaseLine = omega arith
vertical-lt SuperScript = omega arith
vertical-lt SubScript = omega arith

flag-lt : (v : Bool) → flag_number v < 2
flag-lt true = omega arith
flag-lt false = omega arith

color-lt : (c : ColorAttribute) → FitsWord c → color_number c < 16777473
color-lt color.Default h = omega arith
color-lt (color.PaletteIndex n) h = omega arith
color-lt (color.TrueColorWithDefaultFallback c) h = omega (arith, h.red, h.green, h.blue)
color-lt (color.TrueColorWithPaletteFallback c n) h = absurd h

true-back : (c : Rgb) → IsRgb c → rgb_at (257 + rgb_number c - 257) ≡ c
true-back c h =
    let red : (257 + rgb_number c - 257) / 65536 ≡ c.red = omega (arith, h.red, h.green, h.blue) in
    let green : (257 + rgb_number c - 257) / 256 % 256 ≡ c.green = omega (arith, h.red, h.green, h.blue) in
    let blue : (257 + rgb_number c - 257) % 256 ≡ c.blue = omega (arith, h.red, h.green, h.blue) in
    λ i. rgb (red i) (green i) (blue i)

color-back : (c : ColorAttribute) → FitsWord c → color_at (color_number c) ≡ c
color-back color.Default h = refl
color-back (color.PaletteIndex n) h = rw (ne_eqb (n + 1) 0 (λ e. absurd (omega (arith, e))), lt-ltb (n + 1) 257 (omega (arith, h))) (ap color.PaletteIndex (omega arith))
color-back (color.TrueColorWithDefaultFallback c) h =
    rw (ne_eqb (257 + rgb_number c) 0 (λ e. absurd (omega (arith, e))), le-ltb (257 + rgb_number c) 257 (omega arith))
    (ap color.TrueColorWithDefaultFallback (true-back c h))
color-back (color.TrueColorWithPaletteFallback c n) h = absurd h

pub intensity-there : (n : ℕ) → n < 3 → intensity_number (intensity_at n) ≡ n
intensity-there zero h = refl
intensity-there (suc zero) h = refl
intensity-there (suc (suc zero)) h = refl
intensity-there (suc (suc (suc n))) h = absurd (omega arith)

pub underline-there : (n : ℕ) → n < 6 → underline_number (underline_at n) ≡ n
underline-there zero h = refl
underline-there (suc zero) h = refl
underline-there (suc (suc zero)) h = refl
underline-there (suc (suc (suc zero))) h = refl
underline-there (suc (suc (suc (suc zero)))) h = refl
underline-there (suc (suc (suc (suc (suc zero))))) h = refl
underline-there (suc (suc (suc (suc (suc (suc n)))))) h = absurd (omega arith)

pub blink-there : (n : ℕ) → n < 3 → blink_number (blink_at n) ≡ n
blink-there zero h = refl
blink-there (suc zero) h = refl
blink-there (suc (suc zero)) h = refl
blink-there (suc (suc (suc n))) h = absurd (omega arith)

pub semantic-there : (n : ℕ) → n < 3 → semantic_number (semantic_at n) ≡ n
semantic-there zero h = refl
semantic-there (suc zero) h = refl
semantic-there (suc (suc zero)) h = refl
semantic-there (suc (suc (suc n))) h = absurd (omega arith)

pub vertical-there : (n : ℕ) → n < 3 → vertical_number (vertical_at n) ≡ n
vertical-there zero h = refl
vertical-there (suc zero) h = refl
vertical-there (suc (suc zero)) h = refl
vertical-there (suc (suc (suc n))) h = absurd (omega arith)

pub flag-there : (n : ℕ) → n < 2 → flag_number (flag_at n) ≡ n
flag-there zero h = refl
flag-there (suc zero) h = refl
flag-there (suc (suc n)) h = absurd (omega arith)

rgb-there : (n : ℕ) → rgb_number (rgb_at n) ≡ n
rgb-there n = omega arith

pub color-there : (n : ℕ) → color_number (color_at n) ≡ n
color-there n = grind (arith, rgb-there (n - 257))

fits-at : (n : ℕ) (none palette : Bool) → nat_lt n 257 ≡ palette → n < 16777473 → FitsWord (if none then color.Default else if palette then color.PaletteIndex (n - 1) else color.TrueColorWithDefaultFallback (rgb_at (n - 257)))
fits-at n true palette e h = tt
fits-at n false true e h = omega (arith, ltb-true n 257 e)
fits-at n false false e h = record { red = omega (arith, h); green = omega arith; blue = omega arith }

color-fits : (n : ℕ) → n < 16777473 → FitsWord (color_at n)
color-fits n h = fits-at n (n == 0) (nat_lt n 257) refl h

-- a word is the one that spells its style
pub word_of-style_at : (w : ℕ) → IsStyleWord w → word_of (style_at w) ≡ w
word_of-style_at w h =
    (λ i. word_of_digits
    (intensity-there (w % 4) h.intensity i) (underline-there (w / 2 ^ 2 % 8) h.underline i)
    (flag-there (w / 2 ^ 5 % 2) (omega arith) i) (flag-there (w / 2 ^ 6 % 2) (omega arith) i) (flag-there (w / 2 ^ 7 % 2) (omega arith) i)
    (flag-there (w / 2 ^ 8 % 2) (omega arith) i) (flag-there (w / 2 ^ 9 % 2) (omega arith) i) (flag-there (w / 2 ^ 10 % 2) (omega arith) i)
    (blink-there (w / 2 ^ 11 % 3) (omega arith) i) (semantic-there (w / 6144 % 3) (omega arith) i) (vertical-there (w / 18432 % 3) (omega arith) i)
    (color-there (w / 55296 % 16777473) i) (color-there (w / 927727147008) i))
    ∙ digits.whole-digits w

pub zero-word : IsStyleWord 0
zero-word = record { intensity = omega arith; underline = omega arith; background = omega arith }

-- words that spell one style are the same
pub same-words : (w v : ℕ) → IsStyleWord w → IsStyleWord v → Decides (w == v) (style_at w ≡ style_at v)
same-words w v hw hv = Decides-like (w == v) (ap style_at) (λ e. sym (word_of-style_at w hw) ∙ ap word_of e ∙ word_of-style_at v hv) (Decides-eqb w v)

module _ (w v : ℕ) (hw : IsStyleWord w) (hv : IsStyleWord v) where
  digit-at : {T : Type 0} (number : T → ℕ) (at : ℕ → T) (k x y : ℕ) → number (at x) ≡ x → number (at y) ≡ y → get_or (bits_at (style_at w)) k 0 ≡ number (at x) → get_or (bits_at (style_at v)) k 0 ≡ number (at y) → bits_at (style_at w) ≡ bits_at (style_at v) → x ≡ y
  digit-at number at k x y tx ty ex ey e = sym tx ∙ sym ex ∙ ap (λ l. get_or l k 0) e ∙ ey ∙ ty

  low-from_bits : bits_at (style_at w) ≡ bits_at (style_at v) → w % 55296 ≡ v % 55296
  low-from_bits e =
      digits.low_digits w v
      (digit-at intensity_number intensity_at 0 (w % 4) (v % 4) (intensity-there (w % 4) hw.intensity) (intensity-there (v % 4) hv.intensity) refl refl e)
      (digit-at underline_number underline_at 1 (w / 2 ^ 2 % 8) (v / 2 ^ 2 % 8) (underline-there (w / 2 ^ 2 % 8) hw.underline) (underline-there (v / 2 ^ 2 % 8) hv.underline) refl refl e)
      (digit-at flag_number flag_at 3 (w / 2 ^ 5 % 2) (v / 2 ^ 5 % 2) (flag-there (w / 2 ^ 5 % 2) (omega arith)) (flag-there (v / 2 ^ 5 % 2) (omega arith)) refl refl e)
      (digit-at flag_number flag_at 4 (w / 2 ^ 6 % 2) (v / 2 ^ 6 % 2) (flag-there (w / 2 ^ 6 % 2) (omega arith)) (flag-there (v / 2 ^ 6 % 2) (omega arith)) refl refl e)
      (digit-at flag_number flag_at 5 (w / 2 ^ 7 % 2) (v / 2 ^ 7 % 2) (flag-there (w / 2 ^ 7 % 2) (omega arith)) (flag-there (v / 2 ^ 7 % 2) (omega arith)) refl refl e)
      (digit-at flag_number flag_at 6 (w / 2 ^ 8 % 2) (v / 2 ^ 8 % 2) (flag-there (w / 2 ^ 8 % 2) (omega arith)) (flag-there (v / 2 ^ 8 % 2) (omega arith)) refl refl e)
      (digit-at flag_number flag_at 7 (w / 2 ^ 9 % 2) (v / 2 ^ 9 % 2) (flag-there (w / 2 ^ 9 % 2) (omega arith)) (flag-there (v / 2 ^ 9 % 2) (omega arith)) refl refl e)
      (digit-at flag_number flag_at 8 (w / 2 ^ 10 % 2) (v / 2 ^ 10 % 2) (flag-there (w / 2 ^ 10 % 2) (omega arith)) (flag-there (v / 2 ^ 10 % 2) (omega arith)) refl refl e)
      (digit-at blink_number blink_at 2 (w / 2 ^ 11 % 3) (v / 2 ^ 11 % 3) (blink-there (w / 2 ^ 11 % 3) (omega arith)) (blink-there (v / 2 ^ 11 % 3) (omega arith)) refl refl e)
      (digit-at semantic_number semantic_at 9 (w / 6144 % 3) (v / 6144 % 3) (semantic-there (w / 6144 % 3) (omega arith)) (semantic-there (v / 6144 % 3) (omega arith)) refl refl e)
      (digit-at vertical_number vertical_at 10 (w / 18432 % 3) (v / 18432 % 3) (vertical-there (w / 18432 % 3) (omega arith)) (vertical-there (v / 18432 % 3) (omega arith)) refl refl e)

-- the small attributes of a word, by its low bits
abbrev low_bits : ℕ → List ℕ
low_bits n = bits_at (style_at n)

low_bits-mod : (w : ℕ) → low_bits (w % 55296) ≡ low_bits w
low_bits-mod w =
    λ i. intensity_number (intensity_at (digits.low-intensity w i)) ∷ underline_number (underline_at (digits.low-underline w i)) ∷ blink_number (blink_at (digits.low-blink w i)) ∷ flag_number (flag_at (digits.low-italic w i)) ∷ flag_number (flag_at (digits.low-reverse w i)) ∷ flag_number (flag_at (digits.low-strikethrough w i)) ∷ flag_number (flag_at (digits.low-invisible w i)) ∷ flag_number (flag_at (digits.low-wrapped w i)) ∷ flag_number (flag_at (digits.low-overline w i)) ∷ semantic_number (semantic_at (digits.low-semantic_type w i)) ∷ vertical_number (vertical_at (digits.low-vertical_align w i)) ∷ []

-- words of the same small attributes agree below the colours
pub same-bits : (w v : ℕ) → IsStyleWord w → IsStyleWord v → Decides (w % 55296 == v % 55296) (bits_at (style_at w) ≡ bits_at (style_at v))
same-bits w v hw hv =
    Decides-like (w % 55296 == v % 55296)
    (λ e. sym (low_bits-mod w) ∙ ap low_bits e ∙ low_bits-mod v)
    (low-from_bits w v hw hv)
    (Decides-eqb (w % 55296) (v % 55296))

module _ (s : Style) (h : HasColors s) where
  has_digits : digits.HasDigits (word_of s)
      (intensity_number s.intensity) (underline_number s.underline) (flag_number s.italic) (flag_number s.reverse)
      (flag_number s.strikethrough) (flag_number s.invisible) (flag_number s.wrapped) (flag_number s.overline) (blink_number s.blink)
      (semantic_number s.semantic_type) (vertical_number s.vertical_align) (color_number s.foreground) (color_number s.background)
  has_digits =
      digits.digits-whole
      (intensity_number s.intensity) (underline_number s.underline) (flag_number s.italic) (flag_number s.reverse)
      (flag_number s.strikethrough) (flag_number s.invisible) (flag_number s.wrapped) (flag_number s.overline) (blink_number s.blink)
      (semantic_number s.semantic_type) (vertical_number s.vertical_align) (color_number s.foreground) (color_number s.background)
      (intensity-lt s.intensity) (underline-lt s.underline) (flag-lt s.italic) (flag-lt s.reverse)
      (flag-lt s.strikethrough) (flag-lt s.invisible) (flag-lt s.wrapped) (flag-lt s.overline) (blink-lt s.blink)
      (semantic-lt s.semantic_type) (vertical-lt s.vertical_align) (color-lt s.foreground h.0)

  pub style_at-word_of : style_at (word_of s) ≡ s
  style_at-word_of i = record {
    intensity = (ap intensity_at has_digits.intensity ∙ intensity-back s.intensity) i;
    underline = (ap underline_at has_digits.underline ∙ underline-back s.underline) i;
    blink = (ap blink_at has_digits.blink ∙ blink-back s.blink) i;
    italic = (ap flag_at has_digits.italic ∙ flag-back s.italic) i;
    reverse = (ap flag_at has_digits.reverse ∙ flag-back s.reverse) i;
    strikethrough = (ap flag_at has_digits.strikethrough ∙ flag-back s.strikethrough) i;
    invisible = (ap flag_at has_digits.invisible ∙ flag-back s.invisible) i;
    wrapped = (ap flag_at has_digits.wrapped ∙ flag-back s.wrapped) i;
    overline = (ap flag_at has_digits.overline ∙ flag-back s.overline) i;
    semantic_type = (ap semantic_at has_digits.semantic_type ∙ semantic-back s.semantic_type) i;
    vertical_align = (ap vertical_at has_digits.vertical_align ∙ vertical-back s.vertical_align) i;
    foreground = (ap color_at has_digits.foreground ∙ color-back s.foreground h.0) i;
    background = (ap color_at has_digits.background ∙ color-back s.background h.1) i;
  }

  pub IsStyleWord-word_of : IsStyleWord (word_of s)
  IsStyleWord-word_of = record {
    intensity = rw has_digits.intensity (intensity-lt s.intensity);
    underline = rw has_digits.underline (underline-lt s.underline);
    background = rw has_digits.background (color-lt s.background h.1);
  }

-- the colours of a word fit it
pub foreground-fits : (w : ℕ) → IsStyleWord w → FitsWord (color_at (w / 55296 % 16777473))
foreground-fits w h = color-fits (w / 55296 % 16777473) (omega arith)

pub background-fits : (w : ℕ) → IsStyleWord w → FitsWord (color_at (w / 927727147008))
background-fits w h = color-fits (w / 927727147008) h.background
