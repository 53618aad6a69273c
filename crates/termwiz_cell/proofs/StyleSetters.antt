-- A word with one digit exchanged spells the style with one attribute set.
use Rattle.std.proofs.Common.{◌≡◌, ℕ, ◌+◌, ◌-◌, ◌*◌, ◌/◌, ◌%◌, ◌^◌, arith, Bool, ap, ◌∙◌}
use Rattle.termwiz_cell.specs.declared.cell.style.Intensity.{Intensity}
use Rattle.termwiz_cell.specs.declared.cell.style.Underline.{Underline}
use Rattle.termwiz_cell.specs.declared.cell.style.Blink.{Blink}
use Rattle.termwiz_cell.specs.declared.cell.style.SemanticType.{SemanticType}
use Rattle.termwiz_cell.specs.declared.cell.style.VerticalAlign.{VerticalAlign}
use Rattle.termwiz_cell.specs.declared.color.ColorAttribute.{ColorAttribute}
use Rattle.termwiz_cell.specs.Style.{Style}
use Rattle.termwiz_cell.specs.Style.{intensity_number, underline_number, blink_number, semantic_number, vertical_number, flag_number}
use Rattle.termwiz_cell.specs.StyleWord.{color_number, style_at, word_of, IsStyleWord, HasColors, FitsWord}
use Rattle.termwiz_cell.proofs.PackedStyles.{word_of-style_at, style_at-word_of, IsStyleWord-word_of, intensity-there, underline-there, blink-there, semantic-there, vertical-there, flag-there, color-there, foreground-fits, background-fits}

-- a word that is the one of a style
module _ (v : ℕ) (s : Style) (h : HasColors s) (e : v ≡ word_of s) where
  spells : style_at v ≡ s
  spells = ap style_at e ∙ style_at-word_of s h

  sound : IsStyleWord v
  sound = rw e (IsStyleWord-word_of s h)

intensity-word : (w : ℕ) (v : Intensity) → IsStyleWord w → w - w / 1 % 4 * 1 + intensity_number v * 1 ≡ word_of (record (style_at w) { intensity = v })
intensity-word w v h = omega (arith, word_of-style_at w h, intensity-there (w % 4) h.intensity)

pub intensity-spelt : (w : ℕ) (v : Intensity) → IsStyleWord w → style_at (w - w / 1 % 4 * 1 + intensity_number v * 1) ≡ record (style_at w) { intensity = v }
intensity-spelt w v h = spells (w - w / 1 % 4 * 1 + intensity_number v * 1) (record (style_at w) { intensity = v }) (foreground-fits w h, background-fits w h) (intensity-word w v h)

pub intensity-sound : (w : ℕ) (v : Intensity) → IsStyleWord w → IsStyleWord (w - w / 1 % 4 * 1 + intensity_number v * 1)
intensity-sound w v h = sound (w - w / 1 % 4 * 1 + intensity_number v * 1) (record (style_at w) { intensity = v }) (foreground-fits w h, background-fits w h) (intensity-word w v h)

pub ruleset intensity = (intensity-spelt, intensity-sound)

underline-word : (w : ℕ) (v : Underline) → IsStyleWord w → w - w / 2 ^ 2 % 8 * 2 ^ 2 + underline_number v * 2 ^ 2 ≡ word_of (record (style_at w) { underline = v })
underline-word w v h = omega (arith, word_of-style_at w h, underline-there (w / 2 ^ 2 % 8) h.underline)

pub underline-spelt : (w : ℕ) (v : Underline) → IsStyleWord w → style_at (w - w / 2 ^ 2 % 8 * 2 ^ 2 + underline_number v * 2 ^ 2) ≡ record (style_at w) { underline = v }
underline-spelt w v h = spells (w - w / 2 ^ 2 % 8 * 2 ^ 2 + underline_number v * 2 ^ 2) (record (style_at w) { underline = v }) (foreground-fits w h, background-fits w h) (underline-word w v h)

pub underline-sound : (w : ℕ) (v : Underline) → IsStyleWord w → IsStyleWord (w - w / 2 ^ 2 % 8 * 2 ^ 2 + underline_number v * 2 ^ 2)
underline-sound w v h = sound (w - w / 2 ^ 2 % 8 * 2 ^ 2 + underline_number v * 2 ^ 2) (record (style_at w) { underline = v }) (foreground-fits w h, background-fits w h) (underline-word w v h)

pub ruleset underline = (underline-spelt, underline-sound)

blink-word : (w : ℕ) (v : Blink) → IsStyleWord w → w - w / 2 ^ 11 % 3 * 2 ^ 11 + blink_number v * 2 ^ 11 ≡ word_of (record (style_at w) { blink = v })
blink-word w v h = omega (arith, word_of-style_at w h, blink-there (w / 2 ^ 11 % 3) (omega arith))

pub blink-spelt : (w : ℕ) (v : Blink) → IsStyleWord w → style_at (w - w / 2 ^ 11 % 3 * 2 ^ 11 + blink_number v * 2 ^ 11) ≡ record (style_at w) { blink = v }
blink-spelt w v h = spells (w - w / 2 ^ 11 % 3 * 2 ^ 11 + blink_number v * 2 ^ 11) (record (style_at w) { blink = v }) (foreground-fits w h, background-fits w h) (blink-word w v h)

pub blink-sound : (w : ℕ) (v : Blink) → IsStyleWord w → IsStyleWord (w - w / 2 ^ 11 % 3 * 2 ^ 11 + blink_number v * 2 ^ 11)
blink-sound w v h = sound (w - w / 2 ^ 11 % 3 * 2 ^ 11 + blink_number v * 2 ^ 11) (record (style_at w) { blink = v }) (foreground-fits w h, background-fits w h) (blink-word w v h)

pub ruleset blink = (blink-spelt, blink-sound)

italic-word : (w : ℕ) (v : Bool) → IsStyleWord w → w - w / 2 ^ 5 % 2 * 2 ^ 5 + flag_number v * 2 ^ 5 ≡ word_of (record (style_at w) { italic = v })
italic-word w v h = omega (arith, word_of-style_at w h, flag-there (w / 2 ^ 5 % 2) (omega arith))

pub italic-spelt : (w : ℕ) (v : Bool) → IsStyleWord w → style_at (w - w / 2 ^ 5 % 2 * 2 ^ 5 + flag_number v * 2 ^ 5) ≡ record (style_at w) { italic = v }
italic-spelt w v h = spells (w - w / 2 ^ 5 % 2 * 2 ^ 5 + flag_number v * 2 ^ 5) (record (style_at w) { italic = v }) (foreground-fits w h, background-fits w h) (italic-word w v h)

pub italic-sound : (w : ℕ) (v : Bool) → IsStyleWord w → IsStyleWord (w - w / 2 ^ 5 % 2 * 2 ^ 5 + flag_number v * 2 ^ 5)
italic-sound w v h = sound (w - w / 2 ^ 5 % 2 * 2 ^ 5 + flag_number v * 2 ^ 5) (record (style_at w) { italic = v }) (foreground-fits w h, background-fits w h) (italic-word w v h)

pub ruleset italic = (italic-spelt, italic-sound)

reverse-word : (w : ℕ) (v : Bool) → IsStyleWord w → w - w / 2 ^ 6 % 2 * 2 ^ 6 + flag_number v * 2 ^ 6 ≡ word_of (record (style_at w) { reverse = v })
reverse-word w v h = omega (arith, word_of-style_at w h, flag-there (w / 2 ^ 6 % 2) (omega arith))

pub reverse-spelt : (w : ℕ) (v : Bool) → IsStyleWord w → style_at (w - w / 2 ^ 6 % 2 * 2 ^ 6 + flag_number v * 2 ^ 6) ≡ record (style_at w) { reverse = v }
reverse-spelt w v h = spells (w - w / 2 ^ 6 % 2 * 2 ^ 6 + flag_number v * 2 ^ 6) (record (style_at w) { reverse = v }) (foreground-fits w h, background-fits w h) (reverse-word w v h)

pub reverse-sound : (w : ℕ) (v : Bool) → IsStyleWord w → IsStyleWord (w - w / 2 ^ 6 % 2 * 2 ^ 6 + flag_number v * 2 ^ 6)
reverse-sound w v h = sound (w - w / 2 ^ 6 % 2 * 2 ^ 6 + flag_number v * 2 ^ 6) (record (style_at w) { reverse = v }) (foreground-fits w h, background-fits w h) (reverse-word w v h)

pub ruleset reverse = (reverse-spelt, reverse-sound)

strikethrough-word : (w : ℕ) (v : Bool) → IsStyleWord w → w - w / 2 ^ 7 % 2 * 2 ^ 7 + flag_number v * 2 ^ 7 ≡ word_of (record (style_at w) { strikethrough = v })
strikethrough-word w v h = omega (arith, word_of-style_at w h, flag-there (w / 2 ^ 7 % 2) (omega arith))

pub strikethrough-spelt : (w : ℕ) (v : Bool) → IsStyleWord w → style_at (w - w / 2 ^ 7 % 2 * 2 ^ 7 + flag_number v * 2 ^ 7) ≡ record (style_at w) { strikethrough = v }
strikethrough-spelt w v h = spells (w - w / 2 ^ 7 % 2 * 2 ^ 7 + flag_number v * 2 ^ 7) (record (style_at w) { strikethrough = v }) (foreground-fits w h, background-fits w h) (strikethrough-word w v h)

pub strikethrough-sound : (w : ℕ) (v : Bool) → IsStyleWord w → IsStyleWord (w - w / 2 ^ 7 % 2 * 2 ^ 7 + flag_number v * 2 ^ 7)
strikethrough-sound w v h = sound (w - w / 2 ^ 7 % 2 * 2 ^ 7 + flag_number v * 2 ^ 7) (record (style_at w) { strikethrough = v }) (foreground-fits w h, background-fits w h) (strikethrough-word w v h)

pub ruleset strikethrough = (strikethrough-spelt, strikethrough-sound)

invisible-word : (w : ℕ) (v : Bool) → IsStyleWord w → w - w / 2 ^ 8 % 2 * 2 ^ 8 + flag_number v * 2 ^ 8 ≡ word_of (record (style_at w) { invisible = v })
invisible-word w v h = omega (arith, word_of-style_at w h, flag-there (w / 2 ^ 8 % 2) (omega arith))

pub invisible-spelt : (w : ℕ) (v : Bool) → IsStyleWord w → style_at (w - w / 2 ^ 8 % 2 * 2 ^ 8 + flag_number v * 2 ^ 8) ≡ record (style_at w) { invisible = v }
invisible-spelt w v h = spells (w - w / 2 ^ 8 % 2 * 2 ^ 8 + flag_number v * 2 ^ 8) (record (style_at w) { invisible = v }) (foreground-fits w h, background-fits w h) (invisible-word w v h)

pub invisible-sound : (w : ℕ) (v : Bool) → IsStyleWord w → IsStyleWord (w - w / 2 ^ 8 % 2 * 2 ^ 8 + flag_number v * 2 ^ 8)
invisible-sound w v h = sound (w - w / 2 ^ 8 % 2 * 2 ^ 8 + flag_number v * 2 ^ 8) (record (style_at w) { invisible = v }) (foreground-fits w h, background-fits w h) (invisible-word w v h)

pub ruleset invisible = (invisible-spelt, invisible-sound)

wrapped-word : (w : ℕ) (v : Bool) → IsStyleWord w → w - w / 2 ^ 9 % 2 * 2 ^ 9 + flag_number v * 2 ^ 9 ≡ word_of (record (style_at w) { wrapped = v })
wrapped-word w v h = omega (arith, word_of-style_at w h, flag-there (w / 2 ^ 9 % 2) (omega arith))

pub wrapped-spelt : (w : ℕ) (v : Bool) → IsStyleWord w → style_at (w - w / 2 ^ 9 % 2 * 2 ^ 9 + flag_number v * 2 ^ 9) ≡ record (style_at w) { wrapped = v }
wrapped-spelt w v h = spells (w - w / 2 ^ 9 % 2 * 2 ^ 9 + flag_number v * 2 ^ 9) (record (style_at w) { wrapped = v }) (foreground-fits w h, background-fits w h) (wrapped-word w v h)

pub wrapped-sound : (w : ℕ) (v : Bool) → IsStyleWord w → IsStyleWord (w - w / 2 ^ 9 % 2 * 2 ^ 9 + flag_number v * 2 ^ 9)
wrapped-sound w v h = sound (w - w / 2 ^ 9 % 2 * 2 ^ 9 + flag_number v * 2 ^ 9) (record (style_at w) { wrapped = v }) (foreground-fits w h, background-fits w h) (wrapped-word w v h)

pub ruleset wrapped = (wrapped-spelt, wrapped-sound)

overline-word : (w : ℕ) (v : Bool) → IsStyleWord w → w - w / 2 ^ 10 % 2 * 2 ^ 10 + flag_number v * 2 ^ 10 ≡ word_of (record (style_at w) { overline = v })
overline-word w v h = omega (arith, word_of-style_at w h, flag-there (w / 2 ^ 10 % 2) (omega arith))

pub overline-spelt : (w : ℕ) (v : Bool) → IsStyleWord w → style_at (w - w / 2 ^ 10 % 2 * 2 ^ 10 + flag_number v * 2 ^ 10) ≡ record (style_at w) { overline = v }
overline-spelt w v h = spells (w - w / 2 ^ 10 % 2 * 2 ^ 10 + flag_number v * 2 ^ 10) (record (style_at w) { overline = v }) (foreground-fits w h, background-fits w h) (overline-word w v h)

pub overline-sound : (w : ℕ) (v : Bool) → IsStyleWord w → IsStyleWord (w - w / 2 ^ 10 % 2 * 2 ^ 10 + flag_number v * 2 ^ 10)
overline-sound w v h = sound (w - w / 2 ^ 10 % 2 * 2 ^ 10 + flag_number v * 2 ^ 10) (record (style_at w) { overline = v }) (foreground-fits w h, background-fits w h) (overline-word w v h)

pub ruleset overline = (overline-spelt, overline-sound)

semantic_type-word : (w : ℕ) (v : SemanticType) → IsStyleWord w → w - w / 6144 % 3 * 6144 + semantic_number v * 6144 ≡ word_of (record (style_at w) { semantic_type = v })
semantic_type-word w v h = omega (arith, word_of-style_at w h, semantic-there (w / 6144 % 3) (omega arith))

pub semantic_type-spelt : (w : ℕ) (v : SemanticType) → IsStyleWord w → style_at (w - w / 6144 % 3 * 6144 + semantic_number v * 6144) ≡ record (style_at w) { semantic_type = v }
semantic_type-spelt w v h = spells (w - w / 6144 % 3 * 6144 + semantic_number v * 6144) (record (style_at w) { semantic_type = v }) (foreground-fits w h, background-fits w h) (semantic_type-word w v h)

pub semantic_type-sound : (w : ℕ) (v : SemanticType) → IsStyleWord w → IsStyleWord (w - w / 6144 % 3 * 6144 + semantic_number v * 6144)
semantic_type-sound w v h = sound (w - w / 6144 % 3 * 6144 + semantic_number v * 6144) (record (style_at w) { semantic_type = v }) (foreground-fits w h, background-fits w h) (semantic_type-word w v h)

pub ruleset semantic_type = (semantic_type-spelt, semantic_type-sound)

vertical_align-word : (w : ℕ) (v : VerticalAlign) → IsStyleWord w → w - w / 18432 % 3 * 18432 + vertical_number v * 18432 ≡ word_of (record (style_at w) { vertical_align = v })
vertical_align-word w v h = omega (arith, word_of-style_at w h, vertical-there (w / 18432 % 3) (omega arith))

pub vertical_align-spelt : (w : ℕ) (v : VerticalAlign) → IsStyleWord w → style_at (w - w / 18432 % 3 * 18432 + vertical_number v * 18432) ≡ record (style_at w) { vertical_align = v }
vertical_align-spelt w v h = spells (w - w / 18432 % 3 * 18432 + vertical_number v * 18432) (record (style_at w) { vertical_align = v }) (foreground-fits w h, background-fits w h) (vertical_align-word w v h)

pub vertical_align-sound : (w : ℕ) (v : VerticalAlign) → IsStyleWord w → IsStyleWord (w - w / 18432 % 3 * 18432 + vertical_number v * 18432)
vertical_align-sound w v h = sound (w - w / 18432 % 3 * 18432 + vertical_number v * 18432) (record (style_at w) { vertical_align = v }) (foreground-fits w h, background-fits w h) (vertical_align-word w v h)

pub ruleset vertical_align = (vertical_align-spelt, vertical_align-sound)

foreground-word : (w : ℕ) (v : ColorAttribute) → IsStyleWord w → w - w / 55296 % 16777473 * 55296 + color_number v * 55296 ≡ word_of (record (style_at w) { foreground = v })
foreground-word w v h = omega (arith, word_of-style_at w h, color-there (w / 55296 % 16777473))

pub foreground-spelt : (w : ℕ) (v : ColorAttribute) → IsStyleWord w → FitsWord v → style_at (w - w / 55296 % 16777473 * 55296 + color_number v * 55296) ≡ record (style_at w) { foreground = v }
foreground-spelt w v h p = spells (w - w / 55296 % 16777473 * 55296 + color_number v * 55296) (record (style_at w) { foreground = v }) (p, background-fits w h) (foreground-word w v h)

pub foreground-sound : (w : ℕ) (v : ColorAttribute) → IsStyleWord w → FitsWord v → IsStyleWord (w - w / 55296 % 16777473 * 55296 + color_number v * 55296)
foreground-sound w v h p = sound (w - w / 55296 % 16777473 * 55296 + color_number v * 55296) (record (style_at w) { foreground = v }) (p, background-fits w h) (foreground-word w v h)

pub ruleset foreground = (foreground-spelt, foreground-sound)

background-word : (w : ℕ) (v : ColorAttribute) → IsStyleWord w → w % 927727147008 + color_number v * 927727147008 ≡ word_of (record (style_at w) { background = v })
background-word w v h = omega (arith, word_of-style_at w h, color-there (w / 927727147008))

pub background-spelt : (w : ℕ) (v : ColorAttribute) → IsStyleWord w → FitsWord v → style_at (w % 927727147008 + color_number v * 927727147008) ≡ record (style_at w) { background = v }
background-spelt w v h p = spells (w % 927727147008 + color_number v * 927727147008) (record (style_at w) { background = v }) (foreground-fits w h, p) (background-word w v h)

pub background-sound : (w : ℕ) (v : ColorAttribute) → IsStyleWord w → FitsWord v → IsStyleWord (w % 927727147008 + color_number v * 927727147008)
background-sound w v h p = sound (w % 927727147008 + color_number v * 927727147008) (record (style_at w) { background = v }) (foreground-fits w h, p) (background-word w v h)

pub ruleset background = (background-spelt, background-sound)
