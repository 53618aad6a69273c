-- The small attributes: their numbers, which compare them, and whether they are on.
use Rattle.std.specs.Prelude.{◌≡◌, ℕ, Bool, true, false, ◌==◌, if◌then◌else◌, refl}
use Rattle.termwiz_cell.specs.declared.cell.style.Intensity.{Intensity}
use Rattle.termwiz_cell.specs.declared.cell.style.Intensity.TheVariants.{Normal, Bold, Half}
use Rattle.termwiz_cell.specs.declared.cell.style.Underline.{Underline}
use Rattle.termwiz_cell.specs.declared.cell.style.Underline.TheVariants as underline
use Rattle.termwiz_cell.specs.declared.cell.style.Blink.{Blink}
use Rattle.termwiz_cell.specs.declared.cell.style.Blink.TheVariants as blink
use Rattle.termwiz_cell.specs.declared.cell.style.SemanticType.{SemanticType}
use Rattle.termwiz_cell.specs.declared.cell.style.SemanticType.TheVariants.{Output, Input, Prompt}
use Rattle.termwiz_cell.specs.declared.cell.style.VerticalAlign.{VerticalAlign}
use Rattle.termwiz_cell.specs.declared.cell.style.VerticalAlign.TheVariants.{BaseLine, SuperScript, SubScript}
use Rattle.termwiz_cell.specs.declared.color.ColorAttribute.{ColorAttribute}

-- the attributes that one word holds: all but the underline colour, the link and the palette's
-- fallbacks of true colours
pub record Style : Type 0 where
  pub intensity : Intensity
  pub underline : Underline
  pub blink : Blink
  pub italic : Bool
  pub reverse : Bool
  pub strikethrough : Bool
  pub invisible : Bool
  pub wrapped : Bool
  pub overline : Bool
  pub semantic_type : SemanticType
  pub vertical_align : VerticalAlign
  pub foreground : ColorAttribute
  pub background : ColorAttribute

abbrev pub intensity_number : Intensity → ℕ
intensity_number Normal = 0
intensity_number Bold = 1
intensity_number Half = 2

abbrev pub intensity_at : ℕ → Intensity
intensity_at n = if n == 0 then Normal else if n == 1 then Bold else Half

abbrev pub underline_number : Underline → ℕ
underline_number underline.None = 0
underline_number underline.Single = 1
underline_number underline.Double = 2
underline_number underline.Curly = 3
underline_number underline.Dotted = 4
underline_number underline.Dashed = 5

abbrev pub underline_at : ℕ → Underline
underline_at n =
    if n == 0 then underline.None
    else if n == 1 then underline.Single
    else if n == 2 then underline.Double
    else if n == 3 then underline.Curly
    else if n == 4 then underline.Dotted
    else underline.Dashed

-- there is a line
abbrev pub is_underlined : Underline → Bool
is_underlined underline.None = false
is_underlined _ = true

abbrev pub blink_number : Blink → ℕ
blink_number blink.None = 0
blink_number blink.Slow = 1
blink_number blink.Rapid = 2

abbrev pub blink_at : ℕ → Blink
blink_at n = if n == 0 then blink.None else if n == 1 then blink.Slow else blink.Rapid

-- the text blinks
abbrev pub is_blinking : Blink → Bool
is_blinking blink.None = false
is_blinking _ = true

abbrev pub semantic_number : SemanticType → ℕ
semantic_number Output = 0
semantic_number Input = 1
semantic_number Prompt = 2

abbrev pub semantic_at : ℕ → SemanticType
semantic_at n = if n == 0 then Output else if n == 1 then Input else Prompt

abbrev pub vertical_number : VerticalAlign → ℕ
vertical_number BaseLine = 0
vertical_number SuperScript = 1
vertical_number SubScript = 2

abbrev pub vertical_at : ℕ → VerticalAlign
vertical_at n = if n == 0 then BaseLine else if n == 1 then SuperScript else SubScript

abbrev pub flag_number : Bool → ℕ
flag_number false = 0
flag_number true = 1

abbrev pub flag_at : ℕ → Bool
flag_at n = n == 1

pub intensity-back : (v : Intensity) → intensity_at (intensity_number v) ≡ v
intensity-back Normal = refl
intensity-back Bold = refl
intensity-back Half = refl

pub underline-back : (v : Underline) → underline_at (underline_number v) ≡ v
underline-back underline.None = refl
underline-back underline.Single = refl
underline-back underline.Double = refl
underline-back underline.Curly = refl
underline-back underline.Dotted = refl
underline-back underline.Dashed = refl

pub blink-back : (v : Blink) → blink_at (blink_number v) ≡ v
blink-back blink.None = refl
blink-back blink.Slow = refl
blink-back blink.Rapid = refl

pub semantic-back : (v : SemanticType) → semantic_at (semantic_number v) ≡ v
semantic-back Output = refl
semantic-back Input = refl
semantic-back Prompt = refl

pub vertical-back : (v : VerticalAlign) → vertical_at (vertical_number v) ≡ v
vertical-back BaseLine = refl
vertical-back SuperScript = refl
vertical-back SubScript = refl

pub flag-back : (v : Bool) → flag_at (flag_number v) ≡ v
flag-back true = refl
flag-back false = refl
