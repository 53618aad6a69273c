-- The small attributes are the values in the bit fields of their number.
use Rattle.std.proofs.Common.{◌≡◌, ℕ, ◌+◌, ◌*◌, ◌/◌, ◌%◌, ◌<◌, ◌≤◌, Bool, true, false, List, [], ◌∷◌, ◌++◌, refl, ap, ◌∙◌, arith, Ok}
use Rattle.std.proofs.lemmas.Bool.{lt-ltb}
use Rattle.cbor.proofs.Items.{below_again}
use Rattle.cbor.specs.Encoding.{unsigned}
use Rattle.std.proofs.Math.Nat.{add-mul-mod_self_left, mod-eq_of_lt, add-mul-div_left, div-eq_of_lt, mul-le-mul_left}
use Rattle.termwiz_cell.specs.Attributes.{Attributes, bits_of, default_attributes, without_colors}
use Rattle.termwiz_cell.specs.Style.{intensity_number, underline_number, blink_number, semantic_number, vertical_number, flag_number, intensity-back, underline-back, blink-back, semantic-back, vertical-back, flag-back}
use Rattle.termwiz_cell.specs.declared.cell.style.Intensity.{Intensity}
use Rattle.termwiz_cell.specs.declared.cell.style.Intensity.TheVariants.{Normal, Bold, Half}
use Rattle.termwiz_cell.specs.declared.cell.style.Underline.{Underline}
use Rattle.termwiz_cell.specs.declared.cell.style.Underline.TheVariants as underline
use Rattle.termwiz_cell.specs.declared.cell.style.Blink.{Blink}
use Rattle.termwiz_cell.specs.declared.cell.style.Blink.TheVariants as blink
use Rattle.termwiz_cell.specs.declared.cell.style.SemanticType.{SemanticType}
use Rattle.termwiz_cell.specs.declared.cell.style.SemanticType.TheVariants.{Output, Input, Prompt}
use Rattle.termwiz_cell.specs.declared.cell.style.VerticalAlign.{VerticalAlign}
use Rattle.termwiz_cell.specs.declared.cell.style.VerticalAlign.TheVariants.{BaseLine, SuperScript, SubScript}
use Rattle.termwiz_wire.specs.Encoding.{fields, fields_joined, style_number}
use Rattle.termwiz_wire.specs.Decoding.{split, are_small, styled, styled_by, style_limit, style_item_at}

-- each value has room in its bit field
abbrev pub Fit : List ℕ → List ℕ → Type 0
Fit [] [] = Unit {0}
Fit [] (d ∷ ds) = ⊥
Fit (k ∷ ks) [] = ⊥
Fit (k ∷ ks) (d ∷ ds) = (d < k) × Fit ks ds

abbrev pub product : List ℕ → ℕ
product [] = 1
product (k ∷ ks) = k * product ks

pub split-joined : (ks ds : List ℕ) → Fit ks ds → split ks (fields_joined ks ds) ≡ ds
split-joined [] [] are = refl
split-joined [] (d ∷ ds) are = absurd are
split-joined (k ∷ ks) [] are = absurd are
split-joined (k ∷ ks) (d ∷ ds) are =
    let low : (d + k * fields_joined ks ds) % k ≡ d = add-mul-mod_self_left d k (fields_joined ks ds) ∙ mod-eq_of_lt are.0 in
    let positive : 0 < k = omega (arith, are.0) in
    let high : (d + k * fields_joined ks ds) / k ≡ fields_joined ks ds = add-mul-div_left d (fields_joined ks ds) positive ∙ ap (λ (n : ℕ). n + fields_joined ks ds) (div-eq_of_lt are.0) ∙ (omega arith) in
    ap (λ (n : ℕ). n ∷ split ks ((d + k * fields_joined ks ds) / k)) low ∙ ap (λ (n : ℕ). d ∷ split ks n) high ∙ ap (λ (l : List ℕ). d ∷ l) (split-joined ks ds are.1)

pub joined-below : (ks ds : List ℕ) → Fit ks ds → fields_joined ks ds < product ks
joined-below [] [] are = omega arith
joined-below [] (d ∷ ds) are = absurd are
joined-below (k ∷ ks) [] are = absurd are
joined-below (k ∷ ks) (d ∷ ds) are =
    let below : fields_joined ks ds + 1 ≤ product ks = omega (arith, joined-below ks ds are.1) in
    let most : k * (fields_joined ks ds + 1) ≤ k * product ks = mul-le-mul_left k below in
    omega (arith, most, are.0)

pub intensity-below : (v : Intensity) → intensity_number v < 3
intensity-below Normal = omega arith
intensity-below Bold = omega arith
intensity-below Half = omega arith

pub underline-below : (v : Underline) → underline_number v < 6
underline-below underline.None = omega arith
underline-below underline.Single = omega arith
underline-below underline.Double = omega arith
underline-below underline.Curly = omega arith
underline-below underline.Dotted = omega arith
underline-below underline.Dashed = omega arith

pub blink-below : (v : Blink) → blink_number v < 3
blink-below blink.None = omega arith
blink-below blink.Slow = omega arith
blink-below blink.Rapid = omega arith

semantic-below : (v : SemanticType) → semantic_number v < 3
semantic-below Output = omega arith
semantic-below Input = omega arith
semantic-below Prompt = omega arith

vertical-below : (v : VerticalAlign) → vertical_number v < 3
vertical-below BaseLine = omega arith
vertical-below SuperScript = omega arith
vertical-below SubScript = omega arith

small-fields : (a : Attributes) → are_small (bits_of a) ≡ true
small-fields a = rw (lt-ltb (intensity_number a.intensity) 3 (intensity-below a.intensity), lt-ltb (underline_number a.underline) 6 (underline-below a.underline), lt-ltb (blink_number a.blink) 3 (blink-below a.blink), lt-ltb (semantic_number a.semantic_type) 3 (semantic-below a.semantic_type), lt-ltb (vertical_number a.vertical_align) 3 (vertical-below a.vertical_align)) refl

flag-below : (b : Bool) → flag_number b < 2
flag-below true = omega arith
flag-below false = omega arith

bits-fit : (a : Attributes) → Fit fields (bits_of a)
bits-fit a =
    let intensity : intensity_number a.intensity < 4 = omega (arith, intensity-below a.intensity) in
    let underlined : underline_number a.underline < 8 = omega (arith, underline-below a.underline) in
    let blinks : blink_number a.blink < 4 = omega (arith, blink-below a.blink) in
    let semantic : semantic_number a.semantic_type < 4 = omega (arith, semantic-below a.semantic_type) in
    let vertical : vertical_number a.vertical_align < 4 = omega (arith, vertical-below a.vertical_align) in
    (intensity, (underlined, (blinks, (flag-below a.italic, (flag-below a.reverse, (flag-below a.strikethrough, (flag-below a.invisible, (flag-below a.wrapped, (flag-below a.overline, (semantic, (vertical, tt)))))))))))

bits-back : (a : Attributes) → styled_by (bits_of a) ≡ without_colors a
bits-back a i = record (without_colors a) {
  intensity = intensity-back a.intensity i;
  underline = underline-back a.underline i;
  blink = blink-back a.blink i;
  italic = flag-back a.italic i;
  reverse = flag-back a.reverse i;
  strikethrough = flag-back a.strikethrough i;
  invisible = flag-back a.invisible i;
  wrapped = flag-back a.wrapped i;
  overline = flag-back a.overline i;
  semantic_type = semantic-back a.semantic_type i;
  vertical_align = vertical-back a.vertical_align i;
}

pub styled-again : (a : Attributes) → styled (style_number a) ≡ without_colors a
styled-again a = ap styled_by (split-joined fields (bits_of a) (bits-fit a)) ∙ bits-back a

pub style-below : (a : Attributes) → style_number a < style_limit
style-below a = joined-below fields (bits_of a) (bits-fit a)

pub style_again : (room : ℕ) (a : Attributes) (rest : List ℕ) → style_item_at room (unsigned (style_number a) ++ rest) ≡ Ok (style_number a, rest)
unfolding style_item_at
style_again room a rest =
    let small : are_small (split fields (style_number a)) ≡ true = ap are_small (split-joined fields (bits_of a) (bits-fit a)) ∙ small-fields a in
    rw (below_again room style_limit (style_number a) rest (omega (arith, style-below a)) (style-below a), small) refl

pub plain_style : (a : Attributes) → without_colors a ≡ without_colors default_attributes → style_number a ≡ 0
plain_style a e = ap style_number e
