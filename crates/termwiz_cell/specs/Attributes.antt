-- The attributes of a cell, as contracts see them.
use Rattle.std.specs.Prelude.{◌≡◌, ℕ, Bool, true, false, not, ◌&&◌, ◌||◌, is_some, List, [], ◌∷◌, Option, Some, None, bytes_eq, refl}
use Rattle.std.specs.Bool.{Decides}
use Rattle.std.specs.Cmp.Lexicographic.{bytes_decides}
use Rattle.std.proofs.Common.{get_or, ap, ◌∙◌, sym}
use Rattle.std.proofs.lemmas.Bool.Decides.{Decides-like, Decides-and}
use Rattle.termwiz_cell.specs.declared.cell.style.Intensity.{Intensity}
use Rattle.termwiz_cell.specs.declared.cell.style.Intensity.TheVariants.{Normal}
use Rattle.termwiz_cell.specs.declared.cell.style.Underline.{Underline}
use Rattle.termwiz_cell.specs.declared.cell.style.Underline.TheVariants as underline
use Rattle.termwiz_cell.specs.declared.cell.style.Blink.{Blink}
use Rattle.termwiz_cell.specs.declared.cell.style.Blink.TheVariants as blink
use Rattle.termwiz_cell.specs.declared.cell.style.SemanticType.{SemanticType}
use Rattle.termwiz_cell.specs.declared.cell.style.SemanticType.TheVariants.{Output}
use Rattle.termwiz_cell.specs.declared.cell.style.VerticalAlign.{VerticalAlign}
use Rattle.termwiz_cell.specs.declared.cell.style.VerticalAlign.TheVariants.{BaseLine}
use Rattle.termwiz_cell.specs.declared.color.ColorAttribute.{ColorAttribute}
use Rattle.termwiz_cell.specs.declared.color.ColorAttribute.TheVariants as color
use Rattle.termwiz_cell.specs.Style.{intensity_number, intensity_at, underline_number, underline_at, blink_number, blink_at, semantic_number, semantic_at, vertical_number, vertical_at, flag_number, flag_at, intensity-back, underline-back, blink-back, semantic-back, vertical-back, flag-back}
use Rattle.termwiz_cell.specs.Link.{Link, link_eq, link_eq-Decides}

pub record Attributes : Type 0 where
  pub intensity : Intensity
  pub underline : Underline
  pub blink : Blink
  pub italic : Bool
  pub reverse : Bool
  pub strikethrough : Bool
  pub invisible : Bool
  pub wrapped : Bool
  pub overline : Bool
  pub semantic_type : SemanticType
  pub vertical_align : VerticalAlign
  pub foreground : ColorAttribute
  pub background : ColorAttribute
  pub underline_color : ColorAttribute
  pub hyperlink : Option Link

-- the attributes that are no colour and no link, as numbers
abbrev pub bits_of : Attributes → List ℕ
bits_of a =
    intensity_number a.intensity ∷ underline_number a.underline ∷ blink_number a.blink ∷
    flag_number a.italic ∷ flag_number a.reverse ∷ flag_number a.strikethrough ∷
    flag_number a.invisible ∷ flag_number a.wrapped ∷ flag_number a.overline ∷
    semantic_number a.semantic_type ∷ vertical_number a.vertical_align ∷ []

-- a colour as numbers
abbrev pub color_numbers : ColorAttribute → List ℕ
color_numbers (color.TrueColorWithPaletteFallback c index) =
    0 ∷ c.red ∷ c.green ∷ c.blue ∷ index ∷ []
color_numbers (color.TrueColorWithDefaultFallback c) = 1 ∷ c.red ∷ c.green ∷ c.blue ∷ []
color_numbers (color.PaletteIndex index) = 2 ∷ index ∷ []
color_numbers color.Default = 3 ∷ []

-- `==` of colours
abbrev pub color_eq : ColorAttribute → ColorAttribute → Bool
color_eq a b = bytes_eq (color_numbers a) (color_numbers b)

-- `==` of links that may be absent
abbrev pub option_link_eq : Option Link → Option Link → Bool
option_link_eq None None = true
option_link_eq None (Some b) = false
option_link_eq (Some a) None = false
option_link_eq (Some a) (Some b) = link_eq a b

-- `==` of attributes
abbrev pub attributes_eq : Attributes → Attributes → Bool
attributes_eq a b =
    bytes_eq (bits_of a) (bits_of b) &&
    (color_eq a.foreground b.foreground &&
    (color_eq a.background b.background &&
    (color_eq a.underline_color b.underline_color && option_link_eq a.hyperlink b.hyperlink)))

color_numbers-inj : (a b : ColorAttribute) → color_numbers a ≡ color_numbers b → a ≡ b
color_numbers-inj (color.TrueColorWithPaletteFallback c i) (color.TrueColorWithPaletteFallback d j)
    e = λ k. color.TrueColorWithPaletteFallback
    (record { red = get_or (e k) 1 0; green = get_or (e k) 2 0; blue = get_or (e k) 3 0 })
    (get_or (e k) 4 0)
color_numbers-inj (color.TrueColorWithPaletteFallback c i) (color.TrueColorWithDefaultFallback d)
    e = cc
color_numbers-inj (color.TrueColorWithPaletteFallback c i) (color.PaletteIndex j) e = cc
color_numbers-inj (color.TrueColorWithPaletteFallback c i) color.Default e = cc
color_numbers-inj (color.TrueColorWithDefaultFallback c) (color.TrueColorWithPaletteFallback d j)
    e = cc
color_numbers-inj (color.TrueColorWithDefaultFallback c) (color.TrueColorWithDefaultFallback d) e =
    λ k. color.TrueColorWithDefaultFallback
    (record { red = get_or (e k) 1 0; green = get_or (e k) 2 0; blue = get_or (e k) 3 0 })
color_numbers-inj (color.TrueColorWithDefaultFallback c) (color.PaletteIndex j) e = cc
color_numbers-inj (color.TrueColorWithDefaultFallback c) color.Default e = cc
color_numbers-inj (color.PaletteIndex i) (color.TrueColorWithPaletteFallback d j) e = cc
color_numbers-inj (color.PaletteIndex i) (color.TrueColorWithDefaultFallback d) e = cc
color_numbers-inj (color.PaletteIndex i) (color.PaletteIndex j) e =
    λ k. color.PaletteIndex (get_or (e k) 1 0)
color_numbers-inj (color.PaletteIndex i) color.Default e = cc
color_numbers-inj color.Default (color.TrueColorWithPaletteFallback d j) e = cc
color_numbers-inj color.Default (color.TrueColorWithDefaultFallback d) e = cc
color_numbers-inj color.Default (color.PaletteIndex j) e = cc
color_numbers-inj color.Default color.Default e = refl

pub color_eq-Decides : (a b : ColorAttribute) → Decides (color_eq a b) (a ≡ b)
color_eq-Decides a b =
    Decides-like (color_eq a b) (color_numbers-inj a b) (ap color_numbers)
    (bytes_decides (color_numbers a) (color_numbers b))

pub option_link_eq-Decides : (a b : Option Link) → Decides (option_link_eq a b) (a ≡ b)
option_link_eq-Decides None None = (λ _. refl, λ _. refl)
option_link_eq-Decides None (Some b) = (λ e. cc, λ e. cc)
option_link_eq-Decides (Some a) None = (λ e. cc, λ e. cc)
option_link_eq-Decides (Some a) (Some b) =
    Decides-like (link_eq a b) (λ e i. Some (e i)) (λ e. cc) (link_eq-Decides a b)

-- these attributes with default colours and no link
abbrev pub without_colors : Attributes → Attributes
without_colors a =
    record a {
      foreground = color.Default;
      background = color.Default;
      underline_color = color.Default;
      hyperlink = None;
    }

-- these attributes with the semantic type Output, and no underline, overline, strike through and
-- link. All others are kept: intensity, blink, italic, reverse, invisible, wrapped, the vertical
-- align and the three colours
abbrev pub sgr_only : Attributes → Attributes
sgr_only a =
    record a {
      semantic_type = Output;
      underline = underline.None;
      overline = false;
      strikethrough = false;
      hyperlink = None;
    }

abbrev pub is_default : ColorAttribute → Bool
is_default color.Default = true
is_default _ = false

-- the attributes take memory: they have an underline colour that isn't the default, or a link
abbrev pub needs_box : Attributes → Bool
needs_box a = not (is_default a.underline_color) || is_some a.hyperlink

module _ (a b : Attributes) where
  bits_inj-at :
      {T : Type 0} (number : T → ℕ) (at : ℕ → T) (back : (v : T) → at (number v) ≡ v) (k : ℕ)
      (x y : T) →
      get_or (bits_of a) k 0 ≡ number x → get_or (bits_of b) k 0 ≡ number y →
      bits_of a ≡ bits_of b → x ≡ y
  bits_inj-at number at back k x y ex ey e =
      sym (back x) ∙ ap at (sym ex ∙ ap (λ l. get_or l k 0) e ∙ ey) ∙ back y

  bits_inj : bits_of a ≡ bits_of b → without_colors a ≡ without_colors b
  bits_inj e i = record {
    intensity =
        bits_inj-at intensity_number intensity_at intensity-back 0 a.intensity b.intensity refl refl
        e i;
    underline =
        bits_inj-at underline_number underline_at underline-back 1 a.underline b.underline refl refl
        e i;
    blink = bits_inj-at blink_number blink_at blink-back 2 a.blink b.blink refl refl e i;
    italic = bits_inj-at flag_number flag_at flag-back 3 a.italic b.italic refl refl e i;
    reverse = bits_inj-at flag_number flag_at flag-back 4 a.reverse b.reverse refl refl e i;
    strikethrough =
        bits_inj-at flag_number flag_at flag-back 5 a.strikethrough b.strikethrough refl refl e i;
    invisible = bits_inj-at flag_number flag_at flag-back 6 a.invisible b.invisible refl refl e i;
    wrapped = bits_inj-at flag_number flag_at flag-back 7 a.wrapped b.wrapped refl refl e i;
    overline = bits_inj-at flag_number flag_at flag-back 8 a.overline b.overline refl refl e i;
    semantic_type =
        bits_inj-at semantic_number semantic_at semantic-back 9 a.semantic_type b.semantic_type refl
        refl e i;
    vertical_align =
        bits_inj-at vertical_number vertical_at vertical-back 10 a.vertical_align b.vertical_align
        refl refl e i;
    foreground = color.Default;
    background = color.Default;
    underline_color = color.Default;
    hyperlink = None;
  }

  -- attributes of the same numbers differ in colours and link alone
  pub same-bits :
      (bits_of a ≡ bits_of b → without_colors a ≡ without_colors b) ×
      (without_colors a ≡ without_colors b → bits_of a ≡ bits_of b)
  same-bits = (bits_inj, ap bits_of)

  pub attributes_eq-Decides : Decides (attributes_eq a b) (a ≡ b)
  attributes_eq-Decides =
      Decides-like (attributes_eq a b)
      (λ e i. record (bits_inj e.0 i) {
        foreground = e.1.0 i;
        background = e.1.1.0 i;
        underline_color = e.1.1.1.0 i;
        hyperlink = e.1.1.1.1 i;
      })
      (λ e. (
        ap bits_of e,
        (
          (λ i. (e i).foreground),
          ((λ i. (e i).background), ((λ i. (e i).underline_color), (λ i. (e i).hyperlink))),
        ),
      ))
      (Decides-and _ _ (bytes_decides (bits_of a) (bits_of b))
      (Decides-and _ _ (color_eq-Decides a.foreground b.foreground)
      (Decides-and _ _ (color_eq-Decides a.background b.background)
      (Decides-and _ _ (color_eq-Decides a.underline_color b.underline_color)
      (option_link_eq-Decides a.hyperlink b.hyperlink)))))

-- every attribute has its default
abbrev pub default_attributes : Attributes
default_attributes = record {
  intensity = Normal;
  underline = underline.None;
  blink = blink.None;
  italic = false;
  reverse = false;
  strikethrough = false;
  invisible = false;
  wrapped = false;
  overline = false;
  semantic_type = Output;
  vertical_align = BaseLine;
  foreground = color.Default;
  background = color.Default;
  underline_color = color.Default;
  hyperlink = None;
}

-- default attributes with this background
abbrev pub with_background : ColorAttribute → Attributes
with_background color = record default_attributes { background = color }

-- the attributes are default but for the background
abbrev pub has_only_background : Attributes → Bool
has_only_background a = attributes_eq a (with_background a.background)
