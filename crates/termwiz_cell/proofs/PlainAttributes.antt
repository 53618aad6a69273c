-- Attributes that are default but for the background, test by test.
use Rattle.std.proofs.Common.{◌≡◌, Bool, true, false, not, refl, sym, ◌∙◌, bytes_eq}
use Rattle.std.specs.Prelude.{is_none, is_some, Option, Some, None, option_map}
use Rattle.termwiz_cell.specs.declared.color.ColorAttribute.{ColorAttribute}
use Rattle.termwiz_cell.specs.declared.color.ColorAttribute.TheVariants as color
use Rattle.termwiz_cell.specs.Attributes.{Attributes, default_attributes, bits_of, is_default, color_eq, color_eq-Decides, option_link_eq, has_only_background}
use Rattle.termwiz_cell.specs.Link.{Link}

no_link : (link : Option Link) → option_link_eq link None ≡ is_none link
no_link None = refl
no_link (Some l) = refl

default_color : (c : ColorAttribute) → color_eq c color.Default ≡ is_default c
default_color (color.TrueColorWithPaletteFallback _ _) = refl
default_color (color.TrueColorWithDefaultFallback _) = refl
default_color (color.PaletteIndex _) = refl
default_color color.Default = refl

-- a link that is lent is there where the link is
pub is_none_map : {X : Type 0} (f : X → Link) (o : Option X) (n : Bool) → is_some o ≡ not n → is_none (option_map f o) ≡ n
is_none_map f None true h = refl
is_none_map f None false h = cc
is_none_map f (Some x) true h = cc
is_none_map f (Some x) false h = refl

module _ (a : Attributes) where
  same_background : color_eq a.background a.background ≡ true
  same_background = (color_eq-Decides a.background a.background).1 refl

  pub plain_link : bytes_eq (bits_of a) (bits_of default_attributes) ≡ true → is_default a.foreground ≡ true → is_default a.underline_color ≡ true → is_none a.hyperlink ≡ has_only_background a
  plain_link b f u = sym (rw (b, default_color a.foreground ∙ f, same_background, default_color a.underline_color ∙ u) (no_link a.hyperlink))

  pub plain_bits : bytes_eq (bits_of a) (bits_of default_attributes) ≡ false → has_only_background a ≡ false
  plain_bits b = rw b refl

  pub plain_foreground : bytes_eq (bits_of a) (bits_of default_attributes) ≡ true → is_default a.foreground ≡ false → has_only_background a ≡ false
  plain_foreground b f = rw (b, default_color a.foreground ∙ f) refl

  pub plain_underline : bytes_eq (bits_of a) (bits_of default_attributes) ≡ true → is_default a.foreground ≡ true → is_default a.underline_color ≡ false → has_only_background a ≡ false
  plain_underline b f u = rw (b, default_color a.foreground ∙ f, same_background, default_color a.underline_color ∙ u) refl

pub ruleset plain = (plain_link, plain_bits, plain_foreground, plain_underline)
