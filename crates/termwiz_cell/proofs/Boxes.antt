-- The one form of attributes: what stands in the word, beside it, and in the box.
use Rattle.std.proofs.Common.{◌≡◌, Bool, true, ℕ, Option, Some, None, refl, ap, sym, ◌∙◌}
use Rattle.std.specs.Prelude.{is_none}
use Rattle.std.specs.Bool.{Decides}
use Rattle.std.proofs.lemmas.Bool.Decides.{Decides-like, Decides-and, same_from_decides}
use Rattle.termwiz_cell.specs.declared.color.ColorAttribute.{ColorAttribute}
use Rattle.termwiz_cell.specs.declared.color.ColorAttribute.TheVariants as color
use Rattle.termwiz_cell.specs.Style.{Style}
use Rattle.termwiz_cell.specs.declared.cell.attributes.CellAttributes.TheInside.{Inside}
use Rattle.termwiz_cell.specs.declared.cell.form.Form.TheVariants as form
use Rattle.termwiz_cell.specs.StyleWord.{style_at}
use Rattle.termwiz_cell.specs.Link.{Link}
use Rattle.termwiz_cell.specs.Attributes.{Attributes, default_attributes, is_default, color_eq-Decides, attributes_eq, attributes_eq-Decides, option_link_eq-Decides}
use Rattle.termwiz_cell.specs.FallbackWord.{Fallbacks, fallback_of, word_part, with_fallback, is_apart, no_fallbacks}
use Rattle.termwiz_cell.specs.AttributesLayout.{Rare, rare_default, is_rare_default, style_in, fallbacks_in, rare_in, rare_eq, attributes_from, attributes_of, IsCanonical}

fallback_of-with_fallback : (fallback : Option ℕ) (word : ColorAttribute) → is_apart fallback word ≡ true → fallback_of (with_fallback fallback word) ≡ fallback
fallback_of-with_fallback None color.Default h = refl
fallback_of-with_fallback None (color.PaletteIndex n) h = refl
fallback_of-with_fallback None (color.TrueColorWithDefaultFallback c) h = refl
fallback_of-with_fallback None (color.TrueColorWithPaletteFallback c n) h = cc
fallback_of-with_fallback (Some i) color.Default h = cc
fallback_of-with_fallback (Some i) (color.PaletteIndex n) h = cc
fallback_of-with_fallback (Some i) (color.TrueColorWithDefaultFallback c) h = refl
fallback_of-with_fallback (Some i) (color.TrueColorWithPaletteFallback c n) h = cc

word_part-with_fallback : (fallback : Option ℕ) (word : ColorAttribute) → is_apart fallback word ≡ true → word_part (with_fallback fallback word) ≡ word
word_part-with_fallback None color.Default h = refl
word_part-with_fallback None (color.PaletteIndex n) h = refl
word_part-with_fallback None (color.TrueColorWithDefaultFallback c) h = refl
word_part-with_fallback None (color.TrueColorWithPaletteFallback c n) h = cc
word_part-with_fallback (Some i) color.Default h = cc
word_part-with_fallback (Some i) (color.PaletteIndex n) h = cc
word_part-with_fallback (Some i) (color.TrueColorWithDefaultFallback c) h = refl
word_part-with_fallback (Some i) (color.TrueColorWithPaletteFallback c n) h = cc

-- the attributes that the word has
abbrev style_of : Attributes → Style
style_of a = record {
  intensity = a.intensity;
  underline = a.underline;
  blink = a.blink;
  italic = a.italic;
  reverse = a.reverse;
  strikethrough = a.strikethrough;
  invisible = a.invisible;
  wrapped = a.wrapped;
  overline = a.overline;
  semantic_type = a.semantic_type;
  vertical_align = a.vertical_align;
  foreground = word_part a.foreground;
  background = word_part a.background;
}

-- the fallbacks beside the word
abbrev fallbacks_from : Attributes → Fallbacks
fallbacks_from a = record { foreground = fallback_of a.foreground; background = fallback_of a.background }

-- the rare attributes
abbrev rare_from : Attributes → Rare
rare_from a = record { underline_color = a.underline_color; hyperlink = a.hyperlink }

module _ (style : Style) (fallbacks : Fallbacks) (rare : Rare) (hf : is_apart fallbacks.foreground style.foreground ≡ true) (hb : is_apart fallbacks.background style.background ≡ true) where
  style_of-attributes_from : style_of (attributes_from style fallbacks rare) ≡ style
  style_of-attributes_from i = record style { foreground = word_part-with_fallback fallbacks.foreground style.foreground hf i; background = word_part-with_fallback fallbacks.background style.background hb i }

  fallbacks_from-attributes_from : fallbacks_from (attributes_from style fallbacks rare) ≡ fallbacks
  fallbacks_from-attributes_from i = record fallbacks { foreground = fallback_of-with_fallback fallbacks.foreground style.foreground hf i; background = fallback_of-with_fallback fallbacks.background style.background hb i }

-- rare attributes are equal exactly where their parts are
pub rare_eq-Decides : (a b : Rare) → Decides (rare_eq a b) (a ≡ b)
rare_eq-Decides a b =
    Decides-like (rare_eq a b)
    (λ e i. record { underline_color = e.0 i; hyperlink = e.1 i })
    (λ e. ((λ i. (e i).underline_color), (λ i. (e i).hyperlink)))
    (Decides-and _ _ (color_eq-Decides a.underline_color b.underline_color) (option_link_eq-Decides a.hyperlink b.hyperlink))

is_default-Decides : (c : ColorAttribute) → Decides (is_default c) (c ≡ color.Default)
is_default-Decides color.Default = (λ _. refl, λ _. refl)
is_default-Decides (color.TrueColorWithPaletteFallback _ _) = (λ e. cc, λ e. cc)
is_default-Decides (color.TrueColorWithDefaultFallback _) = (λ e. cc, λ e. cc)
is_default-Decides (color.PaletteIndex _) = (λ e. cc, λ e. cc)

is_none-Decides : (link : Option Link) → Decides (is_none link) (link ≡ None)
is_none-Decides None = (λ _. refl, λ _. refl)
is_none-Decides (Some _) = (λ e. cc, λ e. cc)

-- the test whether all rare attributes have their defaults
pub rare_default-Decides : (r : Rare) → Decides (is_rare_default r) (r ≡ rare_default)
rare_default-Decides r =
    Decides-like (is_rare_default r)
    (λ e i. record { underline_color = e.0 i; hyperlink = e.1 i })
    (λ e. ((λ i. (e i).underline_color), (λ i. (e i).hyperlink)))
    (Decides-and _ _ (is_default-Decides r.underline_color) (is_none-Decides r.hyperlink))

pub rare_default_only : (r : Rare) → is_rare_default r ≡ true → r ≡ rare_default
rare_default_only r h = (rare_default-Decides r).0 h

-- attributes are equal exactly where word, fallbacks and box are
pub same-parts : (a b : Inside) → IsCanonical a → IsCanonical b → (same : Bool) → Decides same ((style_in a.form ≡ style_in b.form) × (fallbacks_in a.form ≡ fallbacks_in b.form) × (rare_in a.form ≡ rare_in b.form)) → same ≡ attributes_eq (attributes_of a) (attributes_of b)
same-parts a b ha hb same h =
    same_from_decides same _
    (Decides-like same
    (λ e i. attributes_from (e.0 i) (e.1 i) (e.2 i))
    (λ e. (
      sym (style_of-attributes_from (style_in a.form) (fallbacks_in a.form) (rare_in a.form) ha.foreground ha.background) ∙ ap style_of e ∙ style_of-attributes_from (style_in b.form) (fallbacks_in b.form) (rare_in b.form) hb.foreground hb.background,
      sym (fallbacks_from-attributes_from (style_in a.form) (fallbacks_in a.form) (rare_in a.form) ha.foreground ha.background) ∙ ap fallbacks_from e ∙ fallbacks_from-attributes_from (style_in b.form) (fallbacks_in b.form) (rare_in b.form) hb.foreground hb.background,
      ap rare_from e,
    ))
    h)
    (attributes_eq-Decides (attributes_of a) (attributes_of b))

-- the attributes that stand in the word 0 alone
abbrev blank_inside : Inside
blank_inside = record { form = form.Plain no_fallbacks (style_at 0) }

blank_canonical : IsCanonical blank_inside
blank_canonical = record { needed = tt; foreground = refl; background = refl }

-- attributes are the default ones exactly where word, fallbacks and box are
pub same-as-blank : (a : Inside) → IsCanonical a → (same : Bool) → Decides same ((style_in a.form ≡ style_at 0) × (fallbacks_in a.form ≡ no_fallbacks) × (rare_in a.form ≡ rare_default)) → same ≡ attributes_eq (attributes_of a) default_attributes
same-as-blank a ha same h = same-parts a blank_inside ha blank_canonical same h
