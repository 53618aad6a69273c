-- How the fields of `CellAttributes` give the attributes.
use Rattle.std.specs.Prelude.{◌≡◌, Bool, true, false, ◌&&◌, Option, None, is_none, ⊤}
use Rattle.termwiz_cell.specs.declared.color.ColorAttribute.{ColorAttribute}
use Rattle.termwiz_cell.specs.declared.color.ColorAttribute.TheVariants as color
use Rattle.termwiz_cell.specs.declared.cell.form.Full.{Full}
use Rattle.termwiz_cell.specs.declared.cell.form.Form.{Form}
use Rattle.termwiz_cell.specs.declared.cell.form.Form.TheVariants as form
use Rattle.termwiz_cell.specs.declared.cell.attributes.CellAttributes.TheInside.{Inside}
use Rattle.termwiz_cell.specs.Link.{Link, linked}
use Rattle.termwiz_cell.specs.Style.{Style}
use Rattle.termwiz_cell.specs.FallbackWord.{Fallbacks, with_fallback, is_apart}
use Rattle.termwiz_cell.specs.Attributes.{Attributes, is_default, color_eq, option_link_eq}

-- the attributes that few cells have: the underline colour and the link
pub record Rare : Type 0 where
  pub underline_color : ColorAttribute
  pub hyperlink : Option Link

abbrev pub rare_default : Rare
rare_default = record { underline_color = color.Default; hyperlink = None }

-- `==` of rare attributes
abbrev pub rare_eq : Rare → Rare → Bool
rare_eq a b =
    color_eq a.underline_color b.underline_color && option_link_eq a.hyperlink b.hyperlink

abbrev pub full_rare : Full → Rare
full_rare f = record { underline_color = f.underline_color; hyperlink = linked f.hyperlink }

-- the word's attributes of either form
abbrev pub style_in : Form → Style
style_in (form.Plain _ style) = style
style_in (form.Boxed b) = b.value.style

-- the fallbacks of the word's colours, of either form
abbrev pub fallbacks_in : Form → Fallbacks
fallbacks_in (form.Plain fallbacks _) = fallbacks
fallbacks_in (form.Boxed b) = b.value.fallbacks

-- the rare attributes of either form
abbrev pub rare_in : Form → Rare
rare_in (form.Plain _ _) = rare_default
rare_in (form.Boxed b) = full_rare b.value

-- the form with these attributes in its word
abbrev pub with_style : Form → Style → Form
with_style (form.Plain fallbacks _) style = form.Plain fallbacks style
with_style (form.Boxed b) style = form.Boxed (record b { value = record b.value { style = style } })

abbrev pub is_boxed : Form → Bool
is_boxed (form.Plain _ _) = false
is_boxed (form.Boxed _) = true

abbrev pub is_rare_default : Rare → Bool
is_rare_default r = is_default r.underline_color && is_none r.hyperlink

-- the box is there only while an attribute in it is not the default
abbrev pub IsNeeded : Form → Type 0
IsNeeded (form.Plain _ _) = ⊤
IsNeeded (form.Boxed b) = is_rare_default (full_rare b.value) ≡ false

abbrev pub attributes_from : Style → Fallbacks → Rare → Attributes
attributes_from style fallbacks rare = record {
  intensity = style.intensity;
  underline = style.underline;
  blink = style.blink;
  italic = style.italic;
  reverse = style.reverse;
  strikethrough = style.strikethrough;
  invisible = style.invisible;
  wrapped = style.wrapped;
  overline = style.overline;
  semantic_type = style.semantic_type;
  vertical_align = style.vertical_align;
  foreground = with_fallback fallbacks.foreground style.foreground;
  background = with_fallback fallbacks.background style.background;
  underline_color = rare.underline_color;
  hyperlink = rare.hyperlink;
}

abbrev pub attributes_of : Inside → Attributes
attributes_of a = attributes_from (style_in a.form) (fallbacks_in a.form) (rare_in a.form)

-- the box is there only while it is needed, and a fallback only where the word's colour takes one:
-- so attributes have one form
pub record IsCanonical (a : Inside) : Type 0 where
  pub needed : IsNeeded a.form
  pub foreground : is_apart (fallbacks_in a.form).foreground (style_in a.form).foreground ≡ true
  pub background : is_apart (fallbacks_in a.form).background (style_in a.form).background ≡ true
