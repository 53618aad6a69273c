-- A change of one attribute, with its link as a value, and what it makes of attributes.
use Rattle.std.specs.Prelude.{Bool, false, not, ◌&&◌, ◌||◌, Option, is_some}
use Rattle.termwiz_cell.specs.declared.cell.style.Intensity as intensity
use Rattle.termwiz_cell.specs.declared.cell.style.Underline as underline
use Rattle.termwiz_cell.specs.declared.cell.style.Blink as blink
use Rattle.termwiz_cell.specs.declared.color.ColorAttribute.{ColorAttribute}
use Rattle.termwiz_cell.specs.declared.cell.attribute_change.AttributeChange.{AttributeChange}
use Rattle.termwiz_cell.specs.declared.cell.attribute_change.AttributeChange.TheVariants as code
use Rattle.termwiz_cell.specs.Link.{Link, linked}
use Rattle.termwiz_cell.specs.Attributes.{Attributes, needs_box}

pub data AttributeChangeValue : Type 0 where
  Intensity : (value : intensity.Intensity) → AttributeChangeValue
  Underline : (value : underline.Underline) → AttributeChangeValue
  Italic : (value : Bool) → AttributeChangeValue
  Blink : (value : blink.Blink) → AttributeChangeValue
  Reverse : (value : Bool) → AttributeChangeValue
  StrikeThrough : (value : Bool) → AttributeChangeValue
  Invisible : (value : Bool) → AttributeChangeValue
  Foreground : (value : ColorAttribute) → AttributeChangeValue
  Background : (value : ColorAttribute) → AttributeChangeValue
  Hyperlink : (value : Option Link) → AttributeChangeValue

abbrev pub attribute_change_value : AttributeChange → AttributeChangeValue
attribute_change_value (code.Intensity value) = Intensity value
attribute_change_value (code.Underline value) = Underline value
attribute_change_value (code.Italic value) = Italic value
attribute_change_value (code.Blink value) = Blink value
attribute_change_value (code.Reverse value) = Reverse value
attribute_change_value (code.StrikeThrough value) = StrikeThrough value
attribute_change_value (code.Invisible value) = Invisible value
attribute_change_value (code.Foreground value) = Foreground value
attribute_change_value (code.Background value) = Background value
attribute_change_value (code.Hyperlink value) = Hyperlink (linked value)

-- the attributes after the change
abbrev pub with_attribute : Attributes → AttributeChangeValue → Attributes
with_attribute a (Intensity value) = record a { intensity = value }
with_attribute a (Underline value) = record a { underline = value }
with_attribute a (Italic value) = record a { italic = value }
with_attribute a (Blink value) = record a { blink = value }
with_attribute a (Reverse value) = record a { reverse = value }
with_attribute a (StrikeThrough value) = record a { strikethrough = value }
with_attribute a (Invisible value) = record a { invisible = value }
with_attribute a (Foreground value) = record a { foreground = value }
with_attribute a (Background value) = record a { background = value }
with_attribute a (Hyperlink value) = record a { hyperlink = value }

-- the change sets a link, whose copy may find no memory
abbrev pub is_link : AttributeChangeValue → Bool
is_link (Hyperlink link) = is_some link
is_link _ = false

-- the change may find no memory: at a link, which is copied, and where attributes that needed no
-- box come to need one
abbrev pub takes_memory : Attributes → AttributeChangeValue → Bool
takes_memory a change = is_link change || (not (needs_box a) && needs_box (with_attribute a change))
