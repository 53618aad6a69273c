-- Colours, attributes and cells, as the structs that C has of them.
use Rattle.std.specs.Prelude.{Option, Some, None, is_some, ◌==◌, if◌then◌else◌}
use Rattle.termwiz_cell.specs.Attributes.{Attributes, default_attributes}
use Rattle.termwiz_cell.specs.CellValue.{CellValue, columns}
use Rattle.termwiz_cell.specs.Rgb.{rgb}
use Rattle.termwiz_cell.specs.Style.{blink_number, intensity_number, semantic_number, underline_number, vertical_number}
use Rattle.termwiz_cell.specs.declared.cell.style.Blink.{Blink}
use Rattle.termwiz_cell.specs.declared.cell.style.Intensity.{Intensity}
use Rattle.termwiz_cell.specs.declared.cell.style.SemanticType.{SemanticType}
use Rattle.termwiz_cell.specs.declared.cell.style.Underline.{Underline}
use Rattle.termwiz_cell.specs.declared.cell.style.VerticalAlign.{VerticalAlign}
use Rattle.termwiz_cell.specs.declared.color.ColorAttribute.{ColorAttribute}
use Rattle.termwiz_cell.specs.declared.color.ColorAttribute.TheVariants as colors
use Rattle.tikeburo_c.specs.Numbers.{align_in, blink_in, intensity_in, semantic_in, underline_in}
use Rattle.tikeburo_c.specs.declared.fields.AttributeFields.{AttributeFields}
use Rattle.tikeburo_c.specs.declared.fields.CellFields.{CellFields}
use Rattle.tikeburo_c.specs.declared.fields.ColorFields.{ColorFields}

abbrev pub color_fields : ColorAttribute → ColorFields
color_fields colors.Default = record { kind = 0; red = 0; green = 0; blue = 0; index = 0 }
color_fields (colors.PaletteIndex index) =
    record { kind = 1; red = 0; green = 0; blue = 0; index = index }
color_fields (colors.TrueColorWithDefaultFallback c) =
    record { kind = 2; red = c.red; green = c.green; blue = c.blue; index = 0 }
color_fields (colors.TrueColorWithPaletteFallback c index) =
    record { kind = 3; red = c.red; green = c.green; blue = c.blue; index = index }

-- the colour of such a struct, if its kind is one
abbrev pub color_in : ColorFields → Option ColorAttribute
color_in f =
    if f.kind == 0 then Some colors.Default
    else if f.kind == 1 then Some (colors.PaletteIndex f.index)
    else if f.kind == 2 then Some (colors.TrueColorWithDefaultFallback (rgb f.red f.green f.blue))
    else if f.kind == 3
    then Some (colors.TrueColorWithPaletteFallback (rgb f.red f.green f.blue) f.index)
    else None

abbrev pub attribute_fields : Attributes → AttributeFields
attribute_fields a = record {
  intensity = intensity_number a.intensity;
  underline = underline_number a.underline;
  blink = blink_number a.blink;
  semantic_type = semantic_number a.semantic_type;
  vertical_align = vertical_number a.vertical_align;
  italic = a.italic;
  reverse = a.reverse;
  strikethrough = a.strikethrough;
  invisible = a.invisible;
  wrapped = a.wrapped;
  overline = a.overline;
  foreground = color_fields a.foreground;
  background = color_fields a.background;
  underline_color = color_fields a.underline_color;
}

abbrev pub cell_fields : CellValue → CellFields
cell_fields c =
    record {
      columns = columns c;
      has_link = is_some c.attrs.hyperlink;
      attributes = attribute_fields c.attrs;
    }

-- the attributes of such a struct that are no colours, if each is in its range
abbrev pub styles_in : AttributeFields → Option Attributes
styles_in f =
    of (intensity_in f.intensity) (underline_in f.underline) (blink_in f.blink)
    (semantic_in f.semantic_type) (align_in f.vertical_align)
  where
    of :
        Option Intensity → Option Underline → Option Blink → Option SemanticType →
        Option VerticalAlign → Option Attributes
    of (Some intensity) (Some underline) (Some blink) (Some semantic) (Some align) =
        Some (record default_attributes {
          intensity = intensity;
          underline = underline;
          blink = blink;
          semantic_type = semantic;
          vertical_align = align;
          italic = f.italic;
          reverse = f.reverse;
          strikethrough = f.strikethrough;
          invisible = f.invisible;
          wrapped = f.wrapped;
          overline = f.overline;
        })
    of _ _ _ _ _ = None

-- the attributes of such a struct, with no link, if each is in its range
abbrev pub attributes_in : AttributeFields → Option Attributes
attributes_in f =
    of (styles_in f) (color_in f.foreground) (color_in f.background) (color_in f.underline_color)
  where
    of :
        Option Attributes → Option ColorAttribute → Option ColorAttribute → Option ColorAttribute →
        Option Attributes
    of (Some a) (Some foreground) (Some background) (Some underline) = Some (record a {
      foreground = foreground;
      background = background;
      underline_color = underline;
    })
    of _ _ _ _ = None
