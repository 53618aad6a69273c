-- The cell's colour that a colour becomes: a true colour falls back to the default one.
use Rattle.termwiz_cell.specs.declared.color.ColorSpec.{ColorSpec}
use Rattle.termwiz_cell.specs.declared.color.ColorSpec.TheVariants as spec
use Rattle.termwiz_cell.specs.declared.color.ColorAttribute.{ColorAttribute}
use Rattle.termwiz_cell.specs.declared.color.ColorAttribute.TheVariants as attribute

abbrev pub attribute_of : ColorSpec → ColorAttribute
attribute_of spec.Default = attribute.Default
attribute_of (spec.PaletteIndex index) = attribute.PaletteIndex index
attribute_of (spec.TrueColor color) = attribute.TrueColorWithDefaultFallback color
