-- What has an encoding: each value of a program does.
use Rattle.std.specs.Prelude.{◌≡◌, ℕ, ◌*◌, ◌<◌, ◌^◌, true, List, length, Option, Some, None}
use Rattle.std.specs.List.{AllByRecursion}
use Rattle.cbor.specs.Encoding.{IsSigned, IsText}
use Rattle.termwiz_cell.specs.Attributes.{Attributes}
use Rattle.termwiz_cell.specs.AttributeChangeValue.{AttributeChangeValue}
use Rattle.termwiz_cell.specs.AttributeChangeValue as attribute
use Rattle.termwiz_cell.specs.ChangeValue.{ChangeValue}
use Rattle.termwiz_cell.specs.ChangeValue as changed
use Rattle.termwiz_cell.specs.Link.{Link}
use Rattle.termwiz_cell.specs.LinkText.{AreInOrder}
use Rattle.termwiz_cell.specs.StyleWord.{IsRgb}
use Rattle.termwiz_cell.specs.declared.color.ColorAttribute.{ColorAttribute}
use Rattle.termwiz_cell.specs.declared.color.ColorAttribute.TheVariants as colors
use Rattle.termwiz_cell.specs.declared.change.Position.{Position}
use Rattle.termwiz_cell.specs.declared.change.Position.TheVariants.{Relative, Absolute, EndRelative}
use Rattle.termwiz_wire.specs.Pieces.{runs, needs_pieces}

abbrev pub IsColor : ColorAttribute → Type 0
IsColor colors.Default = Unit {0}
IsColor (colors.PaletteIndex index) = index < 256
IsColor (colors.TrueColorWithDefaultFallback c) = IsRgb c
IsColor (colors.TrueColorWithPaletteFallback c index) = IsRgb c × (index < 256)

pub record IsParam (p : List ℕ × List ℕ) : Type 0 where
  pub key : IsText p.0
  pub value : IsText p.1

pub record IsLink (l : Link) : Type 0 where
  pub uri : IsText l.uri
  pub count : length l.params < 2 ^ 64
  pub params : AllByRecursion IsParam l.params
  pub ordered : AreInOrder l.params

abbrev pub IsOptionalLink : Option Link → Type 0
IsOptionalLink None = Unit {0}
IsOptionalLink (Some l) = IsLink l

pub record AreAttributes (a : Attributes) : Type 0 where
  pub foreground : IsColor a.foreground
  pub background : IsColor a.background
  pub underline : IsColor a.underline_color
  pub link : IsOptionalLink a.hyperlink

abbrev pub IsAttributeChange : AttributeChangeValue → Type 0
IsAttributeChange (attribute.Foreground c) = IsColor c
IsAttributeChange (attribute.Background c) = IsColor c
IsAttributeChange (attribute.Hyperlink l) = IsOptionalLink l
IsAttributeChange _ = Unit {0}

abbrev pub IsPosition : Position → Type 0
IsPosition (Relative distance) = IsSigned distance
IsPosition (Absolute n) = n < 2 ^ 64
IsPosition (EndRelative n) = n < 2 ^ 64

abbrev pub IsScroll : ℕ → ℕ → ℕ → Type 0
IsScroll first size count = (first < 2 ^ 64) × (size < 2 ^ 64) × (count < 2 ^ 64)

-- a text whose pieces, where it needs them, can be counted
pub record IsPrinted (measure : List ℕ → ℕ) (t : List ℕ) : Type 0 where
  pub text : IsText t
  pub pieces : needs_pieces (runs measure t) ≡ true → 3 * length (runs measure t) < 2 ^ 64

abbrev pub IsChange : (List ℕ → ℕ) → ChangeValue → Type 0
IsChange measure (changed.Attribute c) = IsAttributeChange c
IsChange measure (changed.AllAttributes a) = AreAttributes a
IsChange measure (changed.Text t) = IsPrinted measure t
IsChange measure (changed.ClearScreen c) = IsColor c
IsChange measure (changed.ClearToEndOfLine c) = IsColor c
IsChange measure (changed.ClearToEndOfScreen c) = IsColor c
IsChange measure (changed.CursorPosition x y) = IsPosition x × IsPosition y
IsChange measure (changed.CursorColor c) = IsColor c
IsChange measure (changed.ScrollRegionUp first size count) = IsScroll first size count
IsChange measure (changed.ScrollRegionDown first size count) = IsScroll first size count
IsChange measure (changed.Title t) = IsText t
IsChange measure _ = Unit {0}

pub record AreChanges (measure : List ℕ → ℕ) (cs : List ChangeValue) : Type 0 where
  pub count : length cs < 2 ^ 64
  pub each : AllByRecursion (IsChange measure) cs
