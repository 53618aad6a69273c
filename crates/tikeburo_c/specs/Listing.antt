-- Changes as the structs that C has of them, and their texts: the inverse of a list's reading.
use Rattle.std.specs.Int.{cast_unsigned, w64}
use Rattle.std.specs.Int.RustNames.{FitsSigned}
use Rattle.std.specs.List.{flat_map}
use Rattle.std.specs.Prelude.{◌≡◌, ℕ, ◌+◌, ◌*◌, List, [], Some, None, Ok, IsUtf8, length, map}
use Rattle.termwiz_cell.specs.AttributeChangeValue as attribute
use Rattle.termwiz_cell.specs.AttributeChangeValue.{AttributeChangeValue}
use Rattle.termwiz_cell.specs.Attributes.{Attributes, default_attributes}
use Rattle.termwiz_cell.specs.ChangeValue as change
use Rattle.termwiz_cell.specs.ChangeValue.{ChangeValue}
use Rattle.termwiz_cell.specs.Shapes.{line_number, shape_number}
use Rattle.termwiz_cell.specs.Style.{blink_number, intensity_number, underline_number}
use Rattle.termwiz_cell.specs.declared.change.CursorVisibility.{CursorVisibility}
use Rattle.termwiz_cell.specs.declared.change.CursorVisibility.TheVariants.{Hidden, Visible}
use Rattle.termwiz_cell.specs.declared.color.ColorAttribute.{ColorAttribute}
use Rattle.termwiz_cell.specs.declared.change.Position.{Position}
use Rattle.termwiz_cell.specs.declared.change.Position.TheVariants.{Absolute, EndRelative, Relative}
use Rattle.tikeburo_c.specs.Cells.{uri_of}
use Rattle.tikeburo_c.specs.Fields.{attribute_fields, color_fields}
use Rattle.tikeburo_c.specs.Lists.{link_to, listed_in, with_link}
use Rattle.tikeburo_c.specs.declared.fields.AttributeFields.{AttributeFields}
use Rattle.tikeburo_c.specs.declared.lists.ChangeFields.{ChangeFields}

-- ---- what a list of C can say

-- attributes as a pen of a list has them: a link has its uri alone, and one to no uri is none
abbrev pub bare_pen : Attributes → Attributes
bare_pen a = with_link (uri_of a.hyperlink) (record a { hyperlink = None })

abbrev pub bare_attribute : AttributeChangeValue → AttributeChangeValue
bare_attribute (attribute.Hyperlink (Some link)) = attribute.Hyperlink (Some (link_to link.uri))
bare_attribute c = c

-- a change as a list has it: the same, but for what its links have beside their uris
abbrev pub bare : ChangeValue → ChangeValue
bare (change.Attribute c) = change.Attribute (bare_attribute c)
bare (change.AllAttributes a) = change.AllAttributes (bare_pen a)
bare c = c

-- ---- the structs

abbrev pub plain : AttributeFields
plain = attribute_fields default_attributes

-- a change of a kind that has numbers, and one that has attributes
abbrev pub of_numbers : ℕ → ℕ → ℕ → ℕ → ChangeFields
of_numbers kind first second third =
    record { kind = kind; attributes = plain; first = first; second = second; third = third }

abbrev pub of_attributes : ℕ → AttributeFields → ChangeFields
of_attributes kind a =
    record { kind = kind; attributes = a; first = 0; second = 0; third = 0 }

-- one that has a background, and one that has a foreground
abbrev pub of_background : ℕ → ColorAttribute → ChangeFields
of_background kind c = of_attributes kind (record plain { background = color_fields c })

abbrev pub of_foreground : ℕ → ColorAttribute → ChangeFields
of_foreground kind c = of_attributes kind (record plain { foreground = color_fields c })

-- how a place is counted, and its number
abbrev pub counted_from : Position → ℕ
counted_from (Absolute n) = 0
counted_from (Relative d) = 1
counted_from (EndRelative n) = 2

abbrev pub place : Position → ℕ
place (Absolute n) = n
place (Relative d) = cast_unsigned w64 d
place (EndRelative n) = n

abbrev pub of_move : Position → Position → ChangeFields
of_move x y = of_numbers 14 (place x) (place y) (counted_from x + 4 * counted_from y)

abbrev pub shown_number : CursorVisibility → ℕ
shown_number Hidden = 0
shown_number Visible = 1

abbrev pub attribute_struct : AttributeChangeValue → ChangeFields
attribute_struct (attribute.Intensity v) =
    of_attributes 5 (record plain { intensity = intensity_number v })
attribute_struct (attribute.Underline v) =
    of_attributes 6 (record plain { underline = underline_number v })
attribute_struct (attribute.Blink v) = of_attributes 7 (record plain { blink = blink_number v })
attribute_struct (attribute.Italic v) = of_attributes 8 (record plain { italic = v })
attribute_struct (attribute.Reverse v) = of_attributes 9 (record plain { reverse = v })
attribute_struct (attribute.StrikeThrough v) = of_attributes 10 (record plain { strikethrough = v })
attribute_struct (attribute.Invisible v) = of_attributes 11 (record plain { invisible = v })
attribute_struct (attribute.Foreground c) = of_foreground 12 c
attribute_struct (attribute.Background c) = of_background 13 c
attribute_struct (attribute.Hyperlink (Some link)) = of_numbers 2 (length link.uri) 0 0
attribute_struct (attribute.Hyperlink None) = of_numbers 3 0 0 0

abbrev pub pen_struct : Attributes → ChangeFields
pen_struct a =
    record (of_attributes 4 (attribute_fields a)) { first = length (uri_of a.hyperlink) }

-- the struct of a change
abbrev pub struct_of : ChangeValue → ChangeFields
struct_of (change.Text text) = of_numbers 0 (length text) 0 0
struct_of (change.Title text) = of_numbers 1 (length text) 0 0
struct_of (change.Attribute c) = attribute_struct c
struct_of (change.AllAttributes a) = pen_struct a
struct_of (change.CursorPosition x y) = of_move x y
struct_of (change.ClearScreen c) = of_background 15 c
struct_of (change.ClearToEndOfLine c) = of_background 16 c
struct_of (change.ClearToEndOfScreen c) = of_background 17 c
struct_of (change.ScrollRegionUp first size count) = of_numbers 18 first size count
struct_of (change.ScrollRegionDown first size count) = of_numbers 19 first size count
struct_of (change.CursorVisibility v) = of_numbers 20 (shown_number v) 0 0
struct_of (change.CursorShape s) = of_numbers 21 (shape_number s) 0 0
struct_of (change.CursorColor c) = of_foreground 22 c
struct_of (change.LineAttribute a) = of_numbers 23 (line_number a) 0 0

-- its bytes of the list's texts
abbrev pub no_text : List ℕ
no_text = []

abbrev pub attribute_text : AttributeChangeValue → List ℕ
attribute_text (attribute.Hyperlink link) = uri_of link
attribute_text _ = []

abbrev pub text_of : ChangeValue → List ℕ
text_of (change.Text text) = text
text_of (change.Title text) = text
text_of (change.Attribute c) = attribute_text c
text_of (change.AllAttributes a) = uri_of a.hyperlink
text_of _ = []

-- ---- lists

-- what every change of a program has: its texts are UTF-8, and its distances fit
abbrev pub IsPlace : Position → Type 0
IsPlace (Relative d) = FitsSigned w64 d
IsPlace _ = Unit {0}

abbrev pub HasPlaces : ChangeValue → Type 0
HasPlaces (change.CursorPosition x y) = IsPlace x × IsPlace y
HasPlaces _ = Unit {0}

pub record IsListable (c : ChangeValue) : Type 0 where
  pub utf8 : IsUtf8 (text_of c)
  pub places : HasPlaces c

-- the structs and the texts of these changes, which a list's reading gives back
pub record IsListOf (cs : List ChangeValue) (fs : List ChangeFields) (bytes : List ℕ) :
    Type 0 where
  pub list : fs ≡ map struct_of cs
  pub texts : bytes ≡ flat_map text_of cs
  pub read : listed_in fs bytes ≡ Ok (map bare cs)
