-- How changes are encoded. An array begins with the number of its items, and what comes in several
-- kinds with the number of its kind.
use Rattle.std.specs.Prelude.{ℕ, Bool, true, false, ◌+◌, ◌*◌, List, [], ◌∷◌, ◌++◌, length, Option, Some, None, ◌==◌, if◌then◌else◌}
use Rattle.std.specs.List.{flat_map}
use Rattle.cbor.specs.Encoding.{unsigned, signed, boolean, null, text, array}
use Rattle.termwiz_cell.specs.Attributes.{Attributes, bits_of}
use Rattle.termwiz_cell.specs.AttributeChangeValue.{AttributeChangeValue}
use Rattle.termwiz_cell.specs.AttributeChangeValue as attribute
use Rattle.termwiz_cell.specs.ChangeValue.{ChangeValue}
use Rattle.termwiz_cell.specs.ChangeValue as changed
use Rattle.termwiz_cell.specs.Link.{Link}
use Rattle.termwiz_cell.specs.Shapes.{shape_number, line_number}
use Rattle.termwiz_cell.specs.Style.{intensity_number, underline_number, blink_number}
use Rattle.termwiz_cell.specs.declared.color.ColorAttribute.{ColorAttribute}
use Rattle.termwiz_cell.specs.declared.color.ColorAttribute.TheVariants as colors
use Rattle.termwiz_cell.specs.declared.change.Position.{Position}
use Rattle.termwiz_cell.specs.declared.change.Position.TheVariants.{Relative, Absolute, EndRelative}
use Rattle.termwiz_cell.specs.declared.change.CursorVisibility.{CursorVisibility}
use Rattle.termwiz_cell.specs.declared.change.CursorVisibility.TheVariants.{Hidden, Visible}
use Rattle.termwiz_wire.specs.Pieces.{runs, needs_pieces}
use Rattle.termwiz_wire.specs.declared.pieces.Run.{Run}

unfoldable pub color : ColorAttribute → List ℕ
color colors.Default = null
color (colors.PaletteIndex index) = unsigned index
color (colors.TrueColorWithDefaultFallback c) =
    array 3 ++ unsigned c.red ++ unsigned c.green ++ unsigned c.blue
color (colors.TrueColorWithPaletteFallback c index) =
    array 4 ++ unsigned c.red ++ unsigned c.green ++ unsigned c.blue ++ unsigned index

-- the bit fields of the small attributes, the lowest first: how many values each has room for
abbrev pub fields : List ℕ
fields = 4 ∷ 8 ∷ 4 ∷ 2 ∷ 2 ∷ 2 ∷ 2 ∷ 2 ∷ 2 ∷ 4 ∷ 4 ∷ []

-- values in bit fields
abbrev pub fields_joined : List ℕ → List ℕ → ℕ
fields_joined [] values = 0
fields_joined (k ∷ ks) [] = 0
fields_joined (k ∷ ks) (v ∷ vs) = v + k * fields_joined ks vs

-- the small attributes as one number
abbrev pub style_number : Attributes → ℕ
style_number a = fields_joined fields (bits_of a)

-- a key and its value
unfoldable pub param : List ℕ × List ℕ → List ℕ
param p = array 2 ++ text p.0 ++ text p.1

unfoldable pub link : Link → List ℕ
link l =
    array 3 ++ text l.uri ++ boolean l.implicit ++ array (length l.params) ++
    flat_map param l.params

abbrev pub optional_link : Option Link → List ℕ
optional_link None = null
optional_link (Some l) = link l

unfoldable pub attributes : Attributes → List ℕ
attributes a =
    array 5 ++ unsigned (style_number a) ++ color a.foreground ++ color a.background ++
    color a.underline_color ++ optional_link a.hyperlink

-- the kinds of changes of one attribute
abbrev pub attribute_kind : AttributeChangeValue → ℕ
attribute_kind (attribute.Intensity v) = 0
attribute_kind (attribute.Underline v) = 1
attribute_kind (attribute.Italic v) = 2
attribute_kind (attribute.Blink v) = 3
attribute_kind (attribute.Reverse v) = 4
attribute_kind (attribute.StrikeThrough v) = 5
attribute_kind (attribute.Invisible v) = 6
attribute_kind (attribute.Foreground v) = 7
attribute_kind (attribute.Background v) = 8
attribute_kind (attribute.Hyperlink v) = 9

unfoldable pub attribute_value : AttributeChangeValue → List ℕ
attribute_value (attribute.Intensity v) = unsigned (intensity_number v)
attribute_value (attribute.Underline v) = unsigned (underline_number v)
attribute_value (attribute.Italic v) = boolean v
attribute_value (attribute.Blink v) = unsigned (blink_number v)
attribute_value (attribute.Reverse v) = boolean v
attribute_value (attribute.StrikeThrough v) = boolean v
attribute_value (attribute.Invisible v) = boolean v
attribute_value (attribute.Foreground v) = color v
attribute_value (attribute.Background v) = color v
attribute_value (attribute.Hyperlink v) = optional_link v

abbrev pub attribute_change : AttributeChangeValue → List ℕ
attribute_change c = array 2 ++ unsigned (attribute_kind c) ++ attribute_value c

unfoldable pub position : Position → List ℕ
position (Relative distance) = array 2 ++ unsigned 0 ++ signed distance
position (Absolute n) = array 2 ++ unsigned 1 ++ unsigned n
position (EndRelative n) = array 2 ++ unsigned 2 ++ unsigned n

abbrev pub is_visible : CursorVisibility → Bool
is_visible Hidden = false
is_visible Visible = true

-- a run of pieces
unfoldable pub run : Run → List ℕ
run r = unsigned r.count ++ unsigned r.characters ++ unsigned r.columns

-- runs of pieces, by three numbers each
unfoldable pub pieces : List Run → List ℕ
pieces rs = array (3 * length rs) ++ flat_map run rs

-- a text with its pieces, where it needs them
abbrev pub with_pieces : List ℕ → List Run → List ℕ
with_pieces t rs = text t ++ (if needs_pieces rs then pieces rs else [])

unfoldable pub scroll : ℕ → ℕ → ℕ → List ℕ
scroll first size count = unsigned first ++ unsigned size ++ unsigned count

-- the kinds of changes
abbrev pub change_kind : ChangeValue → ℕ
change_kind (changed.Attribute c) = 0
change_kind (changed.AllAttributes a) = 1
change_kind (changed.Text t) = 2
change_kind (changed.ClearScreen c) = 3
change_kind (changed.ClearToEndOfLine c) = 4
change_kind (changed.ClearToEndOfScreen c) = 5
change_kind (changed.CursorPosition x y) = 6
change_kind (changed.CursorColor c) = 7
change_kind (changed.CursorShape s) = 8
change_kind (changed.CursorVisibility v) = 9
change_kind (changed.ScrollRegionUp first size count) = 10
change_kind (changed.ScrollRegionDown first size count) = 11
change_kind (changed.Title t) = 12
change_kind (changed.LineAttribute l) = 13

-- how many items a change of this kind has, with the kind and without pieces
abbrev pub change_count : ℕ → ℕ
change_count kind = if kind == 6 then 3 else if kind == 10 then 4 else if kind == 11 then 4 else 2

-- the pieces are an item more
abbrev pub has_pieces : (List ℕ → ℕ) → ChangeValue → Bool
has_pieces measure (changed.Text t) = needs_pieces (runs measure t)
has_pieces measure _ = false

abbrev pub item_count : (List ℕ → ℕ) → ChangeValue → ℕ
item_count measure c = if has_pieces measure c then 3 else change_count (change_kind c)

unfoldable pub change_values : (List ℕ → ℕ) → ChangeValue → List ℕ
change_values measure (changed.Attribute c) = attribute_change c
change_values measure (changed.AllAttributes a) = attributes a
change_values measure (changed.Text t) = with_pieces t (runs measure t)
change_values measure (changed.ClearScreen c) = color c
change_values measure (changed.ClearToEndOfLine c) = color c
change_values measure (changed.ClearToEndOfScreen c) = color c
change_values measure (changed.CursorPosition x y) = position x ++ position y
change_values measure (changed.CursorColor c) = color c
change_values measure (changed.CursorShape s) = unsigned (shape_number s)
change_values measure (changed.CursorVisibility v) = boolean (is_visible v)
change_values measure (changed.ScrollRegionUp first size count) = scroll first size count
change_values measure (changed.ScrollRegionDown first size count) = scroll first size count
change_values measure (changed.Title t) = text t
change_values measure (changed.LineAttribute l) = unsigned (line_number l)

abbrev pub change : (List ℕ → ℕ) → ChangeValue → List ℕ
change measure c =
    array (item_count measure c) ++ unsigned (change_kind c) ++ change_values measure c

-- how many, and each
unfoldable pub changes : (List ℕ → ℕ) → List ChangeValue → List ℕ
changes measure cs = array (length cs) ++ flat_map (change measure) cs
