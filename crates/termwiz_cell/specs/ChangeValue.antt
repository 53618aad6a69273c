-- What a change says, with its texts as bytes and its attributes as values.
use Rattle.std.specs.Prelude.{◌≡◌, ℕ, Bool, true, false, List, string_bytes, refl, is_some}
use Rattle.std.specs.Bool.{Decides}
use Rattle.termwiz_cell.specs.declared.color.ColorAttribute.{ColorAttribute}
use Rattle.termwiz_cell.specs.Attributes.{Attributes, needs_box}
use Rattle.termwiz_cell.specs.AttributeChangeValue.{AttributeChangeValue, attribute_change_value, is_link}
use Rattle.termwiz_cell.specs.declared.change.Position.{Position}
use Rattle.termwiz_cell.specs.declared.change.CursorVisibility as cursor
use Rattle.termwiz_cell.specs.declared.change.CursorVisibility.TheVariants.{Hidden, Visible}
use Rattle.termwiz_cell.specs.declared.change.CursorShape as shapes
use Rattle.termwiz_cell.specs.declared.change.LineAttribute as lines
use Rattle.termwiz_cell.specs.declared.change.Change.{Change}
use Rattle.termwiz_cell.specs.declared.change.Change.TheVariants as code

pub data ChangeValue : Type 0 where
  Attribute : (change : AttributeChangeValue) → ChangeValue
  AllAttributes : (attrs : Attributes) → ChangeValue
  Text : (text : List ℕ) → ChangeValue
  ClearScreen : (color : ColorAttribute) → ChangeValue
  ClearToEndOfLine : (color : ColorAttribute) → ChangeValue
  ClearToEndOfScreen : (color : ColorAttribute) → ChangeValue
  CursorPosition : (x y : Position) → ChangeValue
  CursorColor : (color : ColorAttribute) → ChangeValue
  CursorShape : (shape : shapes.CursorShape) → ChangeValue
  CursorVisibility : (visibility : cursor.CursorVisibility) → ChangeValue
  ScrollRegionUp : (first size count : ℕ) → ChangeValue
  ScrollRegionDown : (first size count : ℕ) → ChangeValue
  Title : (title : List ℕ) → ChangeValue
  LineAttribute : (attribute : lines.LineAttribute) → ChangeValue

abbrev pub change_value : Change → ChangeValue
change_value (code.Attribute change) = Attribute (attribute_change_value change)
change_value (code.AllAttributes attrs) = AllAttributes attrs
change_value (code.Text text) = Text (string_bytes text)
change_value (code.ClearScreen color) = ClearScreen color
change_value (code.ClearToEndOfLine color) = ClearToEndOfLine color
change_value (code.ClearToEndOfScreen color) = ClearToEndOfScreen color
change_value (code.CursorPosition x y) = CursorPosition x y
change_value (code.CursorColor color) = CursorColor color
change_value (code.CursorShape shape) = CursorShape shape
change_value (code.CursorVisibility visibility) = CursorVisibility visibility
change_value (code.ScrollRegionUp first size count) = ScrollRegionUp first size count
change_value (code.ScrollRegionDown first size count) = ScrollRegionDown first size count
change_value (code.Title title) = Title (string_bytes title)
change_value (code.LineAttribute attribute) = LineAttribute attribute

-- the change prints a text
abbrev pub is_text : ChangeValue → Bool
is_text (Text text) = true
is_text _ = false

-- a copy of the change may find no memory: at a text, a title, a link, and attributes that need a
-- box
abbrev pub copy_takes_memory : ChangeValue → Bool
copy_takes_memory (Attribute change) = is_link change
copy_takes_memory (AllAttributes attrs) = needs_box attrs
copy_takes_memory (Text text) = true
copy_takes_memory (Title title) = true
copy_takes_memory _ = false

-- `==` of visibilities
abbrev pub visibility_eq : cursor.CursorVisibility → cursor.CursorVisibility → Bool
visibility_eq Hidden Hidden = true
visibility_eq Visible Visible = true
visibility_eq _ _ = false

pub visibility_eq-Decides : (a b : cursor.CursorVisibility) → Decides (visibility_eq a b) (a ≡ b)
visibility_eq-Decides Hidden Hidden = ((λ _. refl), (λ _. refl))
visibility_eq-Decides Visible Visible = ((λ _. refl), (λ _. refl))
visibility_eq-Decides _ _ = ((λ e. cc), (λ e. cc))

-- it sets a link
abbrev pub sets_link : ChangeValue → Bool
sets_link (Attribute change) = is_link change
sets_link (AllAttributes attrs) = is_some attrs.hyperlink
sets_link _ = false
