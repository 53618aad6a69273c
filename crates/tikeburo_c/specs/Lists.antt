-- Lists of changes, as the structs that C has of them.
use Rattle.cbor.specs.Decoding.{◌>>=◌}
use Rattle.core.specs.Str.{is_utf8}
use Rattle.std.specs.Int.{cast_signed, w64}
use Rattle.std.specs.Option.{option_map}
use Rattle.std.specs.Prelude.{ℕ, ◌-◌, Bool, true, false, List, [], ◌∷◌, Option, Some, None, Result, Ok, Err, ◌==◌, ◌&&◌, ◌/◌, ◌%◌, not, nat_lt, length, take, drop, codes, if◌then◌else◌}
use Rattle.termwiz_cell.specs.AttributeChangeValue as attribute
use Rattle.termwiz_cell.specs.Attributes.{Attributes}
use Rattle.termwiz_cell.specs.AttributeChangeValue.{AttributeChangeValue}
use Rattle.termwiz_cell.specs.ChangeValue as change
use Rattle.termwiz_cell.specs.ChangeValue.{ChangeValue}
use Rattle.termwiz_cell.specs.Link.{Link}
use Rattle.termwiz_cell.specs.declared.change.Position.{Position}
use Rattle.termwiz_cell.specs.declared.change.Position.TheVariants.{Absolute, EndRelative, Relative}
use Rattle.termwiz_share.specs.Source.{SourceValue}
use Rattle.termwiz_wire.specs.Decoding.{visibility_of}
use Rattle.tikeburo_c.specs.Changes.{AddsChanges}
use Rattle.tikeburo_c.specs.Fields.{attributes_in, color_in}
use Rattle.tikeburo_c.specs.Numbers.{blink_in, cursor_shape_in, intensity_in, line_in, numbered, underline_in}
use Rattle.tikeburo_c.specs.Outcomes.{Outcome}
use Rattle.tikeburo_c.specs.Results.{OrNoMemory, Refused}
use Rattle.tikeburo_c.specs.declared.failure.Failure.{Failure}
use Rattle.tikeburo_c.specs.declared.failure.Failure.TheVariants.{Range, Unreadable}
use Rattle.tikeburo_c.specs.declared.fields.AttributeFields.{AttributeFields}
use Rattle.tikeburo_c.specs.declared.lists.ChangeFields.{ChangeFields}
use Rattle.tikeburo_c.specs.declared.lists.Kind.{Kind}
use Rattle.tikeburo_c.specs.declared.lists.Kind.TheVariants as kind
use Rattle.tikeburo_c.specs.declared.widths.ChosenWidths.{ChosenWidths}

abbrev pub kind_of_number : ℕ → Kind
kind_of_number n =
    if n == 0 then kind.Text
    else if n == 1 then kind.Title
    else if n == 2 then kind.Link
    else if n == 3 then kind.NoLink
    else if n == 4 then kind.Pen
    else if n == 5 then kind.Intensity
    else if n == 6 then kind.Underline
    else if n == 7 then kind.Blink
    else if n == 8 then kind.Italic
    else if n == 9 then kind.Reverse
    else if n == 10 then kind.Strikethrough
    else if n == 11 then kind.Invisible
    else if n == 12 then kind.Foreground
    else if n == 13 then kind.Background
    else if n == 14 then kind.Move
    else if n == 15 then kind.ClearScreen
    else if n == 16 then kind.ClearToEndOfLine
    else if n == 17 then kind.ClearToEndOfScreen
    else if n == 18 then kind.ScrollUp
    else if n == 19 then kind.ScrollDown
    else if n == 20 then kind.CursorVisibility
    else if n == 21 then kind.CursorShape
    else if n == 22 then kind.CursorColor
    else kind.LineAttribute

-- the kind of this number, if there is one
abbrev pub change_kind_in : ℕ → Option Kind
change_kind_in = numbered 24 kind_of_number

-- a change of this kind has a text: to print, as the title, or as a link
abbrev pub has_text : Kind → Bool
has_text kind.Text = true
has_text kind.Title = true
has_text kind.Link = true
has_text kind.Pen = true
has_text _ = false

-- how many bytes of the list's texts are the change's own
abbrev pub text_len : Kind → ChangeFields → ℕ
text_len k f = if has_text k then f.first else 0

-- the value, if there is one
abbrev pub in_range : {A : Type 0} → Option A → Result A Failure
in_range (Some x) = Ok x
in_range None = Err Range

-- the text, if the bytes are one
abbrev pub readable_text : List ℕ → Result (List ℕ) Failure
readable_text bytes = if is_utf8 bytes then Ok bytes else Err Unreadable

-- a link to this uri, and one with an id
abbrev pub link_to : List ℕ → Link
link_to uri = record { uri = uri; params = []; implicit = false }

abbrev pub link_with_id : List ℕ → List ℕ → Link
link_with_id uri id = record (link_to uri) { params = (codes "id", id) ∷ [] }

-- the link that a text is, or why it is none: its last n bytes are the id, and the others the uri
abbrev pub link_in : ℕ → List ℕ → Result Link Failure
link_in n text =
    if n == 0 then (readable_text text >>= λ uri. Ok (link_to uri))
    else if nat_lt (length text) n then Err Range
    else of (take (length text - n) text) (drop (length text - n) text)
  where
    of : List ℕ → List ℕ → Result Link Failure
    of uri id = readable_text uri >>= λ u. readable_text id >>= λ i. Ok (link_with_id u i)

-- the attributes with a link to this uri, unless it is empty
abbrev pub with_link : List ℕ → Attributes → Attributes
with_link [] a = a
with_link (b ∷ bs) a = record a { hyperlink = Some (link_to (b ∷ bs)) }

-- a pen with the link that its text is, or why there is none
abbrev pub linked_pen_in : ChangeFields → List ℕ → Result Attributes Failure
linked_pen_in f text = in_range (attributes_in f.attributes) >>= λ a.
    link_in f.second text >>= λ link. Ok (record a { hyperlink = Some link })

-- a pen with the link that its text is, or with none where it has neither text nor id
abbrev pub pen_in : ChangeFields → List ℕ → Result Attributes Failure
pen_in f text =
    if length text == 0 && f.second == 0 then in_range (attributes_in f.attributes)
    else linked_pen_in f text

-- a column or a row: counted from the first one, from the cursor, or from the end
abbrev pub position_in : ℕ → ℕ → Option Position
position_in from n =
    if from == 0 then Some (Absolute n)
    else if from == 1 then Some (Relative (cast_signed w64 n))
    else if from == 2 then Some (EndRelative n)
    else None

-- the move to a column and a row, if there are both
abbrev pub cursor_move : Option Position → Option Position → Option ChangeValue
cursor_move (Some x) (Some y) = Some (change.CursorPosition x y)
cursor_move _ _ = None

-- a change of one attribute, if that is in its range
abbrev pub attribute_in : Kind → AttributeFields → Option AttributeChangeValue
attribute_in kind.NoLink f = Some (attribute.Hyperlink None)
attribute_in kind.Intensity f = option_map attribute.Intensity (intensity_in f.intensity)
attribute_in kind.Underline f = option_map attribute.Underline (underline_in f.underline)
attribute_in kind.Blink f = option_map attribute.Blink (blink_in f.blink)
attribute_in kind.Italic f = Some (attribute.Italic f.italic)
attribute_in kind.Reverse f = Some (attribute.Reverse f.reverse)
attribute_in kind.Strikethrough f = Some (attribute.StrikeThrough f.strikethrough)
attribute_in kind.Invisible f = Some (attribute.Invisible f.invisible)
attribute_in kind.Foreground f = option_map attribute.Foreground (color_in f.foreground)
attribute_in kind.Background f = option_map attribute.Background (color_in f.background)
attribute_in _ f = None

-- a change of a kind, with its text, or why there is none
abbrev pub change_in : Kind → ChangeFields → List ℕ → Result ChangeValue Failure
change_in kind.Text f text = readable_text text >>= λ t. Ok (change.Text t)
change_in kind.Title f text = readable_text text >>= λ t. Ok (change.Title t)
change_in kind.Link f text =
    link_in f.second text >>= λ link. Ok (change.Attribute (attribute.Hyperlink (Some link)))
change_in kind.Pen f text = pen_in f text >>= λ a. Ok (change.AllAttributes a)
change_in kind.Move f text =
    in_range (cursor_move (position_in (f.third % 4) f.first) (position_in (f.third / 4) f.second))
change_in kind.ClearScreen f text =
    in_range (option_map change.ClearScreen (color_in f.attributes.background))
change_in kind.ClearToEndOfLine f text =
    in_range (option_map change.ClearToEndOfLine (color_in f.attributes.background))
change_in kind.ClearToEndOfScreen f text =
    in_range (option_map change.ClearToEndOfScreen (color_in f.attributes.background))
change_in kind.ScrollUp f text = Ok (change.ScrollRegionUp f.first f.second f.third)
change_in kind.ScrollDown f text = Ok (change.ScrollRegionDown f.first f.second f.third)
change_in kind.CursorVisibility f text =
    Ok (change.CursorVisibility (visibility_of (not (f.first == 0))))
change_in kind.CursorShape f text =
    in_range (option_map change.CursorShape (cursor_shape_in f.first))
change_in kind.CursorColor f text =
    in_range (option_map change.CursorColor (color_in f.attributes.foreground))
change_in kind.LineAttribute f text = in_range (option_map change.LineAttribute (line_in f.first))
change_in k f text = in_range (option_map change.Attribute (attribute_in k f.attributes))

-- the first change of a list, and the texts of the others, or why there is none
abbrev pub first_change_in : ChangeFields → List ℕ → Result (ChangeValue × List ℕ) Failure
first_change_in f texts = in_range (change_kind_in f.kind) >>= λ k.
    if nat_lt (length texts) (text_len k f) then Err Range
    else (change_in k f (take (text_len k f) texts) >>= λ c. Ok (c, drop (text_len k f) texts))

-- the changes of a list, whose texts follow one another with nothing after them, or the first
-- fault
unfoldable pub listed_in : List ChangeFields → List ℕ → Result (List ChangeValue) Failure
listed_in [] [] = Ok []
listed_in [] (b ∷ bs) = Err Range
listed_in (f ∷ fs) texts = first_change_in f texts >>= λ x. listed_in fs x.1 >>= λ cs. Ok (x.0 ∷ cs)

-- the listed changes are added, and logged or not, or the list is refused by its first fault,
-- unless memory was refused
abbrev pub AddsListed :
    Bool → List ChangeFields → List ℕ → SourceValue ChosenWidths → Outcome →
    SourceValue ChosenWidths → Type 0
AddsListed is_logged fs texts = of (listed_in fs texts)
  where
    of :
        Result (List ChangeValue) Failure → SourceValue ChosenWidths → Outcome →
        SourceValue ChosenWidths → Type 0
    of (Ok cs) = OrNoMemory (AddsChanges is_logged cs)
    of (Err failure) = OrNoMemory (Refused failure)
