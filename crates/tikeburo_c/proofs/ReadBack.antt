-- The list that changes are written as is read as these changes.
use Rattle.std.proofs.Common.{◌≡◌, ℕ, ◌+◌, ◌*◌, ◌/◌, ◌%◌, Bool, false, cond, if◌then◌else◌, List, [], ◌∷◌, ◌++◌, length, take, drop, map, Option, Some, None, Result, Ok, Err, nat_lt, refl, sym, ap, subst, ◌∙◌, append-nil, append_assoc, arith}
use Rattle.std.proofs.Math.Dec.{eqb-suc-zero}
use Rattle.std.proofs.lemmas.Bool.{le-ltb}
use Rattle.std.proofs.lemmas.Int.{to_z-of_z}
use Rattle.std.proofs.lemmas.List.{drop_at, length-append, map-append, take_at}
use Rattle.std.specs.Int.{w64}
use Rattle.std.specs.List.{flat_map}
use Rattle.std.specs.Option.{option_map}
use Rattle.std.specs.Prelude.{ℤ, IsUtf8}
use Rattle.cbor.specs.Decoding.{◌>>=◌}
use Rattle.core.proofs.str.Lossy.{is_utf8-from_IsUtf8}
use Rattle.termwiz_cell.specs.AttributeChangeValue as attribute
use Rattle.termwiz_cell.specs.AttributeChangeValue.{AttributeChangeValue}
use Rattle.termwiz_cell.specs.Attributes.{Attributes}
use Rattle.termwiz_cell.specs.ChangeValue as change
use Rattle.termwiz_cell.specs.ChangeValue.{ChangeValue}
use Rattle.termwiz_cell.specs.Shapes.{line_number, shape_number}
use Rattle.termwiz_cell.specs.Style.{blink_number, intensity_number, semantic_number, underline_number, vertical_number}
use Rattle.termwiz_cell.specs.declared.cell.style.Blink.{Blink}
use Rattle.termwiz_cell.specs.declared.cell.style.Blink.TheVariants as blink
use Rattle.termwiz_cell.specs.declared.cell.style.Intensity.{Intensity}
use Rattle.termwiz_cell.specs.declared.cell.style.Intensity.TheVariants as intensity
use Rattle.termwiz_cell.specs.declared.cell.style.SemanticType.{SemanticType}
use Rattle.termwiz_cell.specs.declared.cell.style.SemanticType.TheVariants as semantic
use Rattle.termwiz_cell.specs.declared.cell.style.Underline.{Underline}
use Rattle.termwiz_cell.specs.declared.cell.style.Underline.TheVariants as underline
use Rattle.termwiz_cell.specs.declared.cell.style.VerticalAlign.{VerticalAlign}
use Rattle.termwiz_cell.specs.declared.cell.style.VerticalAlign.TheVariants as vertical
use Rattle.termwiz_cell.specs.declared.change.CursorShape.{CursorShape}
use Rattle.termwiz_cell.specs.declared.change.CursorShape.TheVariants as shape
use Rattle.termwiz_cell.specs.declared.change.CursorVisibility.{CursorVisibility}
use Rattle.termwiz_cell.specs.declared.change.CursorVisibility.TheVariants as visibility
use Rattle.termwiz_cell.specs.declared.change.LineAttribute.{LineAttribute}
use Rattle.termwiz_cell.specs.declared.change.LineAttribute.TheVariants as line
use Rattle.termwiz_cell.specs.declared.change.Position.{Position}
use Rattle.termwiz_cell.specs.declared.change.Position.TheVariants as position
use Rattle.termwiz_cell.specs.declared.color.ColorAttribute.{ColorAttribute}
use Rattle.termwiz_cell.specs.declared.color.ColorAttribute.TheVariants as color
use Rattle.tikeburo_c.specs.Cells.{uri_of}
use Rattle.tikeburo_c.specs.Fields.{attribute_fields, attributes_in, color_fields, color_in, styles_in}
use Rattle.tikeburo_c.specs.Listing.{IsListOf, IsListable, IsPlace, bare, bare_pen, counted_from, pen_struct, place, struct_of, text_of}
use Rattle.tikeburo_c.specs.Lists.{change_in, change_kind_in, cursor_move, first_change_in, in_range, link_to, listed_in, pen_in, position_in, readable_text, text_len, with_link}
use Rattle.tikeburo_c.specs.Numbers.{align_in, blink_in, cursor_shape_in, intensity_in, line_in, semantic_in, underline_in}
use Rattle.tikeburo_c.specs.declared.failure.Failure.{Failure}
use Rattle.tikeburo_c.specs.declared.failure.Failure.TheVariants.{Range, Unreadable}
use Rattle.tikeburo_c.specs.declared.lists.ChangeFields.{ChangeFields}
use Rattle.tikeburo_c.specs.declared.lists.Kind.{Kind}
use Rattle.tikeburo_c.specs.declared.lists.Kind.TheVariants as kind

-- ---- numbers and colours are read back

intensity_back : (i : Intensity) → intensity_in (intensity_number i) ≡ Some i
intensity_back intensity.Normal = refl
intensity_back intensity.Bold = refl
intensity_back intensity.Half = refl

underline_back : (u : Underline) → underline_in (underline_number u) ≡ Some u
underline_back underline.None = refl
underline_back underline.Single = refl
underline_back underline.Double = refl
underline_back underline.Curly = refl
underline_back underline.Dotted = refl
underline_back underline.Dashed = refl

blink_back : (b : Blink) → blink_in (blink_number b) ≡ Some b
blink_back blink.None = refl
blink_back blink.Slow = refl
blink_back blink.Rapid = refl

semantic_back : (s : SemanticType) → semantic_in (semantic_number s) ≡ Some s
semantic_back semantic.Output = refl
semantic_back semantic.Input = refl
semantic_back semantic.Prompt = refl

align_back : (v : VerticalAlign) → align_in (vertical_number v) ≡ Some v
align_back vertical.BaseLine = refl
align_back vertical.SuperScript = refl
align_back vertical.SubScript = refl

shape_back : (s : CursorShape) → cursor_shape_in (shape_number s) ≡ Some s
shape_back shape.Default = refl
shape_back shape.BlinkingBlock = refl
shape_back shape.SteadyBlock = refl
shape_back shape.BlinkingUnderline = refl
shape_back shape.SteadyUnderline = refl
shape_back shape.BlinkingBar = refl
shape_back shape.SteadyBar = refl

line_back : (a : LineAttribute) → line_in (line_number a) ≡ Some a
line_back line.DoubleHeightTopHalfLine = refl
line_back line.DoubleHeightBottomHalfLine = refl
line_back line.DoubleWidthLine = refl
line_back line.SingleWidthLine = refl

color_back : (c : ColorAttribute) → color_in (color_fields c) ≡ Some c
color_back color.Default = refl
color_back (color.PaletteIndex i) = refl
color_back (color.TrueColorWithDefaultFallback c) = refl
color_back (color.TrueColorWithPaletteFallback c i) = refl

position_back : (p : Position) → IsPlace p → position_in (counted_from p) (place p) ≡ Some p
position_back (position.Absolute n) fits = refl
position_back (position.Relative d) fits = ap (λ (z : ℤ). Some (position.Relative z)) (to_z-of_z w64 d fits)
position_back (position.EndRelative n) fits = refl

styles_back : (a : Attributes) → styles_in (attribute_fields a) ≡ Some (record a { foreground = color.Default; background = color.Default; underline_color = color.Default; hyperlink = None })
styles_back a = rw (intensity_back a.intensity, underline_back a.underline, blink_back a.blink, semantic_back a.semantic_type, align_back a.vertical_align) refl

attributes_back : (a : Attributes) → attributes_in (attribute_fields a) ≡ Some (record a { hyperlink = None })
attributes_back a = rw (styles_back a, color_back a.foreground, color_back a.background, color_back a.underline_color) refl

text_back : (t : List ℕ) → IsUtf8 t → readable_text t ≡ Ok t
text_back t u = ap (λ (b : Bool). cond b (Ok t) (Err Unreadable)) (is_utf8-from_IsUtf8 t u)

-- ---- a change is read back

abbrev Read : Type 0
Read = Result (ChangeValue × List ℕ) Failure

abbrev Listed : Type 0
Listed = Result (List ChangeValue) Failure

abbrev with_rest : Result ChangeValue Failure → List ℕ → Read
with_rest r rest = r >>= λ c. Ok (c, rest)

abbrev after_bytes : Kind → ChangeFields → List ℕ → ℕ → Read
after_bytes k f texts n = if nat_lt (length texts) n then Err Range else with_rest (change_in k f (take n texts)) (drop n texts)

abbrev by_kind : Option Kind → ChangeFields → List ℕ → Read
by_kind o f texts = in_range o >>= λ k. after_bytes k f texts (text_len k f)

abbrev unless : Bool → Read → Read
unless b r = if b then Err Range else r

reaches : (text rest : List ℕ) → nat_lt (length (text ++ rest)) (length text) ≡ false
reaches text rest = le-ltb (length (text ++ rest)) (length text) (omega (arith, length-append text rest))

whole : (k : Kind) (f : ChangeFields) (text rest : List ℕ) (c : ChangeValue) → change_in k f text ≡ Ok c → after_bytes k f (text ++ rest) (length text) ≡ Ok (c, rest)
whole k f text rest c means =
    ap (λ (b : Bool). unless b (with_rest (change_in k f (take (length text) (text ++ rest))) (drop (length text) (text ++ rest)))) (reaches text rest)
    ∙ ap (λ (t : List ℕ). with_rest (change_in k f t) (drop (length text) (text ++ rest))) (take_at text rest (length text) refl)
    ∙ ap (λ (r : Result ChangeValue Failure). with_rest r (drop (length text) (text ++ rest))) means
    ∙ ap (λ (bytes : List ℕ). with_rest (Ok c) bytes) (drop_at text rest (length text) refl)

first_of : (f : ChangeFields) (k : Kind) (text rest : List ℕ) (c : ChangeValue) → change_kind_in f.kind ≡ Some k → text_len k f ≡ length text → change_in k f text ≡ Ok c → first_change_in f (text ++ rest) ≡ Ok (c, rest)
first_of f k text rest c is own means =
    ap (λ (o : Option Kind). by_kind o f (text ++ rest)) is
    ∙ ap (λ (n : ℕ). after_bytes k f (text ++ rest) n) own
    ∙ whole k f text rest c means

abbrev made_of : (List ℕ → ChangeValue) → Result (List ℕ) Failure → Result ChangeValue Failure
made_of make r = r >>= λ t. Ok (make t)

of_text : (make : List ℕ → ChangeValue) (t : List ℕ) → IsUtf8 t → made_of make (readable_text t) ≡ Ok (make t)
of_text make t u = ap (made_of make) (text_back t u)

abbrev made_in : {A : Type 0} → (A → ChangeValue) → Option A → Result ChangeValue Failure
made_in make o = in_range (option_map make o)

of_color : (make : ColorAttribute → ChangeValue) (c : ColorAttribute) → made_in make (color_in (color_fields c)) ≡ Ok (make c)
of_color make c = ap (made_in make) (color_back c)

abbrev as_pen : Result Attributes Failure → Result ChangeValue Failure
as_pen r = r >>= λ a. Ok (change.AllAttributes a)

abbrev linked_pen : Option Attributes → Result (List ℕ) Failure → Result Attributes Failure
linked_pen o text = in_range o >>= λ a. (text >>= λ uri. Ok (link_to uri)) >>= λ link. Ok (record a { hyperlink = Some link })

pen_with : (a : Attributes) (uri : List ℕ) → IsUtf8 uri → pen_in (pen_struct a) uri ≡ Ok (with_link uri (record a { hyperlink = None }))
pen_with a [] u = ap in_range (attributes_back a)
pen_with a (b ∷ bs) u =
    rw (eqb-suc-zero (length bs))
    (ap (λ (o : Option Attributes). linked_pen o (readable_text (b ∷ bs))) (attributes_back a)
    ∙ ap (linked_pen (Some (record a { hyperlink = None }))) (text_back (b ∷ bs) u))

pen_back : (a : Attributes) → IsUtf8 (uri_of a.hyperlink) → pen_in (pen_struct a) (uri_of a.hyperlink) ≡ Ok (bare_pen a)
pen_back a u = pen_with a (uri_of a.hyperlink) u

rem_back : (x y : Position) → (counted_from x + 4 * counted_from y) % 4 ≡ counted_from x
rem_back (position.Absolute m) (position.Absolute n) = refl
rem_back (position.Absolute m) (position.Relative n) = refl
rem_back (position.Absolute m) (position.EndRelative n) = refl
rem_back (position.Relative m) (position.Absolute n) = refl
rem_back (position.Relative m) (position.Relative n) = refl
rem_back (position.Relative m) (position.EndRelative n) = refl
rem_back (position.EndRelative m) (position.Absolute n) = refl
rem_back (position.EndRelative m) (position.Relative n) = refl
rem_back (position.EndRelative m) (position.EndRelative n) = refl

div_back : (x y : Position) → (counted_from x + 4 * counted_from y) / 4 ≡ counted_from y
div_back (position.Absolute m) (position.Absolute n) = refl
div_back (position.Absolute m) (position.Relative n) = refl
div_back (position.Absolute m) (position.EndRelative n) = refl
div_back (position.Relative m) (position.Absolute n) = refl
div_back (position.Relative m) (position.Relative n) = refl
div_back (position.Relative m) (position.EndRelative n) = refl
div_back (position.EndRelative m) (position.Absolute n) = refl
div_back (position.EndRelative m) (position.Relative n) = refl
div_back (position.EndRelative m) (position.EndRelative n) = refl

abbrev moved_by : ℕ → ℕ → Position → Position → Result ChangeValue Failure
moved_by a b x y = in_range (cursor_move (position_in a (place x)) (position_in b (place y)))

move_back : (x y : Position) → IsPlace x → IsPlace y → moved_by ((counted_from x + 4 * counted_from y) % 4) ((counted_from x + 4 * counted_from y) / 4) x y ≡ Ok (change.CursorPosition x y)
move_back x y fx fy =
    ap (λ (a : ℕ). moved_by a ((counted_from x + 4 * counted_from y) / 4) x y) (rem_back x y)
    ∙ ap (λ (b : ℕ). moved_by (counted_from x) b x y) (div_back x y)
    ∙ ap (λ (o : Option Position). in_range (cursor_move o (position_in (counted_from y) (place y)))) (position_back x fx)
    ∙ ap (λ (o : Option Position). in_range (cursor_move (Some x) o)) (position_back y fy)

abbrev attribute_made : {A : Type 0} → (A → AttributeChangeValue) → Option A → Result ChangeValue Failure
attribute_made make o = in_range (option_map change.Attribute (option_map make o))

abbrev link_made : Result (List ℕ) Failure → Result ChangeValue Failure
link_made text = (text >>= λ uri. Ok (link_to uri)) >>= λ link. Ok (change.Attribute (attribute.Hyperlink (Some link)))

attribute_first : (c : AttributeChangeValue) → IsListable (change.Attribute c) → (rest : List ℕ) → first_change_in (struct_of (change.Attribute c)) (text_of (change.Attribute c) ++ rest) ≡ Ok (bare (change.Attribute c), rest)
attribute_first (attribute.Intensity v) s rest = first_of (struct_of (change.Attribute (attribute.Intensity v))) kind.Intensity [] rest (change.Attribute (attribute.Intensity v)) refl refl (ap (attribute_made attribute.Intensity) (intensity_back v))
attribute_first (attribute.Underline v) s rest = first_of (struct_of (change.Attribute (attribute.Underline v))) kind.Underline [] rest (change.Attribute (attribute.Underline v)) refl refl (ap (attribute_made attribute.Underline) (underline_back v))
attribute_first (attribute.Blink v) s rest = first_of (struct_of (change.Attribute (attribute.Blink v))) kind.Blink [] rest (change.Attribute (attribute.Blink v)) refl refl (ap (attribute_made attribute.Blink) (blink_back v))
attribute_first (attribute.Italic v) s rest = first_of (struct_of (change.Attribute (attribute.Italic v))) kind.Italic [] rest (change.Attribute (attribute.Italic v)) refl refl refl
attribute_first (attribute.Reverse v) s rest = first_of (struct_of (change.Attribute (attribute.Reverse v))) kind.Reverse [] rest (change.Attribute (attribute.Reverse v)) refl refl refl
attribute_first (attribute.StrikeThrough v) s rest = first_of (struct_of (change.Attribute (attribute.StrikeThrough v))) kind.Strikethrough [] rest (change.Attribute (attribute.StrikeThrough v)) refl refl refl
attribute_first (attribute.Invisible v) s rest = first_of (struct_of (change.Attribute (attribute.Invisible v))) kind.Invisible [] rest (change.Attribute (attribute.Invisible v)) refl refl refl
attribute_first (attribute.Foreground c) s rest = first_of (struct_of (change.Attribute (attribute.Foreground c))) kind.Foreground [] rest (change.Attribute (attribute.Foreground c)) refl refl (ap (attribute_made attribute.Foreground) (color_back c))
attribute_first (attribute.Background c) s rest = first_of (struct_of (change.Attribute (attribute.Background c))) kind.Background [] rest (change.Attribute (attribute.Background c)) refl refl (ap (attribute_made attribute.Background) (color_back c))
attribute_first (attribute.Hyperlink (Some link)) s rest = first_of (struct_of (change.Attribute (attribute.Hyperlink (Some link)))) kind.Link link.uri rest (change.Attribute (attribute.Hyperlink (Some (link_to link.uri)))) refl refl (ap link_made (text_back link.uri s.utf8))
attribute_first (attribute.Hyperlink None) s rest = first_of (struct_of (change.Attribute (attribute.Hyperlink None))) kind.NoLink [] rest (change.Attribute (attribute.Hyperlink None)) refl refl refl

visible_back : (v : CursorVisibility) → change_in kind.CursorVisibility (struct_of (change.CursorVisibility v)) [] ≡ Ok (change.CursorVisibility v)
visible_back visibility.Hidden = refl
visible_back visibility.Visible = refl

pub first_back : (c : ChangeValue) → IsListable c → (rest : List ℕ) → first_change_in (struct_of c) (text_of c ++ rest) ≡ Ok (bare c, rest)
first_back (change.Text t) s rest = first_of (struct_of (change.Text t)) kind.Text t rest (change.Text t) refl refl (of_text change.Text t s.utf8)
first_back (change.Title t) s rest = first_of (struct_of (change.Title t)) kind.Title t rest (change.Title t) refl refl (of_text change.Title t s.utf8)
first_back (change.Attribute c) s rest = attribute_first c s rest
first_back (change.AllAttributes a) s rest = first_of (struct_of (change.AllAttributes a)) kind.Pen (uri_of a.hyperlink) rest (change.AllAttributes (bare_pen a)) refl refl (ap as_pen (pen_back a s.utf8))
first_back (change.CursorPosition x y) s rest = first_of (struct_of (change.CursorPosition x y)) kind.Move [] rest (change.CursorPosition x y) refl refl (move_back x y s.places.0 s.places.1)
first_back (change.ClearScreen c) s rest = first_of (struct_of (change.ClearScreen c)) kind.ClearScreen [] rest (change.ClearScreen c) refl refl (of_color change.ClearScreen c)
first_back (change.ClearToEndOfLine c) s rest = first_of (struct_of (change.ClearToEndOfLine c)) kind.ClearToEndOfLine [] rest (change.ClearToEndOfLine c) refl refl (of_color change.ClearToEndOfLine c)
first_back (change.ClearToEndOfScreen c) s rest = first_of (struct_of (change.ClearToEndOfScreen c)) kind.ClearToEndOfScreen [] rest (change.ClearToEndOfScreen c) refl refl (of_color change.ClearToEndOfScreen c)
first_back (change.ScrollRegionUp a b n) s rest = first_of (struct_of (change.ScrollRegionUp a b n)) kind.ScrollUp [] rest (change.ScrollRegionUp a b n) refl refl refl
first_back (change.ScrollRegionDown a b n) s rest = first_of (struct_of (change.ScrollRegionDown a b n)) kind.ScrollDown [] rest (change.ScrollRegionDown a b n) refl refl refl
first_back (change.CursorVisibility v) s rest = first_of (struct_of (change.CursorVisibility v)) kind.CursorVisibility [] rest (change.CursorVisibility v) refl refl (visible_back v)
first_back (change.CursorShape h) s rest = first_of (struct_of (change.CursorShape h)) kind.CursorShape [] rest (change.CursorShape h) refl refl (ap (made_in change.CursorShape) (shape_back h))
first_back (change.CursorColor c) s rest = first_of (struct_of (change.CursorColor c)) kind.CursorColor [] rest (change.CursorColor c) refl refl (of_color change.CursorColor c)
first_back (change.LineAttribute a) s rest = first_of (struct_of (change.LineAttribute a)) kind.LineAttribute [] rest (change.LineAttribute a) refl refl (ap (made_in change.LineAttribute) (line_back a))

-- ---- lists of changes are read back

abbrev pub AreListable : List ChangeValue → Type 0
AreListable [] = Unit {0}
AreListable (c ∷ cs) = IsListable c × AreListable cs

pub one_more : (cs : List ChangeValue) (c : ChangeValue) → AreListable cs → IsListable c → AreListable (cs ++ c ∷ [])
one_more [] c are is = (is, tt)
one_more (d ∷ ds) c are is = (are.0, one_more ds c are.1 is)

abbrev then_listed : Read → List ChangeFields → Listed
then_listed r fs = r >>= λ x. listed_in fs x.1 >>= λ cs. Ok (x.0 ∷ cs)

abbrev and_listed : ChangeValue → Listed → Listed
and_listed c r = r >>= λ cs. Ok (c ∷ cs)

listed_cons : (f : ChangeFields) (fs : List ChangeFields) (texts : List ℕ) → listed_in (f ∷ fs) texts ≡ then_listed (first_change_in f texts) fs
unfolding listed_in
listed_cons f fs texts = refl

listed_nil : listed_in [] [] ≡ Ok []
unfolding listed_in
listed_nil = refl

pub listed_back : (cs : List ChangeValue) → AreListable cs → listed_in (map struct_of cs) (flat_map text_of cs) ≡ Ok (map bare cs)
listed_back [] are = listed_nil
listed_back (c ∷ cs) are =
    listed_cons (struct_of c) (map struct_of cs) (text_of c ++ flat_map text_of cs)
    ∙ ap (λ (r : Read). then_listed r (map struct_of cs)) (first_back c are.0 (flat_map text_of cs))
    ∙ ap (and_listed (bare c)) (listed_back cs are.1)

-- ---- a loop over changes

-- these changes are written so far
pub record IsWritten (cs : List ChangeValue) (fs : List ChangeFields) (bytes : List ℕ) : Type 0 where
  pub list : fs ≡ map struct_of cs
  pub texts : bytes ≡ flat_map text_of cs
  pub listable : AreListable cs

pub none_written : IsWritten [] [] []
none_written = record { list = refl; texts = refl; listable = tt }

texts_more : (cs : List ChangeValue) (c : ChangeValue) → flat_map text_of cs ++ text_of c ≡ flat_map text_of (cs ++ c ∷ [])
texts_more [] c = sym (append-nil (text_of c))
texts_more (d ∷ ds) c = append_assoc (text_of d) (flat_map text_of ds) (text_of c) ∙ ap (λ (bytes : List ℕ). text_of d ++ bytes) (texts_more ds c)

pub one_written : (cs : List ChangeValue) (c : ChangeValue) (list : List ChangeFields) (texts : List ℕ) → IsWritten cs list texts → IsListable c → IsWritten (cs ++ c ∷ []) (list ++ struct_of c ∷ []) (texts ++ text_of c)
one_written cs c list texts w is = record {
  list = ap (λ (fs : List ChangeFields). fs ++ struct_of c ∷ []) w.list ∙ sym (map-append struct_of cs (c ∷ []));
  texts = ap (λ (bytes : List ℕ). bytes ++ text_of c) w.texts ∙ texts_more cs c;
  listable = one_more cs c w.listable is;
}

pub same_written : (cs ds : List ChangeValue) (fs gs : List ChangeFields) (bytes others : List ℕ) → cs ≡ ds → fs ≡ gs → bytes ≡ others → IsWritten ds gs others → IsWritten cs fs bytes
same_written cs ds fs gs bytes others same list texts w = record {
  list = list ∙ w.list ∙ ap (map struct_of) (sym same);
  texts = texts ∙ w.texts ∙ ap (flat_map text_of) (sym same);
  listable = subst AreListable (sym same) w.listable;
}

pub is_list : (cs : List ChangeValue) (list : List ChangeFields) (texts : List ℕ) → IsWritten cs list texts → IsListOf cs list texts
is_list cs list texts w = record {
  list = w.list;
  texts = w.texts;
  read = ap (λ (fs : List ChangeFields). listed_in fs texts) w.list ∙ ap (listed_in (map struct_of cs)) w.texts ∙ listed_back cs w.listable;
}
