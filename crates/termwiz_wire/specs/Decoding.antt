-- How changes are decoded, from left to right, with the first fault that is met.
use Rattle.std.specs.Prelude.{ℕ, zero, suc, ◌+◌, ◌/◌, ◌%◌, Bool, true, ◌&&◌, ◌||◌, List, [], ◌∷◌, ◌++◌, slice_index, Option, Some, None, Result, Ok, nat_lt, nat_le, ◌==◌, if◌then◌else◌}
use Rattle.std.specs.Cmp.Lexicographic.{slice_cmp}
use Rattle.std.specs.Ordering.{nat_cmp, is_lt}
use Rattle.cbor.specs.Decoding.{◌>>=◌, Stop, ok, allowed, kind_at, null_at, unsigned_at, below_at, signed_at, boolean_at, text_at, array_at, list_at, array_of_at}
use Rattle.cbor.specs.declared.error.FaultKind.TheVariants as faults
use Rattle.cbor.specs.declared.kind.Kind.{Kind}
use Rattle.cbor.specs.declared.kind.Kind.TheVariants as kinds
use Rattle.termwiz_cell.specs.Attributes.{Attributes, default_attributes}
use Rattle.termwiz_cell.specs.AttributeChangeValue.{AttributeChangeValue}
use Rattle.termwiz_cell.specs.AttributeChangeValue as attribute
use Rattle.termwiz_cell.specs.ChangeValue.{ChangeValue}
use Rattle.termwiz_cell.specs.ChangeValue as changed
use Rattle.termwiz_cell.specs.Link.{Link}
use Rattle.termwiz_cell.specs.Rgb.{rgb}
use Rattle.termwiz_cell.specs.Shapes.{shape_at, line_at}
use Rattle.termwiz_cell.specs.Style.{intensity_at, underline_at, blink_at, semantic_at, vertical_at, flag_at}
use Rattle.termwiz_cell.specs.declared.color.ColorAttribute.{ColorAttribute}
use Rattle.termwiz_cell.specs.declared.color.ColorAttribute.TheVariants as colors
use Rattle.termwiz_cell.specs.declared.change.Position.{Position}
use Rattle.termwiz_cell.specs.declared.change.Position.TheVariants.{Relative, Absolute, EndRelative}
use Rattle.termwiz_cell.specs.declared.change.CursorVisibility.{CursorVisibility}
use Rattle.termwiz_cell.specs.declared.change.CursorVisibility.TheVariants.{Hidden, Visible}
use Rattle.termwiz_wire.specs.Encoding.{fields, change_count}
use Rattle.termwiz_wire.specs.Pieces.{runs}
use Rattle.termwiz_wire.specs.Cuts.{refused, pieces_by}

-- one of `limit` kinds
unfoldable pub which_at : ℕ → ℕ → List ℕ → Result (ℕ × List ℕ) Stop
which_at room limit bytes = do
  n ← unsigned_at room bytes
  if nat_lt n.0 limit then Ok n else refused faults.Type room bytes

-- ---- colours

unfoldable pub palette_at : ℕ → List ℕ → Result (ColorAttribute × List ℕ) Stop
palette_at room bytes = do
  index ← below_at room 256 bytes
  ok (colors.PaletteIndex index.0) index.1

unfoldable pub rgb_item_at : ℕ → List ℕ → Result (ColorAttribute × List ℕ) Stop
rgb_item_at room bytes = do
  r ← below_at room 256 bytes
  g ← below_at room 256 r.1
  b ← below_at room 256 g.1
  ok (colors.TrueColorWithDefaultFallback (rgb r.0 g.0 b.0)) b.1

unfoldable pub rgb_palette_at : ℕ → List ℕ → Result (ColorAttribute × List ℕ) Stop
rgb_palette_at room bytes = do
  r ← below_at room 256 bytes
  g ← below_at room 256 r.1
  b ← below_at room 256 g.1
  index ← below_at room 256 b.1
  ok (colors.TrueColorWithPaletteFallback (rgb r.0 g.0 b.0) index.0) index.1

abbrev pub color_by : ℕ → Kind → List ℕ → Result (ColorAttribute × List ℕ) Stop
color_by room kinds.Null bytes = null_at room bytes >>= λ rest. ok colors.Default rest
color_by room kinds.Unsigned bytes = palette_at room bytes
color_by room kinds.Array bytes =
    array_at room bytes >>= λ n. if n.0 == 3 then rgb_item_at room n.1
    else if n.0 == 4 then rgb_palette_at room n.1
    else refused faults.Type room bytes
color_by room _ bytes = refused faults.Type room bytes

unfoldable pub color_item_at : ℕ → List ℕ → Result (ColorAttribute × List ℕ) Stop
color_item_at room bytes = do
  kind ← kind_at room bytes
  color_by room kind bytes

-- ---- small attributes

-- the values in the bit fields of a number
abbrev pub split : List ℕ → ℕ → List ℕ
split [] n = []
split (k ∷ ks) n = n % k ∷ split ks (n / k)

-- whether each is the number of an attribute
abbrev pub are_small : List ℕ → Bool
are_small vs =
    nat_lt (slice_index vs 0) 3 &&
    (nat_lt (slice_index vs 1) 6 &&
    (nat_lt (slice_index vs 2) 3 &&
    (nat_lt (slice_index vs 9) 3 && nat_lt (slice_index vs 10) 3)))

-- default attributes with these small ones
abbrev pub styled_by : List ℕ → Attributes
styled_by vs = record default_attributes {
  intensity = intensity_at (slice_index vs 0);
  underline = underline_at (slice_index vs 1);
  blink = blink_at (slice_index vs 2);
  italic = flag_at (slice_index vs 3);
  reverse = flag_at (slice_index vs 4);
  strikethrough = flag_at (slice_index vs 5);
  invisible = flag_at (slice_index vs 6);
  wrapped = flag_at (slice_index vs 7);
  overline = flag_at (slice_index vs 8);
  semantic_type = semantic_at (slice_index vs 9);
  vertical_align = vertical_at (slice_index vs 10);
}

abbrev pub styled : ℕ → Attributes
styled n = styled_by (split fields n)

-- how many values the bit fields have room for
abbrev pub style_limit : ℕ
style_limit = 131072

unfoldable pub style_item_at : ℕ → List ℕ → Result (ℕ × List ℕ) Stop
style_item_at room bytes = do
  n ← below_at room style_limit bytes
  if are_small (split fields n.0) then Ok n else refused faults.Range room bytes

-- ---- links

-- whether a key is above the last one
abbrev pub ascends : List (List ℕ × List ℕ) → List ℕ → Bool
ascends [] key = true
ascends (p ∷ []) key = is_lt (slice_cmp nat_cmp p.0 key)
ascends (p ∷ q ∷ ps) key = ascends (q ∷ ps) key

-- a key that follows these
unfoldable pub key_at : ℕ → List (List ℕ × List ℕ) → List ℕ → Result (List ℕ × List ℕ) Stop
key_at room made bytes = do
  key ← text_at room bytes
  if ascends made key.0 then Ok key else refused faults.Range room bytes

-- a param that follows these
unfoldable pub param_item_at :
    ℕ → List (List ℕ × List ℕ) → List ℕ → Result ((List ℕ × List ℕ) × List ℕ) Stop
param_item_at room made bytes = do
  start ← array_of_at room 2 bytes
  key ← key_at room made start
  value ← text_at room key.1
  ok (key.0, value.0) value.1

-- a number of params after these
unfoldable pub params_at :
    ℕ → List (List ℕ × List ℕ) → ℕ → List ℕ → Result (List (List ℕ × List ℕ) × List ℕ) Stop
params_at room made zero bytes = Ok (made, bytes)
params_at room made (suc n) bytes = do
  first ← param_item_at room made bytes
  params_at room (made ++ first.0 ∷ []) n first.1

unfoldable pub link_at : ℕ → List ℕ → Result (Link × List ℕ) Stop
link_at room bytes = do
  start ← array_of_at room 3 bytes
  uri ← text_at room start
  implicit ← boolean_at room uri.1
  count ← list_at room implicit.1
  params ← params_at room [] count.0 count.1
  ok (record { uri = uri.0; params = params.0; implicit = implicit.0 }) params.1

abbrev pub optional_link_by : ℕ → Kind → List ℕ → Result (Option Link × List ℕ) Stop
optional_link_by room kinds.Null bytes = null_at room bytes >>= λ rest. ok None rest
optional_link_by room kinds.Array bytes = link_at room bytes >>= λ l. ok (Some l.0) l.1
optional_link_by room _ bytes = refused faults.Type room bytes

unfoldable pub optional_link_at : ℕ → List ℕ → Result (Option Link × List ℕ) Stop
optional_link_at room bytes = do
  kind ← kind_at room bytes
  optional_link_by room kind bytes

-- ---- attributes

unfoldable pub attributes_at : ℕ → List ℕ → Result (Attributes × List ℕ) Stop
attributes_at room bytes = do
  start ← array_of_at room 5 bytes
  n ← style_item_at room start
  f ← color_item_at room n.1
  b ← color_item_at room f.1
  u ← color_item_at room b.1
  l ← optional_link_at room u.1
  ok
      (record (styled n.0) {
        foreground = f.0;
        background = b.0;
        underline_color = u.0;
        hyperlink = l.0;
      })
      l.1

abbrev pub attribute_change_by : ℕ → ℕ → List ℕ → Result (AttributeChangeValue × List ℕ) Stop
attribute_change_by room kind rest =
    if kind == 0
    then (below_at room 3 rest >>= λ v. ok (attribute.Intensity (intensity_at v.0)) v.1)
    else if kind == 1
    then (below_at room 6 rest >>= λ v. ok (attribute.Underline (underline_at v.0)) v.1)
    else if kind == 2 then (boolean_at room rest >>= λ v. ok (attribute.Italic v.0) v.1)
    else if kind == 3 then (below_at room 3 rest >>= λ v. ok (attribute.Blink (blink_at v.0)) v.1)
    else if kind == 4 then (boolean_at room rest >>= λ v. ok (attribute.Reverse v.0) v.1)
    else if kind == 5 then (boolean_at room rest >>= λ v. ok (attribute.StrikeThrough v.0) v.1)
    else if kind == 6 then (boolean_at room rest >>= λ v. ok (attribute.Invisible v.0) v.1)
    else if kind == 7 then (color_item_at room rest >>= λ v. ok (attribute.Foreground v.0) v.1)
    else if kind == 8 then (color_item_at room rest >>= λ v. ok (attribute.Background v.0) v.1)
    else if kind == 9 then (optional_link_at room rest >>= λ v. ok (attribute.Hyperlink v.0) v.1)
    else refused faults.Type room rest

unfoldable pub attribute_change_at : ℕ → List ℕ → Result (AttributeChangeValue × List ℕ) Stop
attribute_change_at room bytes = do
  start ← array_of_at room 2 bytes
  kind ← which_at room 10 start
  attribute_change_by room kind.0 kind.1

-- ---- changes

abbrev pub position_by : ℕ → ℕ → List ℕ → Result (Position × List ℕ) Stop
position_by room kind rest =
    if kind == 0 then (signed_at room rest >>= λ n. ok (Relative n.0) n.1)
    else if kind == 1 then (unsigned_at room rest >>= λ n. ok (Absolute n.0) n.1)
    else if kind == 2 then (unsigned_at room rest >>= λ n. ok (EndRelative n.0) n.1)
    else refused faults.Type room rest

unfoldable pub position_at : ℕ → List ℕ → Result (Position × List ℕ) Stop
position_at room bytes = do
  start ← array_of_at room 2 bytes
  kind ← which_at room 3 start
  position_by room kind.0 kind.1

unfoldable pub place_at : ℕ → List ℕ → Result (ChangeValue × List ℕ) Stop
place_at room bytes = do
  x ← position_at room bytes
  y ← position_at room x.1
  ok (changed.CursorPosition x.0 y.0) y.1

abbrev pub visibility_of : Bool → CursorVisibility
visibility_of on = if on then Visible else Hidden

-- whether a scroll's region lies on this many rows, where that is known
abbrev pub is_on : Option ℕ → ℕ → ℕ → Bool
is_on None first size = true
is_on (Some rows) first size = nat_le (first + size) rows

-- how many rows a region has that begins at row first
unfoldable pub region_size_at : ℕ → Option ℕ → ℕ → List ℕ → Result (ℕ × List ℕ) Stop
region_size_at room rows first bytes = do
  n ← unsigned_at room bytes
  if is_on rows first n.0 then Ok n else refused faults.Region room bytes

-- a scroll, up or down
unfoldable pub scroll_at :
    ℕ → Option ℕ → (ℕ → ℕ → ℕ → ChangeValue) → List ℕ → Result (ChangeValue × List ℕ) Stop
scroll_at room rows scroll bytes = do
  first ← unsigned_at room bytes
  size ← region_size_at room rows first.0 first.1
  count ← unsigned_at room size.1
  ok (scroll first.0 size.0 count.0) count.1

-- whether the pieces of a text are those that it has here
unfoldable pub printed_at : (List ℕ → ℕ) → ℕ → ℕ → List ℕ → Result (ChangeValue × List ℕ) Stop
printed_at measure room count bytes = do
  t ← text_at room bytes
  rest ← pieces_by room (allowed room bytes) count t.0 (runs measure t.0) t.1
  ok (changed.Text t.0) rest

abbrev pub change_by :
    (List ℕ → ℕ) → ℕ → Option ℕ → ℕ → ℕ → List ℕ → Result (ChangeValue × List ℕ) Stop
change_by measure room rows count kind rest =
    if kind == 0 then (attribute_change_at room rest >>= λ v. ok (changed.Attribute v.0) v.1)
    else if kind == 1 then (attributes_at room rest >>= λ v. ok (changed.AllAttributes v.0) v.1)
    else if kind == 2 then printed_at measure room count rest
    else if kind == 3 then (color_item_at room rest >>= λ v. ok (changed.ClearScreen v.0) v.1)
    else if kind == 4 then (color_item_at room rest >>= λ v. ok (changed.ClearToEndOfLine v.0) v.1)
    else if kind == 5
    then (color_item_at room rest >>= λ v. ok (changed.ClearToEndOfScreen v.0) v.1)
    else if kind == 6 then place_at room rest
    else if kind == 7 then (color_item_at room rest >>= λ v. ok (changed.CursorColor v.0) v.1)
    else if kind == 8
    then (below_at room 7 rest >>= λ v. ok (changed.CursorShape (shape_at v.0)) v.1)
    else if kind == 9
    then (boolean_at room rest >>= λ v. ok (changed.CursorVisibility (visibility_of v.0)) v.1)
    else if kind == 10 then scroll_at room rows changed.ScrollRegionUp rest
    else if kind == 11 then scroll_at room rows changed.ScrollRegionDown rest
    else if kind == 12 then (text_at room rest >>= λ v. ok (changed.Title v.0) v.1)
    else if kind == 13
    then (below_at room 4 rest >>= λ v. ok (changed.LineAttribute (line_at v.0)) v.1)
    else refused faults.Type room rest

-- how many items a change has: two to four
unfoldable pub count_at : ℕ → List ℕ → Result (ℕ × List ℕ) Stop
count_at room bytes = do
  n ← array_at room bytes
  if nat_lt 1 n.0 && nat_lt n.0 5 then Ok n else refused faults.Type room bytes

-- whether a change of this kind has `count` items: a text has one more with its pieces
abbrev pub has_count : ℕ → ℕ → Bool
has_count kind count = nat_lt kind 14 && (count == change_count kind || (kind == 2 && count == 3))

-- the kind of a change of `count` items
unfoldable pub change_kind_at : ℕ → ℕ → List ℕ → Result (ℕ × List ℕ) Stop
change_kind_at room count bytes = do
  kind ← unsigned_at room bytes
  if has_count kind.0 count then Ok kind else refused faults.Type room bytes

unfoldable pub change_at : (List ℕ → ℕ) → ℕ → Option ℕ → List ℕ → Result (ChangeValue × List ℕ) Stop
change_at measure room rows bytes = do
  count ← count_at room bytes
  kind ← change_kind_at room count.0 count.1
  change_by measure room rows count.0 kind.0 kind.1
