-- What is encoded is decoded again, whatever follows it.
use Rattle.std.proofs.Common.{◌≡◌, ℕ, suc, ◌+◌, ◌*◌, ◌^◌, ◌<◌, ◌≤◌, Bool, true, false, cond, List, [], ◌∷◌, ◌++◌, length, Option, Some, None, Ok, Err, eqb, refl, sym, ap, subst, ◌∙◌, append_assoc, arith}
use Rattle.std.specs.List.{flat_map, AllByRecursion}
use Rattle.std.proofs.lemmas.Bool.{eq-eqb, lt-ltb}
use Rattle.std.proofs.lemmas.List.{append-nil, length-append}
use Rattle.std.proofs.lemmas.List.Concat.{flat_map-cons}
use Rattle.cbor.specs.declared.kind.Kind.TheVariants as kinds
use Rattle.cbor.specs.Encoding.{unsigned, signed, boolean, text, array, IsText}
use Rattle.cbor.specs.Decoding.{◌>>=◌, ok, allowed, kind_at, below_at, boolean_at}
use Rattle.cbor.proofs.Items.{unsigned_again, array_again, list_again, below_again, signed_again, boolean_again, text_again, array_of_again, null_again, kind_unsigned, kind_array, kind_null}
use Rattle.termwiz_cell.specs.Attributes.{Attributes}
use Rattle.termwiz_cell.specs.AttributeChangeValue.{AttributeChangeValue}
use Rattle.termwiz_cell.specs.AttributeChangeValue as attribute
use Rattle.termwiz_cell.specs.ChangeValue.{ChangeValue}
use Rattle.termwiz_cell.specs.ChangeValue as changed
use Rattle.termwiz_cell.specs.Link.{Link}
use Rattle.termwiz_cell.specs.LinkText.{AreInOrder}
use Rattle.termwiz_cell.specs.Shapes.{shape_number, shape_at, line_number, line_at}
use Rattle.termwiz_cell.specs.Style.{intensity_number, intensity_at, underline_number, underline_at, blink_number, blink_at, intensity-back, underline-back, blink-back}
use Rattle.termwiz_cell.specs.declared.cell.style.Intensity.{Intensity}
use Rattle.termwiz_cell.specs.declared.cell.style.Underline.{Underline}
use Rattle.termwiz_cell.specs.declared.cell.style.Blink.{Blink}
use Rattle.termwiz_cell.specs.declared.color.ColorAttribute.{ColorAttribute}
use Rattle.termwiz_cell.specs.declared.color.ColorAttribute.TheVariants as colors
use Rattle.termwiz_cell.specs.declared.change.CursorShape.{CursorShape}
use Rattle.termwiz_cell.specs.declared.change.CursorShape.TheVariants as shapes
use Rattle.termwiz_cell.specs.declared.change.LineAttribute.{LineAttribute}
use Rattle.termwiz_cell.specs.declared.change.LineAttribute.TheVariants as lines
use Rattle.termwiz_cell.specs.declared.change.Position.{Position}
use Rattle.termwiz_cell.specs.declared.change.Position.TheVariants.{Relative, Absolute, EndRelative}
use Rattle.termwiz_cell.specs.declared.change.CursorVisibility.{CursorVisibility}
use Rattle.termwiz_cell.specs.declared.change.CursorVisibility.TheVariants.{Hidden, Visible}
use Rattle.cbor.specs.declared.error.FaultKind.TheVariants as faults
use Rattle.termwiz_wire.specs.Pieces.{runs, needs_pieces}
use Rattle.termwiz_wire.specs.Cuts.{is_rest_at, is_run_at, are_at, same_at, pieces_at, pieces_by}
use Rattle.termwiz_wire.specs.declared.pieces.Run.{Run}
use Rattle.termwiz_wire.specs.Encoding.{run, pieces, with_pieces, item_count, color, style_number, param, link, optional_link, attributes, attribute_kind, attribute_value, attribute_change, position, is_visible, scroll, change_kind, change_count, change_values, change}
use Rattle.termwiz_wire.specs.Decoding.{palette_at, rgb_item_at, rgb_palette_at, color_item_at, ascends, which_at, key_at, param_item_at, params_at, link_at, optional_link_at, attributes_at, attribute_change_by, attribute_change_at, position_at, place_at, is_on, region_size_at, scroll_at, printed_at, visibility_of, change_by, count_at, has_count, change_kind_at, change_at}
use Rattle.termwiz_wire.specs.Forms.{IsColor, IsParam, IsLink, IsOptionalLink, AreAttributes, IsAttributeChange, IsPosition, IsScroll, IsPrinted, IsChange}
use Rattle.termwiz_wire.proofs.Bounded.{array-some, unsigned-some}
use Rattle.termwiz_wire.proofs.RunBounds.{IsRun, runs-are}
use Rattle.termwiz_wire.proofs.Rows.{FitsRows}
use Rattle.termwiz_wire.proofs.Params.{ascends-from_order}
use Rattle.termwiz_wire.proofs.Style.{styled-again, style_again, intensity-below, underline-below, blink-below}

-- ---- one of a given number of kinds

which_again : (room limit n : ℕ) (rest : List ℕ) → n < limit → n < 2 ^ 64 → which_at room limit (unsigned n ++ rest) ≡ Ok (n, rest)
unfolding which_at
which_again room limit n rest lt fits = rw (unsigned_again room n rest fits, lt-ltb n limit lt) refl

-- ---- colours

part_again : (room : ℕ) (n : ℕ) (rest : List ℕ) → n < 256 → below_at room 256 (unsigned n ++ rest) ≡ Ok (n, rest)
part_again room n rest lt = below_again room 256 n rest (omega (arith, lt)) lt

default_again : (room : ℕ) (rest : List ℕ) → color_item_at room (color colors.Default ++ rest) ≡ Ok (colors.Default, rest)
unfolding color color_item_at
default_again room rest = rw (kind_null room rest, null_again room rest) refl

pub color_again : (room : ℕ) (c : ColorAttribute) (rest : List ℕ) → IsColor c → color_item_at room (color c ++ rest) ≡ Ok (c, rest)
unfolding color color_item_at palette_at rgb_item_at rgb_palette_at
color_again room colors.Default rest is = default_again room rest
color_again room (colors.PaletteIndex n) rest is = rw (kind_unsigned room n rest, part_again room n rest is) refl
color_again room (colors.TrueColorWithDefaultFallback c) rest is =
    let tail : List ℕ = unsigned c.red ++ (unsigned c.green ++ (unsigned c.blue ++ rest)) in
    let regrouped : color (colors.TrueColorWithDefaultFallback c) ++ rest ≡ array 3 ++ tail = simp append_assoc in
    ap (color_item_at room) regrouped ∙ rw (kind_array room 3 tail, array_again room 3 tail (omega arith), part_again room c.red (unsigned c.green ++ (unsigned c.blue ++ rest)) is.red, part_again room c.green (unsigned c.blue ++ rest) is.green, part_again room c.blue rest is.blue) refl
color_again room (colors.TrueColorWithPaletteFallback c index) rest is =
    let tail : List ℕ = unsigned c.red ++ (unsigned c.green ++ (unsigned c.blue ++ (unsigned index ++ rest))) in
    let regrouped : color (colors.TrueColorWithPaletteFallback c index) ++ rest ≡ array 4 ++ tail = simp append_assoc in
    ap (color_item_at room) regrouped ∙ rw (kind_array room 4 tail, array_again room 4 tail (omega arith), part_again room c.red (unsigned c.green ++ (unsigned c.blue ++ (unsigned index ++ rest))) is.0.red, part_again room c.green (unsigned c.blue ++ (unsigned index ++ rest)) is.0.green, part_again room c.blue (unsigned index ++ rest) is.0.blue, part_again room index rest is.1) refl

-- ---- links

key_again : (room : ℕ) (made : List (List ℕ × List ℕ)) (key rest : List ℕ) → IsText key → ascends made key ≡ true → key_at room made (text key ++ rest) ≡ Ok (key, rest)
unfolding key_at
key_again room made key rest is up = rw (text_again room key rest is, up) refl

param_again : (room : ℕ) (made : List (List ℕ × List ℕ)) (p : List ℕ × List ℕ) (rest : List ℕ) → IsParam p → ascends made p.0 ≡ true → param_item_at room made (param p ++ rest) ≡ Ok (p, rest)
unfolding param_item_at param
param_again room made p rest is up =
    let regrouped : param p ++ rest ≡ array 2 ++ (text p.0 ++ (text p.1 ++ rest)) = simp append_assoc in
    ap (param_item_at room made) regrouped ∙ rw (array_of_again room 2 (text p.0 ++ (text p.1 ++ rest)) (omega arith), key_again room made p.0 (text p.1 ++ rest) is.key up, text_again room p.1 rest is.value) refl

params_again : (room : ℕ) (made ps : List (List ℕ × List ℕ)) (rest : List ℕ) → AllByRecursion IsParam ps → AreInOrder (made ++ ps) → params_at room made (length ps) (flat_map param ps ++ rest) ≡ Ok (made ++ ps, rest)
unfolding params_at
params_again room made [] rest are sorted = ap (λ (x : List (List ℕ × List ℕ)). Ok (x, rest)) (sym (append-nil made))
params_again room made (p ∷ ps) rest are sorted =
    ap (λ (bytes : List ℕ). params_at room made (suc (length ps)) bytes) (ap (λ (x : List ℕ). x ++ rest) (flat_map-cons param p ps) ∙ append_assoc (param p) (flat_map param ps) rest)
    ∙ rw (param_again room made p (flat_map param ps ++ rest) are.0 (ascends-from_order made p ps sorted))
    (params_again room (made ++ p ∷ []) ps rest are.1 (subst (λ (qs : List (List ℕ × List ℕ)). AreInOrder qs) (sym (append_assoc made (p ∷ []) ps)) sorted) ∙ ap (λ (x : List (List ℕ × List ℕ)). Ok (x, rest)) (append_assoc made (p ∷ []) ps))

param-some : (p : List ℕ × List ℕ) → 0 < length (param p)
unfolding param
param-some p = omega (arith, array-some 2, length-append (array 2 ++ text p.0) (text p.1), length-append (array 2) (text p.0))

params-some : (ps : List (List ℕ × List ℕ)) → length ps ≤ length (flat_map param ps)
params-some [] = omega arith
params-some (p ∷ ps) =
    let all : length (flat_map param (p ∷ ps)) ≡ length (param p) + length (flat_map param ps) = ap length (flat_map-cons param p ps) ∙ length-append (param p) (flat_map param ps) in
    omega (arith, all, param-some p, params-some ps)

params-fit : (room : ℕ) (ps : List (List ℕ × List ℕ)) (rest : List ℕ) → length ps ≤ allowed room (flat_map param ps ++ rest)
params-fit room ps rest = omega (arith, params-some ps, length-append (flat_map param ps) rest)

link_again : (room : ℕ) (l : Link) (rest : List ℕ) → IsLink l → link_at room (link l ++ rest) ≡ Ok (l, rest)
unfolding link_at link
link_again room l rest is =
    let params : List ℕ = flat_map param l.params ++ rest in
    let regrouped : link l ++ rest ≡ array 3 ++ (text l.uri ++ (boolean l.implicit ++ (array (length l.params) ++ params))) = simp append_assoc in
    ap (link_at room) regrouped
    ∙ rw (array_of_again room 3 (text l.uri ++ (boolean l.implicit ++ (array (length l.params) ++ params))) (omega arith), text_again room l.uri (boolean l.implicit ++ (array (length l.params) ++ params)) is.uri, boolean_again room l.implicit (array (length l.params) ++ params), list_again room (length l.params) params is.count (params-fit room l.params rest), params_again room [] l.params rest is.params is.ordered) refl

kind_link : (room : ℕ) (l : Link) (rest : List ℕ) → kind_at room (link l ++ rest) ≡ Ok kinds.Array
unfolding link
kind_link room l rest =
    let tail : List ℕ = text l.uri ++ (boolean l.implicit ++ (array (length l.params) ++ (flat_map param l.params ++ rest))) in
    let regrouped : link l ++ rest ≡ array 3 ++ tail = simp append_assoc in
    ap (kind_at room) regrouped ∙ kind_array room 3 tail

no_link_again : (room : ℕ) (rest : List ℕ) → optional_link_at room (optional_link None ++ rest) ≡ Ok (None, rest)
unfolding optional_link_at
no_link_again room rest = rw (kind_null room rest, null_again room rest) refl

pub optional_link_again : (room : ℕ) (l : Option Link) (rest : List ℕ) → IsOptionalLink l → optional_link_at room (optional_link l ++ rest) ≡ Ok (l, rest)
unfolding optional_link_at
optional_link_again room None rest is = no_link_again room rest
optional_link_again room (Some l) rest is = rw (kind_link room l rest, link_again room l rest is) refl

-- ---- attributes

pub attributes_again : (room : ℕ) (a : Attributes) (rest : List ℕ) → AreAttributes a → attributes_at room (attributes a ++ rest) ≡ Ok (a, rest)
unfolding attributes_at attributes
attributes_again room a rest is =
    let l : List ℕ = optional_link a.hyperlink ++ rest in
    let u : List ℕ = color a.underline_color ++ l in
    let b : List ℕ = color a.background ++ u in
    let f : List ℕ = color a.foreground ++ b in
    let n : List ℕ = unsigned (style_number a) ++ f in
    let regrouped : attributes a ++ rest ≡ array 5 ++ n = simp append_assoc in
    ap (attributes_at room) regrouped
    ∙ rw (array_of_again room 5 n (omega arith), style_again room a f, color_again room a.foreground b is.foreground, color_again room a.background u is.background, color_again room a.underline_color l is.underline, optional_link_again room a.hyperlink rest is.link)
    (ap (λ (s : Attributes). ok (record s { foreground = a.foreground; background = a.background; underline_color = a.underline_color; hyperlink = a.hyperlink }) rest) (styled-again a))

-- ---- numbers of variants

intensity_again : (room : ℕ) (v : Intensity) (rest : List ℕ) → (below_at room 3 (unsigned (intensity_number v) ++ rest) >>= λ n. ok (attribute.Intensity (intensity_at n.0)) n.1) ≡ ok (attribute.Intensity v) rest
intensity_again room v rest = rw (below_again room 3 (intensity_number v) rest (omega (arith, intensity-below v)) (intensity-below v)) (ap (λ (x : Intensity). ok (attribute.Intensity x) rest) (intensity-back v))

underline_again : (room : ℕ) (v : Underline) (rest : List ℕ) → (below_at room 6 (unsigned (underline_number v) ++ rest) >>= λ n. ok (attribute.Underline (underline_at n.0)) n.1) ≡ ok (attribute.Underline v) rest
underline_again room v rest = rw (below_again room 6 (underline_number v) rest (omega (arith, underline-below v)) (underline-below v)) (ap (λ (x : Underline). ok (attribute.Underline x) rest) (underline-back v))

blink_again : (room : ℕ) (v : Blink) (rest : List ℕ) → (below_at room 3 (unsigned (blink_number v) ++ rest) >>= λ n. ok (attribute.Blink (blink_at n.0)) n.1) ≡ ok (attribute.Blink v) rest
blink_again room v rest = rw (below_again room 3 (blink_number v) rest (omega (arith, blink-below v)) (blink-below v)) (ap (λ (x : Blink). ok (attribute.Blink x) rest) (blink-back v))

shape-below : (v : CursorShape) → shape_number v < 7
shape-below shapes.Default = omega arith
shape-below shapes.BlinkingBlock = omega arith
shape-below shapes.SteadyBlock = omega arith
shape-below shapes.BlinkingUnderline = omega arith
shape-below shapes.SteadyUnderline = omega arith
shape-below shapes.BlinkingBar = omega arith
shape-below shapes.SteadyBar = omega arith

shape-back : (v : CursorShape) → shape_at (shape_number v) ≡ v
shape-back shapes.Default = refl
shape-back shapes.BlinkingBlock = refl
shape-back shapes.SteadyBlock = refl
shape-back shapes.BlinkingUnderline = refl
shape-back shapes.SteadyUnderline = refl
shape-back shapes.BlinkingBar = refl
shape-back shapes.SteadyBar = refl

shape_again : (room : ℕ) (v : CursorShape) (rest : List ℕ) → (below_at room 7 (unsigned (shape_number v) ++ rest) >>= λ n. ok (changed.CursorShape (shape_at n.0)) n.1) ≡ ok (changed.CursorShape v) rest
shape_again room v rest = rw (below_again room 7 (shape_number v) rest (omega (arith, shape-below v)) (shape-below v)) (ap (λ (x : CursorShape). ok (changed.CursorShape x) rest) (shape-back v))

line-below : (v : LineAttribute) → line_number v < 4
line-below lines.DoubleHeightTopHalfLine = omega arith
line-below lines.DoubleHeightBottomHalfLine = omega arith
line-below lines.DoubleWidthLine = omega arith
line-below lines.SingleWidthLine = omega arith

line-back : (v : LineAttribute) → line_at (line_number v) ≡ v
line-back lines.DoubleHeightTopHalfLine = refl
line-back lines.DoubleHeightBottomHalfLine = refl
line-back lines.DoubleWidthLine = refl
line-back lines.SingleWidthLine = refl

line_again : (room : ℕ) (v : LineAttribute) (rest : List ℕ) → (below_at room 4 (unsigned (line_number v) ++ rest) >>= λ n. ok (changed.LineAttribute (line_at n.0)) n.1) ≡ ok (changed.LineAttribute v) rest
line_again room v rest = rw (below_again room 4 (line_number v) rest (omega (arith, line-below v)) (line-below v)) (ap (λ (x : LineAttribute). ok (changed.LineAttribute x) rest) (line-back v))

visibility-back : (v : CursorVisibility) → visibility_of (is_visible v) ≡ v
visibility-back Hidden = refl
visibility-back Visible = refl

visibility_again : (room : ℕ) (v : CursorVisibility) (rest : List ℕ) → (boolean_at room (boolean (is_visible v) ++ rest) >>= λ n. ok (changed.CursorVisibility (visibility_of n.0)) n.1) ≡ ok (changed.CursorVisibility v) rest
visibility_again room v rest = rw (boolean_again room (is_visible v) rest) (ap (λ (x : CursorVisibility). ok (changed.CursorVisibility x) rest) (visibility-back v))

-- ---- changes of one attribute

attribute_value_again : (room : ℕ) (c : AttributeChangeValue) (rest : List ℕ) → IsAttributeChange c → attribute_change_by room (attribute_kind c) (attribute_value c ++ rest) ≡ Ok (c, rest)
unfolding attribute_value
attribute_value_again room (attribute.Intensity v) rest is = intensity_again room v rest
attribute_value_again room (attribute.Underline v) rest is = underline_again room v rest
attribute_value_again room (attribute.Italic v) rest is = rw (boolean_again room v rest) refl
attribute_value_again room (attribute.Blink v) rest is = blink_again room v rest
attribute_value_again room (attribute.Reverse v) rest is = rw (boolean_again room v rest) refl
attribute_value_again room (attribute.StrikeThrough v) rest is = rw (boolean_again room v rest) refl
attribute_value_again room (attribute.Invisible v) rest is = rw (boolean_again room v rest) refl
attribute_value_again room (attribute.Foreground v) rest is = rw (color_again room v rest is) refl
attribute_value_again room (attribute.Background v) rest is = rw (color_again room v rest is) refl
attribute_value_again room (attribute.Hyperlink v) rest is = rw (optional_link_again room v rest is) refl

attribute_kind-small : (c : AttributeChangeValue) → attribute_kind c < 10
attribute_kind-small (attribute.Intensity v) = omega arith
attribute_kind-small (attribute.Underline v) = omega arith
attribute_kind-small (attribute.Italic v) = omega arith
attribute_kind-small (attribute.Blink v) = omega arith
attribute_kind-small (attribute.Reverse v) = omega arith
attribute_kind-small (attribute.StrikeThrough v) = omega arith
attribute_kind-small (attribute.Invisible v) = omega arith
attribute_kind-small (attribute.Foreground v) = omega arith
attribute_kind-small (attribute.Background v) = omega arith
attribute_kind-small (attribute.Hyperlink v) = omega arith

pub attribute_change_again : (room : ℕ) (c : AttributeChangeValue) (rest : List ℕ) → IsAttributeChange c → attribute_change_at room (attribute_change c ++ rest) ≡ Ok (c, rest)
unfolding attribute_change_at
attribute_change_again room c rest is =
    let tail : List ℕ = attribute_value c ++ rest in
    let regrouped : attribute_change c ++ rest ≡ array 2 ++ (unsigned (attribute_kind c) ++ tail) = simp append_assoc in
    ap (attribute_change_at room) regrouped ∙ rw (array_of_again room 2 (unsigned (attribute_kind c) ++ tail) (omega arith), which_again room 10 (attribute_kind c) tail (attribute_kind-small c) (omega (arith, attribute_kind-small c))) (attribute_value_again room c rest is)

-- ---- changes

pub position_again : (room : ℕ) (p : Position) (rest : List ℕ) → IsPosition p → position_at room (position p ++ rest) ≡ Ok (p, rest)
unfolding position_at position
position_again room (Relative n) rest is =
    let regrouped : position (Relative n) ++ rest ≡ array 2 ++ (unsigned 0 ++ (signed n ++ rest)) = simp append_assoc in
    ap (position_at room) regrouped ∙ rw (array_of_again room 2 (unsigned 0 ++ (signed n ++ rest)) (omega arith), which_again room 3 0 (signed n ++ rest) (omega arith) (omega arith), signed_again room n rest is) refl
position_again room (Absolute n) rest is =
    let regrouped : position (Absolute n) ++ rest ≡ array 2 ++ (unsigned 1 ++ (unsigned n ++ rest)) = simp append_assoc in
    ap (position_at room) regrouped ∙ rw (array_of_again room 2 (unsigned 1 ++ (unsigned n ++ rest)) (omega arith), which_again room 3 1 (unsigned n ++ rest) (omega arith) (omega arith), unsigned_again room n rest is) refl
position_again room (EndRelative n) rest is =
    let regrouped : position (EndRelative n) ++ rest ≡ array 2 ++ (unsigned 2 ++ (unsigned n ++ rest)) = simp append_assoc in
    ap (position_at room) regrouped ∙ rw (array_of_again room 2 (unsigned 2 ++ (unsigned n ++ rest)) (omega arith), which_again room 3 2 (unsigned n ++ rest) (omega arith) (omega arith), unsigned_again room n rest is) refl

place_again : (room : ℕ) (x y : Position) (rest : List ℕ) → IsPosition x → IsPosition y → place_at room (position x ++ position y ++ rest) ≡ Ok (changed.CursorPosition x y, rest)
unfolding place_at
place_again room x y rest of_x of_y =
    ap (place_at room) (append_assoc (position x) (position y) rest) ∙ rw (position_again room x (position y ++ rest) of_x, position_again room y rest of_y) refl

size_again : (room : ℕ) (rows : Option ℕ) (first size : ℕ) (rest : List ℕ) → size < 2 ^ 64 → is_on rows first size ≡ true → region_size_at room rows first (unsigned size ++ rest) ≡ Ok (size, rest)
unfolding region_size_at
size_again room rows first size rest lt on = rw (unsigned_again room size rest lt, on) refl

scroll_again : (room : ℕ) (rows : Option ℕ) (make : ℕ → ℕ → ℕ → ChangeValue) (first size count : ℕ) (rest : List ℕ) → IsScroll first size count → is_on rows first size ≡ true → scroll_at room rows make (scroll first size count ++ rest) ≡ Ok (make first size count, rest)
unfolding scroll_at scroll
scroll_again room rows make first size count rest is on =
    let regrouped : scroll first size count ++ rest ≡ unsigned first ++ (unsigned size ++ (unsigned count ++ rest)) = simp append_assoc in
    ap (scroll_at room rows make) regrouped ∙ rw (unsigned_again room first (unsigned size ++ (unsigned count ++ rest)) is.0, size_again room rows first size (unsigned count ++ rest) is.1 on, unsigned_again room count rest is.2) refl

-- ---- texts and their pieces

rest_again : (room : ℕ) (r : Run) (rest : List ℕ) → IsRun r → is_rest_at room r (unsigned r.characters ++ (unsigned r.columns ++ rest)) ≡ Ok (true, rest)
unfolding is_rest_at
rest_again room r rest is = rw (unsigned_again room r.characters (unsigned r.columns ++ rest) is.characters, eq-eqb r.characters r.characters refl, unsigned_again room r.columns rest is.columns, eq-eqb r.columns r.columns refl) refl

run_again : (room : ℕ) (r : Run) (rest : List ℕ) → IsRun r → is_run_at room r (run r ++ rest) ≡ Ok (true, rest)
unfolding is_run_at run
run_again room r rest is =
    let regrouped : run r ++ rest ≡ unsigned r.count ++ (unsigned r.characters ++ (unsigned r.columns ++ rest)) = simp append_assoc in
    ap (is_run_at room r) regrouped ∙ rw (unsigned_again room r.count (unsigned r.characters ++ (unsigned r.columns ++ rest)) is.count, eq-eqb r.count r.count refl, rest_again room r rest is) refl

runs_again : (room : ℕ) (rs : List Run) (rest : List ℕ) → AllByRecursion IsRun rs → are_at room rs (flat_map run rs ++ rest) ≡ Ok (true, rest)
unfolding are_at
runs_again room [] rest are = refl
runs_again room (r ∷ rs) rest are =
    ap (are_at room (r ∷ rs)) (ap (λ (x : List ℕ). x ++ rest) (flat_map-cons run r rs) ∙ append_assoc (run r) (flat_map run rs) rest)
    ∙ rw (run_again room r (flat_map run rs ++ rest) are.0) (runs_again room rs rest are.1)

run-some : (r : Run) → 3 ≤ length (run r)
unfolding run
run-some r = omega (arith, unsigned-some r.count, unsigned-some r.characters, unsigned-some r.columns, length-append (unsigned r.count ++ unsigned r.characters) (unsigned r.columns), length-append (unsigned r.count) (unsigned r.characters))

runs-some : (rs : List Run) → 3 * length rs ≤ length (flat_map run rs)
runs-some [] = omega arith
runs-some (r ∷ rs) =
    let all : length (flat_map run (r ∷ rs)) ≡ length (run r) + length (flat_map run rs) = ap length (flat_map-cons run r rs) ∙ length-append (run r) (flat_map run rs) in
    omega (arith, all, run-some r, runs-some rs)

same_again : (room : ℕ) (rs : List Run) (rest : List ℕ) → 3 * length rs < 2 ^ 64 → AllByRecursion IsRun rs → same_at room rs (pieces rs ++ rest) ≡ Ok (true, rest)
unfolding same_at pieces
same_again room rs rest lt are =
    let tail : List ℕ = flat_map run rs ++ rest in
    let n : ℕ = 3 * length rs in
    let fits : n ≤ allowed room tail = omega (arith, runs-some rs, length-append (flat_map run rs) rest) in
    ap (same_at room rs) (append_assoc (array n) (flat_map run rs) rest)
    ∙ rw (array_again room n tail lt, eq-eqb n n refl, list_again room n tail lt fits, runs_again room rs rest are) refl

listed_again : (room place : ℕ) (t : List ℕ) (rs : List Run) (rest : List ℕ) → needs_pieces rs ≡ true → 3 * length rs < 2 ^ 64 → AllByRecursion IsRun rs → pieces_at room place t rs (pieces rs ++ rest) ≡ Ok rest
unfolding pieces_at
listed_again room place t rs rest needs lt are = rw (needs, same_again room rs rest lt are) refl

-- how many items a text's change has
abbrev text_count : Bool → ℕ
text_count b = cond b 3 2

with_again : (room place : ℕ) (t : List ℕ) (rs : List Run) (rest : List ℕ) → (needs_pieces rs ≡ true → 3 * length rs < 2 ^ 64) → AllByRecursion IsRun rs → pieces_by room place (text_count (needs_pieces rs)) t rs ((cond (needs_pieces rs) (pieces rs) []) ++ rest) ≡ Ok rest
unfolding pieces_by
with_again room place t rs rest lt are =
    elim (needs_pieces rs) as (λ b. needs_pieces rs ≡ b → cond (eqb (text_count b) 3) (pieces_at room place t rs ((cond b (pieces rs) []) ++ rest)) (cond b (Err (record { fault = faults.Measure; left = place })) (Ok ((cond b (pieces rs) []) ++ rest))) ≡ Ok rest) [
      | true ↦ λ needs. listed_again room place t rs rest needs (lt needs) are
      | false ↦ λ needs. refl
    ] refl

printed_again : (measure : List ℕ → ℕ) (room : ℕ) (t rest : List ℕ) → IsPrinted measure t → printed_at measure room (text_count (needs_pieces (runs measure t))) (with_pieces t (runs measure t) ++ rest) ≡ Ok (changed.Text t, rest)
unfolding printed_at
printed_again measure room t rest is =
    let rs : List Run = runs measure t in
    let listed : List ℕ = cond (needs_pieces rs) (pieces rs) [] in
    let are : AllByRecursion IsRun rs = runs-are measure t is.text in
    let regrouped : with_pieces t rs ++ rest ≡ text t ++ (listed ++ rest) = append_assoc (text t) listed rest in
    ap (printed_at measure room (text_count (needs_pieces rs))) regrouped
    ∙ rw (text_again room t (listed ++ rest) is.text, with_again room (allowed room (text t ++ (listed ++ rest))) t rs rest is.pieces are) refl

-- ---- changes

change_values_again : (measure : List ℕ → ℕ) (room : ℕ) (rows : Option ℕ) (c : ChangeValue) (rest : List ℕ) → IsChange measure c → FitsRows rows c → change_by measure room rows (item_count measure c) (change_kind c) (change_values measure c ++ rest) ≡ Ok (c, rest)
unfolding change_values
change_values_again measure room rows (changed.Attribute c) rest is on = rw (attribute_change_again room c rest is) refl
change_values_again measure room rows (changed.AllAttributes a) rest is on = rw (attributes_again room a rest is) refl
change_values_again measure room rows (changed.Text t) rest is on = printed_again measure room t rest is
change_values_again measure room rows (changed.ClearScreen c) rest is on = rw (color_again room c rest is) refl
change_values_again measure room rows (changed.ClearToEndOfLine c) rest is on = rw (color_again room c rest is) refl
change_values_again measure room rows (changed.ClearToEndOfScreen c) rest is on = rw (color_again room c rest is) refl
change_values_again measure room rows (changed.CursorPosition x y) rest is on = place_again room x y rest is.0 is.1
change_values_again measure room rows (changed.CursorColor c) rest is on = rw (color_again room c rest is) refl
change_values_again measure room rows (changed.CursorShape s) rest is on = shape_again room s rest
change_values_again measure room rows (changed.CursorVisibility v) rest is on = visibility_again room v rest
change_values_again measure room rows (changed.ScrollRegionUp first size count) rest is on = scroll_again room rows changed.ScrollRegionUp first size count rest is on
change_values_again measure room rows (changed.ScrollRegionDown first size count) rest is on = scroll_again room rows changed.ScrollRegionDown first size count rest is on
change_values_again measure room rows (changed.Title t) rest is on = rw (text_again room t rest is) refl
change_values_again measure room rows (changed.LineAttribute l) rest is on = line_again room l rest

-- kinds and counts are small, and belong together
pub record IsKind (kind count : ℕ) : Type 0 where
  pub kind_fits : kind < 2 ^ 64
  pub some : 1 < count
  pub few : count < 5
  pub counted : has_count kind count ≡ true

plain_kind : (kind : ℕ) → kind < 14 → 1 < change_count kind → change_count kind < 5 → has_count kind (change_count kind) ≡ true → IsKind kind (change_count kind)
plain_kind kind lt some few counted = record { kind_fits = omega (arith, lt); some = some; few = few; counted = counted }

text_kind : (b : Bool) → IsKind 2 (text_count b)
text_kind true = record { kind_fits = omega arith; some = omega arith; few = omega arith; counted = refl }
text_kind false = record { kind_fits = omega arith; some = omega arith; few = omega arith; counted = refl }

pub change_kind-small : (measure : List ℕ → ℕ) (c : ChangeValue) → IsKind (change_kind c) (item_count measure c)
change_kind-small measure (changed.Attribute c) = plain_kind 0 (omega arith) (omega arith) (omega arith) refl
change_kind-small measure (changed.AllAttributes a) = plain_kind 1 (omega arith) (omega arith) (omega arith) refl
change_kind-small measure (changed.Text t) = text_kind (needs_pieces (runs measure t))
change_kind-small measure (changed.ClearScreen c) = plain_kind 3 (omega arith) (omega arith) (omega arith) refl
change_kind-small measure (changed.ClearToEndOfLine c) = plain_kind 4 (omega arith) (omega arith) (omega arith) refl
change_kind-small measure (changed.ClearToEndOfScreen c) = plain_kind 5 (omega arith) (omega arith) (omega arith) refl
change_kind-small measure (changed.CursorPosition x y) = plain_kind 6 (omega arith) (omega arith) (omega arith) refl
change_kind-small measure (changed.CursorColor c) = plain_kind 7 (omega arith) (omega arith) (omega arith) refl
change_kind-small measure (changed.CursorShape s) = plain_kind 8 (omega arith) (omega arith) (omega arith) refl
change_kind-small measure (changed.CursorVisibility v) = plain_kind 9 (omega arith) (omega arith) (omega arith) refl
change_kind-small measure (changed.ScrollRegionUp first size count) = plain_kind 10 (omega arith) (omega arith) (omega arith) refl
change_kind-small measure (changed.ScrollRegionDown first size count) = plain_kind 11 (omega arith) (omega arith) (omega arith) refl
change_kind-small measure (changed.Title t) = plain_kind 12 (omega arith) (omega arith) (omega arith) refl
change_kind-small measure (changed.LineAttribute l) = plain_kind 13 (omega arith) (omega arith) (omega arith) refl

count_again : (room kind count : ℕ) (rest : List ℕ) → IsKind kind count → count_at room (array count ++ rest) ≡ Ok (count, rest)
unfolding count_at
count_again room kind count rest is = rw (array_again room count rest (omega (arith, is.few)), lt-ltb 1 count is.some, lt-ltb count 5 is.few) refl

kind_again : (room kind count : ℕ) (rest : List ℕ) → IsKind kind count → change_kind_at room count (unsigned kind ++ rest) ≡ Ok (kind, rest)
unfolding change_kind_at
kind_again room kind count rest is = rw (unsigned_again room kind rest is.kind_fits, is.counted) refl

counted_again : (measure : List ℕ → ℕ) (room : ℕ) (rows : Option ℕ) (kind count : ℕ) (tail : List ℕ) → IsKind kind count → change_at measure room rows (array count ++ (unsigned kind ++ tail)) ≡ change_by measure room rows count kind tail
unfolding change_at
counted_again measure room rows kind count tail is = rw (count_again room kind count (unsigned kind ++ tail) is, kind_again room kind count tail is) refl

pub change_again : (measure : List ℕ → ℕ) (room : ℕ) (rows : Option ℕ) (c : ChangeValue) (rest : List ℕ) → IsChange measure c → FitsRows rows c → change_at measure room rows (change measure c ++ rest) ≡ Ok (c, rest)
change_again measure room rows c rest is on =
    let tail : List ℕ = change_values measure c ++ rest in
    let regrouped : change measure c ++ rest ≡ array (item_count measure c) ++ (unsigned (change_kind c) ++ tail) = simp append_assoc in
    ap (change_at measure room rows) regrouped ∙ counted_again measure room rows (change_kind c) (item_count measure c) tail (change_kind-small measure c) ∙ change_values_again measure room rows c rest is on
