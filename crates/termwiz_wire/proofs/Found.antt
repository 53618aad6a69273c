-- What is decoded was encoded so.
use Rattle.std.proofs.Common.{◌≡◌, ℕ, zero, suc, ◌*◌, ◌^◌, ◌<◌, ◌&&◌, ◌||◌, ◌⊎◌, ltb, Bool, true, false, cond, eqb, List, [], ◌∷◌, ◌++◌, length, Option, Some, None, Result, Ok, Err, refl, sym, ap, subst, ◌∙◌, append_assoc, arith, inl, inr}
use Rattle.std.specs.List.{flat_map, AllByRecursion}
use Rattle.std.specs.List.Sorted.{IsStrictlySortedBy}
use Rattle.std.proofs.lemmas.Bool.{eqb-true}
use Rattle.std.proofs.lemmas.List.{append-nil}
use Rattle.std.proofs.lemmas.List.Concat.{flat_map-cons}
use Rattle.cbor.specs.declared.error.FaultKind.TheVariants as faults
use Rattle.cbor.specs.declared.kind.Kind.{Kind}
use Rattle.cbor.specs.declared.kind.Kind.TheVariants as kinds
use Rattle.cbor.specs.Encoding.{unsigned, signed, boolean, text, array, IsText}
use Rattle.cbor.specs.Decoding.{◌>>=◌, Stop, ok, allowed, IsBytes, kind_at, null_at, unsigned_at, below_at, signed_at, boolean_at, text_at, array_at, list_at, array_of_at}
use Rattle.cbor.proofs.Items.{unsigned_takes, array_takes, list_takes, list_is_array, null_takes, signed_takes, boolean_takes, text_takes, array_of_takes}
use Rattle.cbor.proofs.Steps.{Takes, Takes-then, bind_ok, guard_ok, guard_ended, chosen, ok_is}
use Rattle.termwiz_cell.specs.Attributes.{Attributes}
use Rattle.termwiz_cell.specs.AttributeChangeValue.{AttributeChangeValue}
use Rattle.termwiz_cell.specs.AttributeChangeValue as attribute
use Rattle.termwiz_cell.specs.ChangeValue.{ChangeValue}
use Rattle.termwiz_cell.specs.ChangeValue as changed
use Rattle.termwiz_cell.specs.Link.{Link}
use Rattle.termwiz_cell.specs.LinkText.{AreInOrder}
use Rattle.termwiz_cell.specs.Rgb.{rgb}
use Rattle.termwiz_cell.specs.Shapes.{shape_number, shape_at, line_number, line_at}
use Rattle.termwiz_cell.specs.Style.{intensity_number, intensity_at, underline_number, underline_at, blink_number, blink_at}
use Rattle.termwiz_cell.specs.declared.color.ColorAttribute.{ColorAttribute}
use Rattle.termwiz_cell.specs.declared.color.ColorAttribute.TheVariants as colors
use Rattle.termwiz_cell.specs.declared.change.Position.{Position}
use Rattle.termwiz_cell.specs.declared.change.Position.TheVariants.{Relative, Absolute, EndRelative}
use Rattle.termwiz_wire.specs.Encoding.{color, param, link, optional_link, attributes, attribute_kind, attribute_value, attribute_change, position, is_visible, scroll, change_kind, change_count, change_values, item_count, run, pieces, change}
use Rattle.termwiz_wire.specs.Decoding.{palette_at, rgb_item_at, rgb_palette_at, color_by, color_item_at, styled, style_item_at, ascends, which_at, key_at, param_item_at, params_at, link_at, optional_link_by, optional_link_at, attributes_at, attribute_change_by, attribute_change_at, position_by, position_at, place_at, is_on, region_size_at, scroll_at, printed_at, visibility_of, change_by, has_count, count_at, change_kind_at, change_at}
use Rattle.termwiz_wire.specs.Forms.{IsColor, IsParam, IsLink, IsOptionalLink, AreAttributes, IsAttributeChange, IsPosition, IsScroll, IsChange}
use Rattle.termwiz_wire.specs.Pieces.{runs, needs_pieces}
use Rattle.termwiz_wire.specs.Cuts.{refused, is_rest_at, is_run_at, are_at, same_at, cut_at, others_at, pieces_at, pieces_by}
use Rattle.termwiz_wire.specs.declared.pieces.Run.{Run}
use Rattle.termwiz_wire.proofs.Rows.{FitsRows}
use Rattle.termwiz_wire.proofs.Params.{order-push}
use Rattle.termwiz_wire.proofs.Steps.{picks, mapped, both, stopped, number_takes, which_takes, kept_takes}
use Rattle.termwiz_wire.proofs.StyleFound.{style_takes, intensity-found, underline-found, blink-found}

never : {A P : Type 0} (d : Stop) (x : A) → Err d ≡ Ok x → P
never d x e = absurd cc

-- ---- colours

abbrev ColorFound : List ℕ → ColorAttribute × List ℕ → Type 0
ColorFound bytes x = Takes bytes (color x.0) x.1 × IsColor x.0

palette_takes : (room : ℕ) (bytes : List ℕ) (x : ColorAttribute × List ℕ) → IsBytes bytes → palette_at room bytes ≡ Ok x → ColorFound bytes x
unfolding palette_at color
palette_takes room bytes x fits e =
    let a = mapped (below_at room 256 bytes) colors.PaletteIndex x e in
    subst (λ (y : ColorAttribute × List ℕ). ColorFound bytes y) a.2 (number_takes room 256 bytes a.0 fits a.1)

rgb_takes : (room : ℕ) (before bytes : List ℕ) (x : ColorAttribute × List ℕ) → Takes before (array 3) bytes → rgb_item_at room bytes ≡ Ok x → ColorFound before x
unfolding rgb_item_at color
rgb_takes room before bytes x first e =
    let r = bind_ok (below_at room 256 bytes) _ x e in
    let g = bind_ok (below_at room 256 r.0.1) _ x r.2 in
    let b = bind_ok (below_at room 256 g.0.1) _ x g.2 in
    let tr = number_takes room 256 bytes r.0 first.rest_fits r.1 in
    let tg = number_takes room 256 r.0.1 g.0 tr.0.rest_fits g.1 in
    let tb = number_takes room 256 g.0.1 b.0 tg.0.rest_fits b.1 in
    let r1 = Takes-then before (array 3) bytes (unsigned r.0.0) r.0.1 first tr.0 in
    let g1 = Takes-then before (array 3 ++ unsigned r.0.0) r.0.1 (unsigned g.0.0) g.0.1 r1 tg.0 in
    let all = Takes-then before (array 3 ++ unsigned r.0.0 ++ unsigned g.0.0) g.0.1 (unsigned b.0.0) b.0.1 g1 tb.0 in
    subst (λ (y : ColorAttribute × List ℕ). ColorFound before y) (ok_is (colors.TrueColorWithDefaultFallback (rgb r.0.0 g.0.0 b.0.0), b.0.1) x b.2) (all, record { red = tr.1; green = tg.1; blue = tb.1 })

rgb_palette_takes : (room : ℕ) (before bytes : List ℕ) (x : ColorAttribute × List ℕ) → Takes before (array 4) bytes → rgb_palette_at room bytes ≡ Ok x → ColorFound before x
unfolding rgb_palette_at color
rgb_palette_takes room before bytes x first e =
    let r = bind_ok (below_at room 256 bytes) _ x e in
    let g = bind_ok (below_at room 256 r.0.1) _ x r.2 in
    let b = bind_ok (below_at room 256 g.0.1) _ x g.2 in
    let i = bind_ok (below_at room 256 b.0.1) _ x b.2 in
    let tr = number_takes room 256 bytes r.0 first.rest_fits r.1 in
    let tg = number_takes room 256 r.0.1 g.0 tr.0.rest_fits g.1 in
    let tb = number_takes room 256 g.0.1 b.0 tg.0.rest_fits b.1 in
    let ti = number_takes room 256 b.0.1 i.0 tb.0.rest_fits i.1 in
    let r1 = Takes-then before (array 4) bytes (unsigned r.0.0) r.0.1 first tr.0 in
    let g1 = Takes-then before (array 4 ++ unsigned r.0.0) r.0.1 (unsigned g.0.0) g.0.1 r1 tg.0 in
    let b1 = Takes-then before (array 4 ++ unsigned r.0.0 ++ unsigned g.0.0) g.0.1 (unsigned b.0.0) b.0.1 g1 tb.0 in
    let all = Takes-then before (array 4 ++ unsigned r.0.0 ++ unsigned g.0.0 ++ unsigned b.0.0) b.0.1 (unsigned i.0.0) i.0.1 b1 ti.0 in
    subst (λ (y : ColorAttribute × List ℕ). ColorFound before y) (ok_is (colors.TrueColorWithPaletteFallback (rgb r.0.0 g.0.0 b.0.0) i.0.0, i.0.1) x i.2) (all, (record { red = tr.1; green = tg.1; blue = tb.1 }, ti.1))

default_takes : (room : ℕ) (bytes : List ℕ) (x : ColorAttribute × List ℕ) → IsBytes bytes → (null_at room bytes >>= λ rest. ok colors.Default rest) ≡ Ok x → ColorFound bytes x
unfolding color
default_takes room bytes x fits e =
    let a = bind_ok (null_at room bytes) _ x e in
    subst (λ (y : ColorAttribute × List ℕ). ColorFound bytes y) (ok_is (colors.Default, a.0) x a.2) (null_takes room bytes a.0 fits a.1, tt)

color_array_takes : (room : ℕ) (bytes : List ℕ) (x : ColorAttribute × List ℕ) → IsBytes bytes → color_by room kinds.Array bytes ≡ Ok x → ColorFound bytes x
color_array_takes room bytes x fits e =
    let a = bind_ok (array_at room bytes) _ x e in
    let t = array_takes room bytes a.0 fits a.1 in
    picks a.0.0 3 _ _ x a.2
    (λ is read. rgb_takes room bytes a.0.1 x (subst (λ (k : ℕ). Takes bytes (array k) a.0.1) is t.0) read)
    (λ more. picks a.0.0 4 _ _ x more
    (λ is read. rgb_palette_takes room bytes a.0.1 x (subst (λ (k : ℕ). Takes bytes (array k) a.0.1) is t.0) read)
    (λ none. never (stopped faults.Type room bytes) x none))

color_by_takes : (room : ℕ) (k : Kind) (bytes : List ℕ) (x : ColorAttribute × List ℕ) → IsBytes bytes → color_by room k bytes ≡ Ok x → ColorFound bytes x
color_by_takes room kinds.Null bytes x fits e = default_takes room bytes x fits e
color_by_takes room kinds.Unsigned bytes x fits e = palette_takes room bytes x fits e
color_by_takes room kinds.Array bytes x fits e = color_array_takes room bytes x fits e
color_by_takes room kinds.Negative bytes x fits e = never (stopped faults.Type room bytes) x e
color_by_takes room kinds.Text bytes x fits e = never (stopped faults.Type room bytes) x e
color_by_takes room kinds.Boolean bytes x fits e = never (stopped faults.Type room bytes) x e
color_by_takes room kinds.Other bytes x fits e = never (stopped faults.Type room bytes) x e

pub color_takes : (room : ℕ) (bytes : List ℕ) (x : ColorAttribute × List ℕ) → IsBytes bytes → color_item_at room bytes ≡ Ok x → ColorFound bytes x
unfolding color_item_at
color_takes room bytes x fits e =
    let a = bind_ok (kind_at room bytes) _ x e in
    color_by_takes room a.0 bytes x fits a.2

-- ---- links

abbrev Param : Type 0
Param = List ℕ × List ℕ

key_takes : (room : ℕ) (made : List Param) (bytes : List ℕ) (x : List ℕ × List ℕ) → IsBytes bytes → key_at room made bytes ≡ Ok x → Takes bytes (text x.0) x.1 × IsText x.0 × (ascends made x.0 ≡ true)
unfolding key_at
key_takes room made bytes x fits e =
    let a = bind_ok (text_at room bytes) _ x e in
    let g = guard_ended (ascends made a.0.0) (stopped faults.Range room bytes) a.0 x a.2 in
    let t = text_takes room bytes a.0 fits a.1 in
    subst (λ (y : List ℕ × List ℕ). Takes bytes (text y.0) y.1 × IsText y.0 × (ascends made y.0 ≡ true)) g.1 (t.0, t.1, g.0)

param_takes : (room : ℕ) (made : List Param) (bytes : List ℕ) (x : Param × List ℕ) → IsBytes bytes → param_item_at room made bytes ≡ Ok x → Takes bytes (param x.0) x.1 × IsParam x.0 × (ascends made x.0.0 ≡ true)
unfolding param_item_at param
param_takes room made bytes x fits e =
    let start = bind_ok (array_of_at room 2 bytes) _ x e in
    let key = bind_ok (key_at room made start.0) _ x start.2 in
    let value = bind_ok (text_at room key.0.1) _ x key.2 in
    let ts = array_of_takes room 2 bytes start.0 fits start.1 in
    let tk = key_takes room made start.0 key.0 ts.rest_fits key.1 in
    let tv = text_takes room key.0.1 value.0 tk.0.rest_fits value.1 in
    let k1 = Takes-then bytes (array 2) start.0 (text key.0.0) key.0.1 ts tk.0 in
    let all = Takes-then bytes (array 2 ++ text key.0.0) key.0.1 (text value.0.0) value.0.1 k1 tv.0 in
    subst (λ (y : Param × List ℕ). Takes bytes (param y.0) y.1 × IsParam y.0 × (ascends made y.0.0 ≡ true)) (ok_is ((key.0.0, value.0.0), value.0.1) x value.2) (all, record { key = tk.1; value = tv.1 }, tk.2)

record ParamsFound (made : List Param) (n : ℕ) (bytes : List ℕ) (x : List Param × List ℕ) : Type 0 where
  pub params : List Param
  pub made_is : x.0 ≡ made ++ params
  pub count : length params ≡ n
  pub taken : Takes bytes (flat_map param params) x.1
  pub each : AllByRecursion IsParam params
  pub ordered : AreInOrder x.0

params_takes : (room : ℕ) (n : ℕ) (made : List Param) (bytes : List ℕ) (x : List Param × List ℕ) → IsBytes bytes → AreInOrder made → params_at room made n bytes ≡ Ok x → ParamsFound made n bytes x
unfolding params_at
params_takes room zero made bytes x fits ordered e =
    subst (λ (y : List Param × List ℕ). ParamsFound made zero bytes y) (ok_is (made, bytes) x e)
    (record { params = []; made_is = sym (append-nil made); count = refl; taken = record { parts = refl; rest_fits = fits }; each = tt; ordered = ordered })
params_takes room (suc n) made bytes x fits ordered e =
    let first = bind_ok (param_item_at room made bytes) _ x e in
    let t = param_takes room made bytes first.0 fits first.1 in
    let p : Param = first.0.0 in
    let more = params_takes room n (made ++ p ∷ []) first.0.1 x t.0.rest_fits (order-push made p ordered t.2) first.2 in
    record {
      params = p ∷ more.params;
      made_is = more.made_is ∙ append_assoc made (p ∷ []) more.params;
      count = ap suc more.count;
      taken = subst (λ (z : List ℕ). Takes bytes z x.1) (sym (flat_map-cons param p more.params)) (Takes-then bytes (param p) first.0.1 (flat_map param more.params) x.1 t.0 more.taken);
      each = (t.1, more.each);
      ordered = more.ordered;
    }

no_params : AreInOrder []
unfolding IsStrictlySortedBy
no_params = tt

link_takes : (room : ℕ) (bytes : List ℕ) (x : Link × List ℕ) → IsBytes bytes → link_at room bytes ≡ Ok x → Takes bytes (link x.0) x.1 × IsLink x.0
unfolding link_at link
link_takes room bytes x fits e =
    let start = bind_ok (array_of_at room 3 bytes) _ x e in
    let uri = bind_ok (text_at room start.0) _ x start.2 in
    let implicit = bind_ok (boolean_at room uri.0.1) _ x uri.2 in
    let count = bind_ok (list_at room implicit.0.1) _ x implicit.2 in
    let params = bind_ok (params_at room [] count.0.0 count.0.1) _ x count.2 in
    let ts = array_of_takes room 3 bytes start.0 fits start.1 in
    let tu = text_takes room start.0 uri.0 ts.rest_fits uri.1 in
    let ti = boolean_takes room uri.0.1 implicit.0 tu.0.rest_fits implicit.1 in
    let tc = list_takes room implicit.0.1 count.0 ti.rest_fits count.1 in
    let tp = params_takes room count.0.0 [] count.0.1 params.0 tc.0.rest_fits no_params params.1 in
    let u1 = Takes-then bytes (array 3) start.0 (text uri.0.0) uri.0.1 ts tu.0 in
    let i1 = Takes-then bytes (array 3 ++ text uri.0.0) uri.0.1 (boolean implicit.0.0) implicit.0.1 u1 ti in
    let c1 = Takes-then bytes (array 3 ++ text uri.0.0 ++ boolean implicit.0.0) implicit.0.1 (array count.0.0) count.0.1 i1 tc.0 in
    let p1 = Takes-then bytes (array 3 ++ text uri.0.0 ++ boolean implicit.0.0 ++ array count.0.0) count.0.1 (flat_map param tp.params) params.0.1 c1 tp.taken in
    let same : params.0.0 ≡ tp.params = tp.made_is in
    let counted = subst (λ (k : ℕ). Takes bytes (array 3 ++ text uri.0.0 ++ boolean implicit.0.0 ++ array k ++ flat_map param tp.params) params.0.1) (sym tp.count) p1 in
    let few : length tp.params < 2 ^ 64 = omega (arith, tc.1, tp.count) in
    let named = subst (λ (ps : List Param). Takes bytes (array 3 ++ text uri.0.0 ++ boolean implicit.0.0 ++ array (length ps) ++ flat_map param ps) params.0.1 × (length ps < 2 ^ 64) × AllByRecursion IsParam ps) (sym same) (counted, few, tp.each) in
    subst (λ (y : Link × List ℕ). Takes bytes (link y.0) y.1 × IsLink y.0) (ok_is {A = Link × List ℕ} (record { uri = uri.0.0; params = params.0.0; implicit = implicit.0.0 }, params.0.1) x params.2)
    (named.0, record { uri = tu.1; count = named.1; params = named.2; ordered = tp.ordered })

abbrev OptionalFound : List ℕ → Option Link × List ℕ → Type 0
OptionalFound bytes x = Takes bytes (optional_link x.0) x.1 × IsOptionalLink x.0

optional_link_by_takes : (room : ℕ) (k : Kind) (bytes : List ℕ) (x : Option Link × List ℕ) → IsBytes bytes → optional_link_by room k bytes ≡ Ok x → OptionalFound bytes x
optional_link_by_takes room kinds.Null bytes x fits e =
    let a = bind_ok (null_at room bytes) _ x e in
    subst (λ (y : Option Link × List ℕ). OptionalFound bytes y) (ok_is (None, a.0) x a.2) (null_takes room bytes a.0 fits a.1, tt)
optional_link_by_takes room kinds.Array bytes x fits e =
    let a = mapped (link_at room bytes) Some x e in
    subst (λ (y : Option Link × List ℕ). OptionalFound bytes y) a.2 (link_takes room bytes a.0 fits a.1)
optional_link_by_takes room kinds.Unsigned bytes x fits e = never (stopped faults.Type room bytes) x e
optional_link_by_takes room kinds.Negative bytes x fits e = never (stopped faults.Type room bytes) x e
optional_link_by_takes room kinds.Text bytes x fits e = never (stopped faults.Type room bytes) x e
optional_link_by_takes room kinds.Boolean bytes x fits e = never (stopped faults.Type room bytes) x e
optional_link_by_takes room kinds.Other bytes x fits e = never (stopped faults.Type room bytes) x e

optional_link_takes : (room : ℕ) (bytes : List ℕ) (x : Option Link × List ℕ) → IsBytes bytes → optional_link_at room bytes ≡ Ok x → OptionalFound bytes x
unfolding optional_link_at
optional_link_takes room bytes x fits e =
    let a = bind_ok (kind_at room bytes) _ x e in
    optional_link_by_takes room a.0 bytes x fits a.2

-- ---- attributes

abbrev attributed : ℕ → ColorAttribute → ColorAttribute → ColorAttribute → Option Link → Attributes
attributed n f b u l = record (styled n) { foreground = f; background = b; underline_color = u; hyperlink = l }

attributes_takes : (room : ℕ) (bytes : List ℕ) (x : Attributes × List ℕ) → IsBytes bytes → attributes_at room bytes ≡ Ok x → Takes bytes (attributes x.0) x.1 × AreAttributes x.0
unfolding attributes_at attributes
attributes_takes room bytes x fits e =
    let start = bind_ok (array_of_at room 5 bytes) _ x e in
    let n = bind_ok (style_item_at room start.0) _ x start.2 in
    let f = bind_ok (color_item_at room n.0.1) _ x n.2 in
    let b = bind_ok (color_item_at room f.0.1) _ x f.2 in
    let u = bind_ok (color_item_at room b.0.1) _ x b.2 in
    let l = bind_ok (optional_link_at room u.0.1) _ x u.2 in
    let ts = array_of_takes room 5 bytes start.0 fits start.1 in
    let tn = style_takes room start.0 n.0 ts.rest_fits n.1 in
    let tf = color_takes room n.0.1 f.0 tn.0.rest_fits f.1 in
    let tb = color_takes room f.0.1 b.0 tf.0.rest_fits b.1 in
    let tu = color_takes room b.0.1 u.0 tb.0.rest_fits u.1 in
    let tl = optional_link_takes room u.0.1 l.0 tu.0.rest_fits l.1 in
    let n1 = Takes-then bytes (array 5) start.0 (unsigned n.0.0) n.0.1 ts tn.0 in
    let f1 = Takes-then bytes (array 5 ++ unsigned n.0.0) n.0.1 (color f.0.0) f.0.1 n1 tf.0 in
    let b1 = Takes-then bytes (array 5 ++ unsigned n.0.0 ++ color f.0.0) f.0.1 (color b.0.0) b.0.1 f1 tb.0 in
    let u1 = Takes-then bytes (array 5 ++ unsigned n.0.0 ++ color f.0.0 ++ color b.0.0) b.0.1 (color u.0.0) u.0.1 b1 tu.0 in
    let l1 = Takes-then bytes (array 5 ++ unsigned n.0.0 ++ color f.0.0 ++ color b.0.0 ++ color u.0.0) u.0.1 (optional_link l.0.0) l.0.1 u1 tl.0 in
    let named = subst (λ (k : ℕ). Takes bytes (array 5 ++ unsigned k ++ color f.0.0 ++ color b.0.0 ++ color u.0.0 ++ optional_link l.0.0) l.0.1) (sym tn.1) l1 in
    subst (λ (y : Attributes × List ℕ). Takes bytes (attributes y.0) y.1 × AreAttributes y.0) (ok_is {A = Attributes × List ℕ} (attributed n.0.0 f.0.0 b.0.0 u.0.0 l.0.0, l.0.1) x l.2)
    (named, record { foreground = tf.1; background = tb.1; underline = tu.1; link = tl.1 })

-- ---- changes of one attribute

abbrev ValueFound : ℕ → List ℕ → AttributeChangeValue × List ℕ → Type 0
ValueFound kind bytes x = Takes bytes (attribute_value x.0) x.1 × (attribute_kind x.0 ≡ kind) × IsAttributeChange x.0

-- a value of a kind, from the value that it is made of
value_found : {V : Type 0} (kind n : ℕ) (bytes : List ℕ) (r : Result (V × List ℕ) Stop) (f : V → AttributeChangeValue) (x : AttributeChangeValue × List ℕ) → kind ≡ n → (r >>= λ v. ok (f v.0) v.1) ≡ Ok x → ((v : V × List ℕ) → r ≡ Ok v → ValueFound n bytes (f v.0, v.1)) → ValueFound kind bytes x
value_found kind n bytes r f x is read law =
    let a = mapped r f x read in
    subst (λ (y : AttributeChangeValue × List ℕ). ValueFound kind bytes y) a.2 (subst (λ (k : ℕ). ValueFound k bytes (f a.0.0, a.0.1)) (sym is) (law a.0 a.1))

number_found : (room : ℕ) (limit : ℕ) (number : ℕ → ℕ) (bytes : List ℕ) (v : ℕ × List ℕ) → IsBytes bytes → ((n : ℕ) → n < limit → number n ≡ n) → below_at room limit bytes ≡ Ok v → Takes bytes (unsigned (number v.0)) v.1
number_found room limit number bytes v fits back e =
    let t = number_takes room limit bytes v fits e in
    subst (λ (k : ℕ). Takes bytes (unsigned k) v.1) (sym (back v.0 t.1)) t.0

attribute_value_takes : (room : ℕ) (kind : ℕ) (bytes : List ℕ) (x : AttributeChangeValue × List ℕ) → IsBytes bytes → attribute_change_by room kind bytes ≡ Ok x → ValueFound kind bytes x
unfolding attribute_value
attribute_value_takes room kind bytes x fits e =
    picks kind 0 _ _ x e
    (λ is read. value_found kind 0 bytes (below_at room 3 bytes) (λ v. attribute.Intensity (intensity_at v)) x is read (λ v found. (number_found room 3 (λ n. intensity_number (intensity_at n)) bytes v fits intensity-found found, refl, tt)))
    (λ more. picks kind 1 _ _ x more
    (λ is read. value_found kind 1 bytes (below_at room 6 bytes) (λ v. attribute.Underline (underline_at v)) x is read (λ v found. (number_found room 6 (λ n. underline_number (underline_at n)) bytes v fits underline-found found, refl, tt)))
    (λ more. picks kind 2 _ _ x more
    (λ is read. value_found kind 2 bytes (boolean_at room bytes) attribute.Italic x is read (λ v found. (boolean_takes room bytes v fits found, refl, tt)))
    (λ more. picks kind 3 _ _ x more
    (λ is read. value_found kind 3 bytes (below_at room 3 bytes) (λ v. attribute.Blink (blink_at v)) x is read (λ v found. (number_found room 3 (λ n. blink_number (blink_at n)) bytes v fits blink-found found, refl, tt)))
    (λ more. picks kind 4 _ _ x more
    (λ is read. value_found kind 4 bytes (boolean_at room bytes) attribute.Reverse x is read (λ v found. (boolean_takes room bytes v fits found, refl, tt)))
    (λ more. picks kind 5 _ _ x more
    (λ is read. value_found kind 5 bytes (boolean_at room bytes) attribute.StrikeThrough x is read (λ v found. (boolean_takes room bytes v fits found, refl, tt)))
    (λ more. picks kind 6 _ _ x more
    (λ is read. value_found kind 6 bytes (boolean_at room bytes) attribute.Invisible x is read (λ v found. (boolean_takes room bytes v fits found, refl, tt)))
    (λ more. picks kind 7 _ _ x more
    (λ is read. value_found kind 7 bytes (color_item_at room bytes) attribute.Foreground x is read (λ v found. let t = color_takes room bytes v fits found in (t.0, refl, t.1)))
    (λ more. picks kind 8 _ _ x more
    (λ is read. value_found kind 8 bytes (color_item_at room bytes) attribute.Background x is read (λ v found. let t = color_takes room bytes v fits found in (t.0, refl, t.1)))
    (λ more. picks kind 9 _ _ x more
    (λ is read. value_found kind 9 bytes (optional_link_at room bytes) attribute.Hyperlink x is read (λ v found. let t = optional_link_takes room bytes v fits found in (t.0, refl, t.1)))
    (λ none. never (stopped faults.Type room bytes) x none))))))))))

attribute_change_takes : (room : ℕ) (bytes : List ℕ) (x : AttributeChangeValue × List ℕ) → IsBytes bytes → attribute_change_at room bytes ≡ Ok x → Takes bytes (attribute_change x.0) x.1 × IsAttributeChange x.0
unfolding attribute_change_at
attribute_change_takes room bytes x fits e =
    let start = bind_ok (array_of_at room 2 bytes) _ x e in
    let kind = bind_ok (which_at room 10 start.0) _ x start.2 in
    let ts = array_of_takes room 2 bytes start.0 fits start.1 in
    let tk = which_takes room 10 start.0 kind.0 ts.rest_fits kind.1 in
    let tv = attribute_value_takes room kind.0.0 kind.0.1 x tk.0.rest_fits kind.2 in
    let k1 = Takes-then bytes (array 2) start.0 (unsigned kind.0.0) kind.0.1 ts tk.0 in
    let all = Takes-then bytes (array 2 ++ unsigned kind.0.0) kind.0.1 (attribute_value x.0) x.1 k1 tv.0 in
    (subst (λ (k : ℕ). Takes bytes (array 2 ++ unsigned k ++ attribute_value x.0) x.1) (sym tv.1) all, tv.2)

-- ---- positions and scrolls

position_takes : (room : ℕ) (bytes : List ℕ) (x : Position × List ℕ) → IsBytes bytes → position_at room bytes ≡ Ok x → Takes bytes (position x.0) x.1 × IsPosition x.0
unfolding position_at position
position_takes room bytes x fits e =
    let start = bind_ok (array_of_at room 2 bytes) _ x e in
    let kind = bind_ok (which_at room 3 start.0) _ x start.2 in
    let ts = array_of_takes room 2 bytes start.0 fits start.1 in
    let tk = which_takes room 3 start.0 kind.0 ts.rest_fits kind.1 in
    let k1 = Takes-then bytes (array 2) start.0 (unsigned kind.0.0) kind.0.1 ts tk.0 in
    let P = λ (y : Position × List ℕ). Takes bytes (position y.0) y.1 × IsPosition y.0 in
    picks kind.0.0 0 _ _ x kind.2
    (λ is read. let v = mapped (signed_at room kind.0.1) Relative x read in
    let t = signed_takes room kind.0.1 v.0 tk.0.rest_fits v.1 in
    let named = subst (λ (k : ℕ). Takes bytes (array 2 ++ unsigned k) kind.0.1) is k1 in
    subst P v.2 (Takes-then bytes (array 2 ++ unsigned 0) kind.0.1 (signed v.0.0) v.0.1 named t.0, t.1))
    (λ more. picks kind.0.0 1 _ _ x more
    (λ is read. let v = mapped (unsigned_at room kind.0.1) Absolute x read in
    let t = unsigned_takes room kind.0.1 v.0 tk.0.rest_fits v.1 in
    let named = subst (λ (k : ℕ). Takes bytes (array 2 ++ unsigned k) kind.0.1) is k1 in
    subst P v.2 (Takes-then bytes (array 2 ++ unsigned 1) kind.0.1 (unsigned v.0.0) v.0.1 named t.0, t.1))
    (λ more. picks kind.0.0 2 _ _ x more
    (λ is read. let v = mapped (unsigned_at room kind.0.1) EndRelative x read in
    let t = unsigned_takes room kind.0.1 v.0 tk.0.rest_fits v.1 in
    let named = subst (λ (k : ℕ). Takes bytes (array 2 ++ unsigned k) kind.0.1) is k1 in
    subst P v.2 (Takes-then bytes (array 2 ++ unsigned 2) kind.0.1 (unsigned v.0.0) v.0.1 named t.0, t.1))
    (λ none. never (stopped faults.Type room kind.0.1) x none)))

-- how many items a change of this kind has, where its array has `count`
abbrev items_of : ℕ → ℕ → ℕ
items_of kind count = cond (eqb kind 2) (cond (eqb count 3) 3 2) (change_count kind)

not_same : (a b : List ℕ) → ok {E = Stop} false a ≡ Ok (true, b) → ⊥
not_same a b e =
    let pair : (false, a) ≡ (true, b) = ok_is {A = Bool × List ℕ} {E = Stop} (false, a) (true, b) e in
    let bad : false ≡ true = ap (λ (y : Bool × List ℕ). y.0) pair in
    cc

-- the values of a change of this kind, whose array has `count` items
record ValuesFound (measure : List ℕ → ℕ) (rows : Option ℕ) (count kind : ℕ) (bytes : List ℕ) (x : ChangeValue × List ℕ) : Type 0 where
  pub taken : Takes bytes (change_values measure x.0) x.1
  pub kind_is : change_kind x.0 ≡ kind
  pub form : IsChange measure x.0
  pub on : FitsRows rows x.0
  pub items : item_count measure x.0 ≡ items_of kind count

place_takes : (measure : List ℕ → ℕ) (room : ℕ) (rows : Option ℕ) (count : ℕ) (bytes : List ℕ) (x : ChangeValue × List ℕ) → IsBytes bytes → place_at room bytes ≡ Ok x → ValuesFound measure rows count 6 bytes x
unfolding place_at change_values
place_takes measure room rows count bytes x fits e =
    let a = bind_ok (position_at room bytes) _ x e in
    let b = bind_ok (position_at room a.0.1) _ x a.2 in
    let ta = position_takes room bytes a.0 fits a.1 in
    let tb = position_takes room a.0.1 b.0 ta.0.rest_fits b.1 in
    let all = Takes-then bytes (position a.0.0) a.0.1 (position b.0.0) b.0.1 ta.0 tb.0 in
    subst (λ (y : ChangeValue × List ℕ). ValuesFound measure rows count 6 bytes y) (ok_is (changed.CursorPosition a.0.0 b.0.0, b.0.1) x b.2) (record { taken = all; kind_is = refl; form = (ta.1, tb.1); on = tt; items = refl })

record ScrollFound (rows : Option ℕ) (make : ℕ → ℕ → ℕ → ChangeValue) (bytes : List ℕ) (x : ChangeValue × List ℕ) : Type 0 where
  pub first : ℕ
  pub size : ℕ
  pub count : ℕ
  pub made : x.0 ≡ make first size count
  pub taken : Takes bytes (scroll first size count) x.1
  pub form : IsScroll first size count
  pub on : is_on rows first size ≡ true

size_takes : (room : ℕ) (rows : Option ℕ) (first : ℕ) (bytes : List ℕ) (x : ℕ × List ℕ) → IsBytes bytes → region_size_at room rows first bytes ≡ Ok x → Takes bytes (unsigned x.0) x.1 × (x.0 < 2 ^ 64) × (is_on rows first x.0 ≡ true)
unfolding region_size_at
size_takes room rows first bytes x fits e = kept_takes room (λ n. is_on rows first n) faults.Region bytes x fits e

scroll_takes : (room : ℕ) (rows : Option ℕ) (make : ℕ → ℕ → ℕ → ChangeValue) (bytes : List ℕ) (x : ChangeValue × List ℕ) → IsBytes bytes → scroll_at room rows make bytes ≡ Ok x → ScrollFound rows make bytes x
unfolding scroll_at scroll
scroll_takes room rows make bytes x fits e =
    let a = bind_ok (unsigned_at room bytes) _ x e in
    let b = bind_ok (region_size_at room rows a.0.0 a.0.1) _ x a.2 in
    let c = bind_ok (unsigned_at room b.0.1) _ x b.2 in
    let ta = unsigned_takes room bytes a.0 fits a.1 in
    let tb = size_takes room rows a.0.0 a.0.1 b.0 ta.0.rest_fits b.1 in
    let tc = unsigned_takes room b.0.1 c.0 tb.0.rest_fits c.1 in
    let b1 = Takes-then bytes (unsigned a.0.0) a.0.1 (unsigned b.0.0) b.0.1 ta.0 tb.0 in
    let all = Takes-then bytes (unsigned a.0.0 ++ unsigned b.0.0) b.0.1 (unsigned c.0.0) c.0.1 b1 tc.0 in
    subst (λ (y : ChangeValue × List ℕ). ScrollFound rows make bytes y) (ok_is (make a.0.0 b.0.0 c.0.0, c.0.1) x c.2)
    (record { first = a.0.0; size = b.0.0; count = c.0.0; made = refl; taken = all; form = (ta.1, tb.1, tc.1); on = tb.2 })

up_takes : (measure : List ℕ → ℕ) (room : ℕ) (rows : Option ℕ) (count : ℕ) (bytes : List ℕ) (x : ChangeValue × List ℕ) → IsBytes bytes → scroll_at room rows changed.ScrollRegionUp bytes ≡ Ok x → ValuesFound measure rows count 10 bytes x
unfolding change_values
up_takes measure room rows count bytes x fits e =
    let t = scroll_takes room rows changed.ScrollRegionUp bytes x fits e in
    subst (λ (y : ChangeValue). ValuesFound measure rows count 10 bytes (y, x.1)) (sym t.made) (record { taken = t.taken; kind_is = refl; form = t.form; on = t.on; items = refl })

down_takes : (measure : List ℕ → ℕ) (room : ℕ) (rows : Option ℕ) (count : ℕ) (bytes : List ℕ) (x : ChangeValue × List ℕ) → IsBytes bytes → scroll_at room rows changed.ScrollRegionDown bytes ≡ Ok x → ValuesFound measure rows count 11 bytes x
unfolding change_values
down_takes measure room rows count bytes x fits e =
    let t = scroll_takes room rows changed.ScrollRegionDown bytes x fits e in
    subst (λ (y : ChangeValue). ValuesFound measure rows count 11 bytes (y, x.1)) (sym t.made) (record { taken = t.taken; kind_is = refl; form = t.form; on = t.on; items = refl })

-- ---- texts and their pieces

rest_takes : (room : ℕ) (r : Run) (bytes rest : List ℕ) → IsBytes bytes → is_rest_at room r bytes ≡ Ok (true, rest) → Takes bytes (unsigned r.characters ++ unsigned r.columns) rest
unfolding is_rest_at
rest_takes room r bytes rest fits e =
    let size = bind_ok (unsigned_at room bytes) _ (true, rest) e in
    let ts = unsigned_takes room bytes size.0 fits size.1 in
    elim (chosen (eqb size.0.0 r.characters) (unsigned_at room size.0.1 >>= λ columns. ok (eqb columns.0 r.columns) columns.1) (ok false size.0.1) (Ok (true, rest)) size.2) [
      | inl p ↦
          let columns = bind_ok (unsigned_at room size.0.1) _ (true, rest) p.1 in
          let tc = unsigned_takes room size.0.1 columns.0 ts.0.rest_fits columns.1 in
          let both_are : (eqb columns.0.0 r.columns, columns.0.1) ≡ (true, rest) = ok_is {A = Bool × List ℕ} {E = Stop} (eqb columns.0.0 r.columns, columns.0.1) (true, rest) columns.2 in
          let is : eqb columns.0.0 r.columns ≡ true = ap (λ (y : Bool × List ℕ). y.0) both_are in
          let ends : columns.0.1 ≡ rest = ap (λ (y : Bool × List ℕ). y.1) both_are in
          let all = Takes-then bytes (unsigned size.0.0) size.0.1 (unsigned columns.0.0) columns.0.1 ts.0 tc.0 in
          let one = subst (λ (n : ℕ). Takes bytes (unsigned n ++ unsigned columns.0.0) columns.0.1) (eqb-true size.0.0 r.characters p.0) all in
          let two = subst (λ (n : ℕ). Takes bytes (unsigned r.characters ++ unsigned n) columns.0.1) (eqb-true columns.0.0 r.columns is) one in
          subst (λ (y : List ℕ). Takes bytes (unsigned r.characters ++ unsigned r.columns) y) ends two
      | inr p ↦ absurd (not_same size.0.1 rest p.1)
    ]

run_takes : (room : ℕ) (r : Run) (bytes rest : List ℕ) → IsBytes bytes → is_run_at room r bytes ≡ Ok (true, rest) → Takes bytes (run r) rest
unfolding is_run_at run
run_takes room r bytes rest fits e =
    let count = bind_ok (unsigned_at room bytes) _ (true, rest) e in
    let tc = unsigned_takes room bytes count.0 fits count.1 in
    elim (chosen (eqb count.0.0 r.count) (is_rest_at room r count.0.1) (ok false count.0.1) (Ok (true, rest)) count.2) [
      | inl p ↦
          let tr = rest_takes room r count.0.1 rest tc.0.rest_fits p.1 in
          let all = Takes-then bytes (unsigned count.0.0) count.0.1 (unsigned r.characters ++ unsigned r.columns) rest tc.0 tr in
          let named = subst (λ (n : ℕ). Takes bytes (unsigned n ++ (unsigned r.characters ++ unsigned r.columns)) rest) (eqb-true count.0.0 r.count p.0) all in
          subst (λ (y : List ℕ). Takes bytes y rest) (sym (append_assoc (unsigned r.count) (unsigned r.characters) (unsigned r.columns))) named
      | inr p ↦ absurd (not_same count.0.1 rest p.1)
    ]

runs_take : (room : ℕ) (rs : List Run) (bytes rest : List ℕ) → IsBytes bytes → are_at room rs bytes ≡ Ok (true, rest) → Takes bytes (flat_map run rs) rest
unfolding are_at
runs_take room [] bytes rest fits e =
    let same : (true, bytes) ≡ (true, rest) = ok_is {A = Bool × List ℕ} {E = Stop} (true, bytes) (true, rest) e in
    record { parts = ap (λ (y : Bool × List ℕ). y.1) same; rest_fits = subst (λ (y : List ℕ). IsBytes y) (ap (λ (y : Bool × List ℕ). y.1) same) fits }
runs_take room (r ∷ rs) bytes rest fits e =
    let one = bind_ok (is_run_at room r bytes) _ (true, rest) e in
    elim (chosen one.0.0 (are_at room rs one.0.1) (ok false one.0.1) (Ok (true, rest)) one.2) [
      | inl p ↦
          let named : is_run_at room r bytes ≡ Ok (true, one.0.1) = one.1 ∙ ap (λ (b : Bool). ok {E = Stop} b one.0.1) p.0 in
          let t = run_takes room r bytes one.0.1 fits named in
          let more = runs_take room rs one.0.1 rest t.rest_fits p.1 in
          subst (λ (y : List ℕ). Takes bytes y rest) (sym (flat_map-cons run r rs)) (Takes-then bytes (run r) one.0.1 (flat_map run rs) rest t more)
      | inr p ↦ absurd (not_same one.0.1 rest p.1)
    ]

same_takes : (room : ℕ) (rs : List Run) (bytes rest : List ℕ) → IsBytes bytes → same_at room rs bytes ≡ Ok (true, rest) → Takes bytes (pieces rs) rest × (3 * length rs < 2 ^ 64)
unfolding same_at pieces
same_takes room rs bytes rest fits e =
    let n = bind_ok (array_at room bytes) _ (true, rest) e in
    let tn = array_takes room bytes n.0 fits n.1 in
    elim (chosen (eqb n.0.0 (3 * length rs)) (list_at room bytes >>= λ m. are_at room rs m.1) (ok false n.0.1) (Ok (true, rest)) n.2) [
      | inl p ↦
          let m = bind_ok (list_at room bytes) _ (true, rest) p.1 in
          let is : n.0.0 ≡ 3 * length rs = eqb-true n.0.0 (3 * length rs) p.0 in
          let again : m.0 ≡ n.0 = list_is_array room bytes m.0 n.0 m.1 n.1 in
          let after : are_at room rs n.0.1 ≡ Ok (true, rest) = sym (ap (λ (y : ℕ × List ℕ). are_at room rs y.1) again) ∙ m.2 in
          let more = runs_take room rs n.0.1 rest tn.0.rest_fits after in
          let all = Takes-then bytes (array n.0.0) n.0.1 (flat_map run rs) rest tn.0 more in
          let few : 3 * length rs < 2 ^ 64 = omega (arith, tn.1, is) in
          (subst (λ (k : ℕ). Takes bytes (array k ++ flat_map run rs) rest) is all, few)
      | inr p ↦ absurd (not_same n.0.1 rest p.1)
    ]

abbrev three_or_two : Bool → ℕ
three_or_two b = cond b 3 2

-- the pieces of a text that is printed, whose array has `count` items
record PiecesFound (count : ℕ) (rs : List Run) (bytes rest : List ℕ) : Type 0 where
  pub taken : Takes bytes (cond (needs_pieces rs) (pieces rs) []) rest
  pub items : ◌≡◌ {A = ℕ} (cond (needs_pieces rs) 3 2) (cond (eqb count 3) 3 2)
  pub counted : needs_pieces rs ≡ true → 3 * length rs < 2 ^ 64

others_never : {P : Type 0} (room place : ℕ) (t bytes rest : List ℕ) → others_at room place t bytes ≡ Ok rest → P
unfolding others_at
others_never room place t bytes rest e =
    let bad = bind_ok (cut_at room t bytes) _ rest e in
    never (record { fault = faults.Measure; left = place }) rest bad.2

listed_takes : (room place : ℕ) (t : List ℕ) (rs : List Run) (bytes rest : List ℕ) → IsBytes bytes → pieces_at room place t rs bytes ≡ Ok rest → Takes bytes (pieces rs) rest × (needs_pieces rs ≡ true) × (3 * length rs < 2 ^ 64)
unfolding pieces_at
listed_takes room place t rs bytes rest fits e =
    elim (chosen (needs_pieces rs) (same_at room rs bytes >>= λ same. cond same.0 (Ok same.1) (others_at room place t bytes)) (others_at room place t bytes) (Ok rest) e) [
      | inl p ↦
          let same = bind_ok (same_at room rs bytes) _ rest p.1 in
          elim (chosen same.0.0 (Ok same.0.1) (others_at room place t bytes) (Ok rest) same.2) [
            | inl q ↦
                let ends : same.0.1 ≡ rest = ok_is {A = List ℕ} {E = Stop} same.0.1 rest q.1 in
                let named : same_at room rs bytes ≡ Ok (true, rest) = same.1 ∙ ap (λ (b : Bool). ok {E = Stop} b same.0.1) q.0 ∙ ap (λ (y : List ℕ). ok {E = Stop} true y) ends in
                let t = same_takes room rs bytes rest fits named in
                (t.0, p.0, t.1)
            | inr q ↦ others_never room place t bytes rest q.1
          ]
      | inr p ↦ others_never room place t bytes rest p.1
    ]

pieces_take : (room place count : ℕ) (t : List ℕ) (rs : List Run) (bytes rest : List ℕ) → IsBytes bytes → pieces_by room place count t rs bytes ≡ Ok rest → PiecesFound count rs bytes rest
unfolding pieces_by
pieces_take room place count t rs bytes rest fits e =
    elim (chosen (eqb count 3) (pieces_at room place t rs bytes) (cond (needs_pieces rs) (Err (record { fault = faults.Measure; left = place })) (Ok bytes)) (Ok rest) e) [
      | inl p ↦
          let f = listed_takes room place t rs bytes rest fits p.1 in
          record { taken = subst (λ (b : Bool). Takes bytes (cond b (pieces rs) []) rest) (sym f.1) f.0; items = ap (λ (b : Bool). three_or_two b) (f.1 ∙ sym p.0); counted = λ is. f.2 }
      | inr p ↦
          let g = guard_ok (needs_pieces rs) (record { fault = faults.Measure; left = place }) bytes rest p.1 in
          let none : Takes bytes [] rest = record { parts = g.1; rest_fits = subst (λ (y : List ℕ). IsBytes y) g.1 fits } in
          record { taken = subst (λ (b : Bool). Takes bytes (cond b (pieces rs) []) rest) (sym g.0) none; items = ap (λ (b : Bool). three_or_two b) (g.0 ∙ sym p.0); counted = λ is. absurd (let bad : true ≡ false = sym is ∙ g.0 in cc) }
    ]

printed_takes : (measure : List ℕ → ℕ) (room : ℕ) (rows : Option ℕ) (count : ℕ) (bytes : List ℕ) (x : ChangeValue × List ℕ) → IsBytes bytes → printed_at measure room count bytes ≡ Ok x → ValuesFound measure rows count 2 bytes x
unfolding printed_at change_values
printed_takes measure room rows count bytes x fits e =
    let place : ℕ = allowed room bytes in
    let t = bind_ok (text_at room bytes) _ x e in
    let rest = bind_ok (pieces_by room (allowed room bytes) count t.0.0 (runs measure t.0.0) t.0.1) _ x t.2 in
    let tt_ = text_takes room bytes t.0 fits t.1 in
    let tp = pieces_take room (allowed room bytes) count t.0.0 (runs measure t.0.0) t.0.1 rest.0 tt_.0.rest_fits rest.1 in
    let all = Takes-then bytes (text t.0.0) t.0.1 (cond (needs_pieces (runs measure t.0.0)) (pieces (runs measure t.0.0)) []) rest.0 tt_.0 tp.taken in
    subst (λ (y : ChangeValue × List ℕ). ValuesFound measure rows count 2 bytes y) (ok_is (changed.Text t.0.0, rest.0) x rest.2)
    (record { taken = all; kind_is = refl; form = record { text = tt_.1; pieces = tp.counted }; on = tt; items = tp.items })

-- ---- numbers of variants

shape-found : (n : ℕ) → n < 7 → shape_number (shape_at n) ≡ n
shape-found zero lt = refl
shape-found (suc zero) lt = refl
shape-found (suc (suc zero)) lt = refl
shape-found (suc (suc (suc zero))) lt = refl
shape-found (suc (suc (suc (suc zero)))) lt = refl
shape-found (suc (suc (suc (suc (suc zero))))) lt = refl
shape-found (suc (suc (suc (suc (suc (suc zero)))))) lt = refl
shape-found (suc (suc (suc (suc (suc (suc (suc n))))))) lt = absurd (omega (arith, lt))

line-found : (n : ℕ) → n < 4 → line_number (line_at n) ≡ n
line-found zero lt = refl
line-found (suc zero) lt = refl
line-found (suc (suc zero)) lt = refl
line-found (suc (suc (suc zero))) lt = refl
line-found (suc (suc (suc (suc n)))) lt = absurd (omega (arith, lt))

visibility-found : (b : Bool) → is_visible (visibility_of b) ≡ b
visibility-found true = refl
visibility-found false = refl

abbrev Read : Type 0
Read = Result (ChangeValue × List ℕ) Stop

abbrev or_13 : (List ℕ → ℕ) → ℕ → Option ℕ → ℕ → ℕ → List ℕ → Read
or_13 measure room rows count kind bytes = cond (eqb kind 13) (below_at room 4 bytes >>= λ v. ok (changed.LineAttribute (line_at v.0)) v.1) (refused faults.Type room bytes)

abbrev or_12 : (List ℕ → ℕ) → ℕ → Option ℕ → ℕ → ℕ → List ℕ → Read
or_12 measure room rows count kind bytes = cond (eqb kind 12) (text_at room bytes >>= λ v. ok (changed.Title v.0) v.1) (or_13 measure room rows count kind bytes)

abbrev or_11 : (List ℕ → ℕ) → ℕ → Option ℕ → ℕ → ℕ → List ℕ → Read
or_11 measure room rows count kind bytes = cond (eqb kind 11) (scroll_at room rows changed.ScrollRegionDown bytes) (or_12 measure room rows count kind bytes)

abbrev or_10 : (List ℕ → ℕ) → ℕ → Option ℕ → ℕ → ℕ → List ℕ → Read
or_10 measure room rows count kind bytes = cond (eqb kind 10) (scroll_at room rows changed.ScrollRegionUp bytes) (or_11 measure room rows count kind bytes)

abbrev or_9 : (List ℕ → ℕ) → ℕ → Option ℕ → ℕ → ℕ → List ℕ → Read
or_9 measure room rows count kind bytes = cond (eqb kind 9) (boolean_at room bytes >>= λ v. ok (changed.CursorVisibility (visibility_of v.0)) v.1) (or_10 measure room rows count kind bytes)

abbrev or_8 : (List ℕ → ℕ) → ℕ → Option ℕ → ℕ → ℕ → List ℕ → Read
or_8 measure room rows count kind bytes = cond (eqb kind 8) (below_at room 7 bytes >>= λ v. ok (changed.CursorShape (shape_at v.0)) v.1) (or_9 measure room rows count kind bytes)

abbrev or_7 : (List ℕ → ℕ) → ℕ → Option ℕ → ℕ → ℕ → List ℕ → Read
or_7 measure room rows count kind bytes = cond (eqb kind 7) (color_item_at room bytes >>= λ v. ok (changed.CursorColor v.0) v.1) (or_8 measure room rows count kind bytes)

abbrev or_6 : (List ℕ → ℕ) → ℕ → Option ℕ → ℕ → ℕ → List ℕ → Read
or_6 measure room rows count kind bytes = cond (eqb kind 6) (place_at room bytes) (or_7 measure room rows count kind bytes)

abbrev or_5 : (List ℕ → ℕ) → ℕ → Option ℕ → ℕ → ℕ → List ℕ → Read
or_5 measure room rows count kind bytes = cond (eqb kind 5) (color_item_at room bytes >>= λ v. ok (changed.ClearToEndOfScreen v.0) v.1) (or_6 measure room rows count kind bytes)

abbrev or_4 : (List ℕ → ℕ) → ℕ → Option ℕ → ℕ → ℕ → List ℕ → Read
or_4 measure room rows count kind bytes = cond (eqb kind 4) (color_item_at room bytes >>= λ v. ok (changed.ClearToEndOfLine v.0) v.1) (or_5 measure room rows count kind bytes)

abbrev or_3 : (List ℕ → ℕ) → ℕ → Option ℕ → ℕ → ℕ → List ℕ → Read
or_3 measure room rows count kind bytes = cond (eqb kind 3) (color_item_at room bytes >>= λ v. ok (changed.ClearScreen v.0) v.1) (or_4 measure room rows count kind bytes)

abbrev or_2 : (List ℕ → ℕ) → ℕ → Option ℕ → ℕ → ℕ → List ℕ → Read
or_2 measure room rows count kind bytes = cond (eqb kind 2) (printed_at measure room count bytes) (or_3 measure room rows count kind bytes)

abbrev or_1 : (List ℕ → ℕ) → ℕ → Option ℕ → ℕ → ℕ → List ℕ → Read
or_1 measure room rows count kind bytes = cond (eqb kind 1) (attributes_at room bytes >>= λ v. ok (changed.AllAttributes v.0) v.1) (or_2 measure room rows count kind bytes)

-- the values of a kind, from the value that they are made of
values_found : {V : Type 0} (measure : List ℕ → ℕ) (rows : Option ℕ) (count kind n : ℕ) (bytes : List ℕ) (r : Result (V × List ℕ) Stop) (f : V → ChangeValue) (x : ChangeValue × List ℕ) → kind ≡ n → (r >>= λ v. ok (f v.0) v.1) ≡ Ok x → ((v : V × List ℕ) → r ≡ Ok v → ValuesFound measure rows count n bytes (f v.0, v.1)) → ValuesFound measure rows count kind bytes x
values_found measure rows count kind n bytes r f x is read law =
    let a = mapped r f x read in
    subst (λ (y : ChangeValue × List ℕ). ValuesFound measure rows count kind bytes y) a.2 (subst (λ (k : ℕ). ValuesFound measure rows count k bytes (f a.0.0, a.0.1)) (sym is) (law a.0 a.1))

change_values_takes : (measure : List ℕ → ℕ) (room : ℕ) (rows : Option ℕ) (count kind : ℕ) (bytes : List ℕ) (x : ChangeValue × List ℕ) → IsBytes bytes → change_by measure room rows count kind bytes ≡ Ok x → ValuesFound measure rows count kind bytes x
unfolding change_values
change_values_takes measure room rows count kind bytes x fits e =
    picks kind 0 _ _ x e
    (λ is read. values_found measure rows count kind 0 bytes (attribute_change_at room bytes) changed.Attribute x is read (λ v found. let t = attribute_change_takes room bytes v fits found in (record { taken = t.0; kind_is = refl; form = t.1; on = tt; items = refl })))
    (λ more. picks kind 1 _ _ x more
    (λ is read. values_found measure rows count kind 1 bytes (attributes_at room bytes) changed.AllAttributes x is read (λ v found. let t = attributes_takes room bytes v fits found in (record { taken = t.0; kind_is = refl; form = t.1; on = tt; items = refl })))
    (λ more. picks kind 2 _ _ x more
    (λ is read. subst (λ (k : ℕ). ValuesFound measure rows count k bytes x) (sym is) (printed_takes measure room rows count bytes x fits read))
    (λ more. picks kind 3 _ _ x more
    (λ is read. values_found measure rows count kind 3 bytes (color_item_at room bytes) changed.ClearScreen x is read (λ v found. let t = color_takes room bytes v fits found in (record { taken = t.0; kind_is = refl; form = t.1; on = tt; items = refl })))
    (λ more. picks kind 4 _ _ x more
    (λ is read. values_found measure rows count kind 4 bytes (color_item_at room bytes) changed.ClearToEndOfLine x is read (λ v found. let t = color_takes room bytes v fits found in (record { taken = t.0; kind_is = refl; form = t.1; on = tt; items = refl })))
    (λ more. picks kind 5 _ _ x more
    (λ is read. values_found measure rows count kind 5 bytes (color_item_at room bytes) changed.ClearToEndOfScreen x is read (λ v found. let t = color_takes room bytes v fits found in (record { taken = t.0; kind_is = refl; form = t.1; on = tt; items = refl })))
    (λ more. picks kind 6 _ _ x more
    (λ is read. subst (λ (k : ℕ). ValuesFound measure rows count k bytes x) (sym is) (place_takes measure room rows count bytes x fits read))
    (λ more. picks kind 7 _ _ x more
    (λ is read. values_found measure rows count kind 7 bytes (color_item_at room bytes) changed.CursorColor x is read (λ v found. let t = color_takes room bytes v fits found in (record { taken = t.0; kind_is = refl; form = t.1; on = tt; items = refl })))
    (λ more. picks kind 8 _ _ x more
    (λ is read. values_found measure rows count kind 8 bytes (below_at room 7 bytes) (λ v. changed.CursorShape (shape_at v)) x is read (λ v found. (record { taken = (number_found room 7 (λ n. shape_number (shape_at n)) bytes v fits shape-found found); kind_is = refl; form = tt; on = tt; items = refl })))
    (λ more. picks kind 9 _ _ x more
    (λ is read. values_found measure rows count kind 9 bytes (boolean_at room bytes) (λ v. changed.CursorVisibility (visibility_of v)) x is read (λ v found. (record { taken = (subst (λ (b : Bool). Takes bytes (boolean b) v.1) (sym (visibility-found v.0)) (boolean_takes room bytes v fits found)); kind_is = refl; form = tt; on = tt; items = refl })))
    (λ more. picks kind 10 _ _ x more
    (λ is read. subst (λ (k : ℕ). ValuesFound measure rows count k bytes x) (sym is) (up_takes measure room rows count bytes x fits read))
    (λ more. picks kind 11 _ _ x more
    (λ is read. subst (λ (k : ℕ). ValuesFound measure rows count k bytes x) (sym is) (down_takes measure room rows count bytes x fits read))
    (λ more. picks kind 12 _ _ x more
    (λ is read. values_found measure rows count kind 12 bytes (text_at room bytes) changed.Title x is read (λ v found. let t = text_takes room bytes v fits found in (record { taken = t.0; kind_is = refl; form = t.1; on = tt; items = refl })))
    (λ more. picks kind 13 _ _ x more
    (λ is read. values_found measure rows count kind 13 bytes (below_at room 4 bytes) (λ v. changed.LineAttribute (line_at v)) x is read (λ v found. (record { taken = (number_found room 4 (λ n. line_number (line_at n)) bytes v fits line-found found); kind_is = refl; form = tt; on = tt; items = refl })))
    (λ none. never (stopped faults.Type room bytes) x none))))))))))))))

cond_or : (b : Bool) → (b ≡ true) ⊎ (b ≡ false)
cond_or true = inl refl
cond_or false = inr refl

-- ---- changes

-- a text has two or three items, any other kind its own count
by_count : (kind count : ℕ) (own : Bool) → eqb count (change_count kind) ≡ own → (own || (eqb kind 2 && eqb count 3)) ≡ true → items_of kind count ≡ count
by_count kind count true is e =
    let same : count ≡ change_count kind = eqb-true count (change_count kind) is in
    elim (cond_or (eqb kind 2)) [
      | inl text ↦
          let two : kind ≡ 2 = eqb-true kind 2 text in
          let n : count ≡ 2 = same ∙ ap change_count two in
          rw (text, n) refl
      | inr other ↦ rw other (sym same)
    ]
by_count kind count false is e =
    let parts = both (eqb kind 2) (eqb count 3) e in
    rw (parts.0, parts.1) (sym (eqb-true count 3 parts.1))

-- the count that was read is that of the kind
items-counted : (kind count : ℕ) → has_count kind count ≡ true → items_of kind count ≡ count
items-counted kind count e =
    let parts = both (ltb kind 14) (eqb count (change_count kind) || (eqb kind 2 && eqb count 3)) e in
    by_count kind count (eqb count (change_count kind)) refl parts.1

pub change_takes : (measure : List ℕ → ℕ) (room : ℕ) (rows : Option ℕ) (bytes : List ℕ) (x : ChangeValue × List ℕ) → IsBytes bytes → change_at measure room rows bytes ≡ Ok x → Takes bytes (change measure x.0) x.1 × IsChange measure x.0 × FitsRows rows x.0
unfolding change_at count_at change_kind_at
change_takes measure room rows bytes x fits e =
    let count = bind_ok (count_at room bytes) _ x e in
    let kind = bind_ok (change_kind_at room count.0.0 count.0.1) _ x count.2 in
    let counted = bind_ok (array_at room bytes) _ count.0 count.1 in
    let gc = guard_ended (ltb 1 counted.0.0 && ltb counted.0.0 5) (stopped faults.Type room bytes) counted.0 count.0 counted.2 in
    let tn = array_takes room bytes counted.0 fits counted.1 in
    let tc = subst (λ (y : ℕ × List ℕ). Takes bytes (array y.0) y.1) gc.1 tn.0 in
    let tk = kept_takes room (λ n. has_count n count.0.0) faults.Type count.0.1 kind.0 tc.rest_fits kind.1 in
    let tv = change_values_takes measure room rows count.0.0 kind.0.0 kind.0.1 x tk.0.rest_fits kind.2 in
    let k1 = Takes-then bytes (array count.0.0) count.0.1 (unsigned kind.0.0) kind.0.1 tc tk.0 in
    let all = Takes-then bytes (array count.0.0 ++ unsigned kind.0.0) kind.0.1 (change_values measure x.0) x.1 k1 tv.taken in
    let items : count.0.0 ≡ item_count measure x.0 = sym (tv.items ∙ items-counted kind.0.0 count.0.0 tk.2) in
    let named = subst (λ (n : ℕ). Takes bytes (array n ++ unsigned kind.0.0 ++ change_values measure x.0) x.1) items all in
    (subst (λ (k : ℕ). Takes bytes (array (item_count measure x.0) ++ unsigned k ++ change_values measure x.0) x.1) (sym tv.kind_is) named, tv.form, tv.on)
