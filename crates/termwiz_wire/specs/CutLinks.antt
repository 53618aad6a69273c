-- How a change of a link is decoded whose params are not all there.
use Rattle.std.specs.Prelude.{ℕ, ◌-◌, Bool, true, List, [], ◌∷◌, ◌++◌, map, string_bytes, Option, Some, None, IfSome, option_map, Result, nat_lt, ◌==◌, ◌≡◌, if◌then◌else◌}
use Rattle.cbor.specs.Decoding.{◌>>=◌, Stop, ok, array_of_at, boolean_at, list_at, text_at}
use Rattle.cbor.specs.declared.error.FaultKind.TheVariants as faults
use Rattle.termwiz_cell.specs.Attributes.{Attributes}
use Rattle.termwiz_cell.specs.AttributeChangeValue as attribute
use Rattle.termwiz_cell.specs.ChangeValue.{ChangeValue}
use Rattle.termwiz_cell.specs.ChangeValue as changed
use Rattle.termwiz_cell.specs.Link.{Link, param_bytes}
use Rattle.termwiz_cell.specs.LinkText.{AreInOrder}
use Rattle.termwiz_wire.specs.Cuts.{refused}
use Rattle.termwiz_wire.specs.Decoding.{ascends, change_kind_at, color_item_at, count_at, key_at, params_at, style_item_at, styled, which_at}
use Rattle.termwiz_wire.specs.declared.decode.cut_links.BegunLink.{BegunLink}

-- a change of a link as far as it is decoded: the attributes before the link, if it is one of all
-- attributes, the first params, the key of the next one, if that is there, and how many follow
-- these
pub record LinkPart : Type 0 where
  pub attributes : Option Attributes
  pub uri : List ℕ
  pub implicit : Bool
  pub params : List (List ℕ × List ℕ)
  pub key : Option (List ℕ)
  pub left : ℕ

-- the keys ascend
pub record IsLinkPart (part : LinkPart) : Type 0 where
  pub ordered : AreInOrder part.params
  pub above : IfSome part.key (λ key. ascends part.params key ≡ true)

abbrev pub part_of : BegunLink → LinkPart
part_of link =
    record {
      attributes = link.attributes;
      uri = string_bytes link.uri;
      implicit = link.implicit;
      params = map param_bytes link.params.entries;
      key = option_map string_bytes link.key;
      left = link.left;
    }

-- ---- up to the first param

-- the head of a change of one attribute that is a link
unfoldable pub link_alone_at : ℕ → List ℕ → Result (Option Attributes × List ℕ) Stop
link_alone_at room bytes = do
  start ← array_of_at room 2 bytes
  kind ← which_at room 10 start
  if kind.0 == 9 then ok None kind.1 else refused faults.Type room kind.1

-- the attributes before a link
unfoldable pub before_link_at : ℕ → List ℕ → Result (Option Attributes × List ℕ) Stop
before_link_at room bytes = do
  start ← array_of_at room 5 bytes
  n ← style_item_at room start
  f ← color_item_at room n.1
  b ← color_item_at room f.1
  u ← color_item_at room b.1
  ok
      (Some
      (record (styled n.0) { foreground = f.0; background = b.0; underline_color = u.0 }))
      u.1

-- what a change of this kind has before its link
abbrev pub before_link_by : ℕ → ℕ → List ℕ → Result (Option Attributes × List ℕ) Stop
before_link_by room kind rest =
    if kind == 0 then link_alone_at room rest
    else if kind == 1 then before_link_at room rest
    else refused faults.Type room rest

-- a link after these attributes, up to its params
unfoldable pub link_part_at : ℕ → Option Attributes → List ℕ → Result (LinkPart × List ℕ) Stop
link_part_at room attributes bytes = do
  start ← array_of_at room 3 bytes
  uri ← text_at room start
  implicit ← boolean_at room uri.1
  count ← list_at room implicit.1
  ok
      (record {
        attributes = attributes;
        uri = uri.0;
        implicit = implicit.0;
        params = [];
        key = None;
        left = count.0;
      })
      count.1

-- a change of a link, up to the params
unfoldable pub link_begun_at : ℕ → List ℕ → Result (LinkPart × List ℕ) Stop
link_begun_at room bytes = do
  count ← count_at room bytes
  kind ← change_kind_at room count.0 count.1
  before ← before_link_by room kind.0 kind.1
  link_part_at room before.0 before.1

-- ---- the params

-- the key of a param that follows these
unfoldable pub param_key_at :
    ℕ → List (List ℕ × List ℕ) → List ℕ → Result (List ℕ × List ℕ) Stop
param_key_at room made bytes = do
  start ← array_of_at room 2 bytes
  key_at room made start

-- the key of the next param, or the value of the one whose key is there
abbrev pub link_item_by :
    ℕ → LinkPart → Option (List ℕ) → List ℕ → Result (LinkPart × List ℕ) Stop
link_item_by room part None bytes =
    param_key_at room part.params bytes >>= λ key.
    ok (record part { key = Some key.0; left = part.left - 1 }) key.1
link_item_by room part (Some key) bytes =
    text_at room bytes >>= λ value.
    ok (record part { params = part.params ++ (key, value.0) ∷ []; key = None }) value.1

abbrev pub link_item_at : ℕ → LinkPart → List ℕ → Result (LinkPart × List ℕ) Stop
link_item_at room part bytes = link_item_by room part part.key bytes

-- whether there is one
abbrev pub has_item_by : Option (List ℕ) → ℕ → Bool
has_item_by None left = nat_lt 0 left
has_item_by (Some key) left = true

abbrev pub has_item : LinkPart → Bool
has_item part = has_item_by part.key part.left

-- all params
abbrev pub params_left_by :
    ℕ → LinkPart → Option (List ℕ) → List ℕ → Result (List (List ℕ × List ℕ) × List ℕ) Stop
params_left_by room part None bytes = params_at room part.params part.left bytes
params_left_by room part (Some key) bytes =
    text_at room bytes >>= λ value.
    params_at room (part.params ++ (key, value.0) ∷ []) part.left value.1

-- ---- the change

-- the change of this link after these attributes
abbrev pub link_change_by : Option Attributes → Link → ChangeValue
link_change_by None link = changed.Attribute (attribute.Hyperlink (Some link))
link_change_by (Some attributes) link =
    changed.AllAttributes (record attributes { hyperlink = Some link })

-- the change with these params
abbrev pub link_change : LinkPart → List (List ℕ × List ℕ) → ChangeValue
link_change part params =
    link_change_by part.attributes
    (record { uri = part.uri; params = params; implicit = part.implicit })

-- the change, from the next item on
abbrev pub link_rest_at : ℕ → LinkPart → List ℕ → Result (ChangeValue × List ℕ) Stop
link_rest_at room part bytes =
    params_left_by room part part.key bytes >>= λ params.
    ok (link_change part params.0) params.1
