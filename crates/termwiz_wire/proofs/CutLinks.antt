-- What is begun of a link whose params are not all there leads on to its change.
use Rattle.std.proofs.Common.{◌≡◌, ◌≢◌, ℕ, suc, ◌+◌, ◌-◌, ◌*◌, ◌^◌, ◌<◌, ◌≤◌, ◌&&◌, Bool, true, false, cond, eqb, ltb, List, [], ◌∷◌, ◌++◌, Option, Some, None, Result, Ok, Err, refl, sym, ap, subst, ◌∙◌, append_assoc, append-nil, le-leb, arith, inl, inr}
use Rattle.std.proofs.lemmas.Bool.{eqb-true, le-ltb, lt-ltb, ltb-true, ltb-false}
use Rattle.std.specs.Int.{w16, w32, w64}
use Rattle.std.specs.List.Sorted.{IsStrictlySortedBy}
use Rattle.std.specs.Prelude.{IfSome}
use Rattle.cbor.specs.declared.error.FaultKind.{FaultKind}
use Rattle.cbor.specs.declared.error.FaultKind.TheVariants.{Truncated}
use Rattle.cbor.specs.declared.error.FaultKind.TheVariants as faults
use Rattle.cbor.specs.declared.error.ReadError.{ReadError}
use Rattle.cbor.specs.declared.error.ReadError.TheVariants as read_errors
use Rattle.cbor.specs.declared.kind.Kind.TheVariants as kinds
use Rattle.cbor.specs.Decoding.{◌>>=◌, Stop, Stops, IsBytes, ok, allowed, argument_in, array_of_in, fault_of, head_in, kind_of, short_in, wide_argument_in, kind_at, unsigned_at, array_at, below_at, boolean_at, list_at, text_at, array_of_at}
use Rattle.cbor.proofs.Items.{unsigned_takes, array_takes, below_takes, boolean_takes, list_takes, text_takes, array_of_takes}
use Rattle.cbor.proofs.Steps.{Takes, bind_ok, chosen, failed, guard_ended, guard_past, ok_is, placed_ok}
use Rattle.termwiz_cell.specs.Attributes.{Attributes}
use Rattle.termwiz_cell.specs.AttributeChangeValue.{AttributeChangeValue}
use Rattle.termwiz_cell.specs.AttributeChangeValue as attribute
use Rattle.termwiz_cell.specs.ChangeValue.{ChangeValue}
use Rattle.termwiz_cell.specs.ChangeValue as changed
use Rattle.termwiz_cell.specs.Link.{Link}
use Rattle.termwiz_cell.specs.LinkPairs.{with_pair}
use Rattle.termwiz_cell.specs.LinkText.{AreInOrder}
use Rattle.termwiz_cell.specs.declared.color.ColorAttribute.{ColorAttribute}
use Rattle.termwiz_wire.specs.Answers.{next_at}
use Rattle.termwiz_wire.specs.Cuts.{refused}
use Rattle.termwiz_wire.specs.CutLinks.{IsLinkPart, LinkPart, before_link_at, before_link_by, has_item, has_item_by, link_alone_at, link_begun_at, link_change, link_change_by, link_item_at, link_item_by, link_part_at, link_rest_at, param_key_at, params_left_by}
use Rattle.termwiz_wire.specs.Decoding.{are_small, ascends, attribute_change_at, attributes_at, change_at, change_by, change_kind_at, color_item_at, count_at, has_count, key_at, link_at, optional_link_at, param_item_at, params_at, split, style_item_at, style_limit, styled, which_at}
use Rattle.termwiz_wire.specs.Encoding.{fields}
use Rattle.termwiz_wire.specs.Resuming.{HasReadOn, ReachesItem, ReadsOn, StopsTruncated}
use Rattle.termwiz_wire.specs.Work.{bears, most_work}
use Rattle.termwiz_wire.specs.declared.decode.heads.Head.{Head}
use Rattle.termwiz_wire.proofs.Found.{color_takes}
use Rattle.termwiz_wire.proofs.Loops.{params_some, params_none}
use Rattle.termwiz_wire.proofs.Params.{order-push, put-last}
use Rattle.termwiz_wire.proofs.Prefixes.{link_item_reads, still}
use Rattle.termwiz_wire.proofs.Steps.{picks, stopped}
use Rattle.termwiz_wire.proofs.Within.{if_some}

abbrev Param : Type 0
Param = List ℕ × List ℕ

-- ---- what a decoding leaves is the end of its bytes

pub record IsEnd (bytes rest : List ℕ) : Type 0 where
  pub front : List ℕ
  pub parts : bytes ≡ front ++ rest
  pub fits : IsBytes rest

pub record Ends {A : Type 0} (read : List ℕ → Result (A × List ℕ) Stop) : Type 0 where
  pub leaves : (bytes : List ℕ) (x : A × List ℕ) → IsBytes bytes → read bytes ≡ Ok x → IsEnd bytes x.1

end_of : (bytes text rest : List ℕ) → Takes bytes text rest → IsEnd bytes rest
end_of bytes text rest t = record { front = text; parts = t.parts; fits = t.rest_fits }

pub end_then : (bytes rest after : List ℕ) → IsEnd bytes rest → IsEnd rest after → IsEnd bytes after
end_then bytes rest after a b = record { front = a.front ++ b.front; parts = a.parts ∙ ap (λ (t : List ℕ). a.front ++ t) b.parts ∙ sym (append_assoc a.front b.front after); fits = b.fits }

pub then_ends : {A B : Type 0} {read : List ℕ → Result (A × List ℕ) Stop} (f : A × List ℕ → Result (B × List ℕ) Stop) → Ends read → ((a : A) → Ends (λ rest. f (a, rest))) → Ends (λ bytes. read bytes >>= f)
then_ends {read = read} f first then = record {
  leaves = λ bytes x fits e.
      let a = bind_ok (read bytes) f x e in
      let l = first.leaves bytes a.0 fits a.1 in
      end_then bytes a.0.1 x.1 l ((then a.0.0).leaves a.0.1 x l.fits a.2);
}

pub array_of_ends : {B : Type 0} (room n : ℕ) (f : List ℕ → Result (B × List ℕ) Stop) → Ends f → Ends (λ bytes. array_of_at room n bytes >>= f)
array_of_ends room n f then = record {
  leaves = λ bytes x fits e.
      let a = bind_ok (array_of_at room n bytes) f x e in
      let t = array_of_takes room n bytes a.0 fits a.1 in
      end_then bytes a.0 x.1 (end_of bytes _ a.0 t) (then.leaves a.0 x t.rest_fits a.2);
}

pub done_ends : {A : Type 0} {a : A} → Ends (λ bytes. Ok (a, bytes))
done_ends {A = A} {a = a} = record { leaves = λ bytes x fits e. subst (λ (y : A × List ℕ). IsEnd bytes y.1) (ok_is {A = A × List ℕ} (a, bytes) x e) (record { front = []; parts = refl; fits = fits }) }

pub refused_ends : {A : Type 0} (f : FaultKind) (room : ℕ) → Ends {A = A} (λ bytes. refused f room bytes)
refused_ends f room = record { leaves = λ bytes x fits e. absurd cc }

pub either_ends : {A : Type 0} (b : Bool) (f g : List ℕ → Result (A × List ℕ) Stop) → Ends f → Ends g → Ends (λ bytes. cond b (f bytes) (g bytes))
either_ends true f g x y = x
either_ends false f g x y = y

pub kept_ends : {A : Type 0} {read : List ℕ → Result (A × List ℕ) Stop} (f : FaultKind) (room : ℕ) (rule : A → Bool) → Ends read → Ends (λ bytes. read bytes >>= λ n. cond (rule n.0) (Ok n) (refused f room bytes))
kept_ends {A = A} {read = read} f room rule first = record {
  leaves = λ bytes x fits e.
      let a = bind_ok (read bytes) _ x e in
      let g = guard_ended (rule a.0.0) (stopped f room bytes) a.0 x a.2 in
      subst (λ (y : A × List ℕ). IsEnd bytes y.1) g.1 (first.leaves bytes a.0 fits a.1);
}

pub unsigned_ends : (room : ℕ) → Ends (unsigned_at room)
unsigned_ends room = record { leaves = λ bytes x fits e. end_of bytes _ x.1 (unsigned_takes room bytes x fits e).0 }

pub array_ends : (room : ℕ) → Ends (array_at room)
array_ends room = record { leaves = λ bytes x fits e. end_of bytes _ x.1 (array_takes room bytes x fits e).0 }

below_ends : (room limit : ℕ) → Ends (λ bytes. below_at room limit bytes)
below_ends room limit = record { leaves = λ bytes x fits e. end_of bytes _ x.1 (below_takes room limit bytes x fits e).0 }

boolean_ends : (room : ℕ) → Ends (boolean_at room)
boolean_ends room = record { leaves = λ bytes x fits e. end_of bytes _ x.1 (boolean_takes room bytes x fits e) }

pub list_ends : (room : ℕ) → Ends (list_at room)
list_ends room = record { leaves = λ bytes x fits e. end_of bytes _ x.1 (list_takes room bytes x fits e).0 }

pub text_ends : (room : ℕ) → Ends (text_at room)
text_ends room = record { leaves = λ bytes x fits e. end_of bytes _ x.1 (text_takes room bytes x fits e).0 }

color_ends : (room : ℕ) → Ends (color_item_at room)
color_ends room = record { leaves = λ bytes x fits e. end_of bytes _ x.1 (color_takes room bytes x fits e).0 }

which_ends : (room limit : ℕ) → Ends (λ bytes. which_at room limit bytes)
unfolding which_at
which_ends room limit = kept_ends faults.Type room (λ n. ltb n limit) (unsigned_ends room)

style_ends : (room : ℕ) → Ends (style_item_at room)
unfolding style_item_at
style_ends room = kept_ends faults.Range room (λ n. are_small (split fields n)) (below_ends room style_limit)

pub count_ends : (room : ℕ) → Ends (count_at room)
unfolding count_at
count_ends room = kept_ends faults.Type room (λ n. ltb 1 n && ltb n 5) (array_ends room)

pub change_kind_ends : (room count : ℕ) → Ends (λ bytes. change_kind_at room count bytes)
unfolding change_kind_at
change_kind_ends room count = kept_ends faults.Type room (λ kind. has_count kind count) (unsigned_ends room)

link_alone_ends : (room : ℕ) → Ends (link_alone_at room)
unfolding link_alone_at
link_alone_ends room = array_of_ends room 2 _ (then_ends _ (which_ends room 10) (λ kind. either_ends (eqb kind 9) _ _ done_ends (refused_ends faults.Type room)))

before_link_ends : (room : ℕ) → Ends (before_link_at room)
unfolding before_link_at
before_link_ends room = array_of_ends room 5 _ (then_ends _ (style_ends room) (λ n. then_ends _ (color_ends room) (λ f. then_ends _ (color_ends room) (λ b. then_ends _ (color_ends room) (λ u. done_ends)))))

before_link_by_ends : (room kind : ℕ) → Ends (λ bytes. before_link_by room kind bytes)
before_link_by_ends room kind = either_ends (eqb kind 0) _ _ (link_alone_ends room) (either_ends (eqb kind 1) _ _ (before_link_ends room) (refused_ends faults.Type room))

link_part_ends : (room : ℕ) (attributes : Option Attributes) → Ends (λ bytes. link_part_at room attributes bytes)
unfolding link_part_at
link_part_ends room attributes = array_of_ends room 3 _ (then_ends _ (text_ends room) (λ uri. then_ends _ (boolean_ends room) (λ implicit. then_ends _ (list_ends room) (λ count. done_ends))))

link_begun_ends : (room : ℕ) → Ends (link_begun_at room)
unfolding link_begun_at
link_begun_ends room = then_ends _ (count_ends room) (λ count. then_ends _ (change_kind_ends room count) (λ kind. then_ends _ (before_link_by_ends room kind) (λ attributes. link_part_ends room attributes)))

param_key_ends : (room : ℕ) (made : List Param) → Ends (λ bytes. param_key_at room made bytes)
unfolding param_key_at key_at
param_key_ends room made = array_of_ends room 2 _ (kept_ends faults.Range room (λ key. ascends made key) (text_ends room))

link_item_by_ends : (room : ℕ) (part : LinkPart) (key : Option (List ℕ)) → Ends (λ bytes. link_item_by room part key bytes)
link_item_by_ends room part None = then_ends _ (param_key_ends room part.params) (λ key. done_ends)
link_item_by_ends room part (Some key) = then_ends _ (text_ends room) (λ value. done_ends)

pub begun_end : (room : ℕ) (bytes : List ℕ) (x : LinkPart × List ℕ) → IsBytes bytes → link_begun_at room bytes ≡ Ok x → IsEnd bytes x.1
begun_end room bytes x fits e = (link_begun_ends room).leaves bytes x fits e

item_end : (room : ℕ) (part : LinkPart) (bytes : List ℕ) (x : LinkPart × List ℕ) → IsBytes bytes → link_item_at room part bytes ≡ Ok x → IsEnd bytes x.1
item_end room part bytes x fits e = (link_item_by_ends room part part.key).leaves bytes x fits e

-- ---- steps

abbrev done_at : {A : Type 0} → A → List ℕ → Result (A × List ℕ) Stop
done_at x rest = Ok (x, rest)

pub then_then : {A B C E : Type 0} (r : Result A E) (f : A → Result B E) (g : B → Result C E) → (r >>= f >>= g) ≡ (r >>= λ x. f x >>= g)
then_then (Ok x) f g = refl
then_then (Err e) f g = refl

pub same_then : {A B E : Type 0} (r : Result A E) (f g : A → Result B E) → ((x : A) → f x ≡ g x) → (r >>= f) ≡ (r >>= g)
same_then (Ok x) f g law = law x
same_then (Err e) f g law = refl

abbrev some_of : {A : Type 0} → A → Option A
some_of x = Some x

-- what is only named has no fault of its own
named_err : {A B : Type 0} (r : Result A Stop) (f : A → B) (s : Stop) → (r >>= λ x. Ok (f x)) ≡ Err s → r ≡ Err s
named_err (Ok x) f s e = absurd cc
named_err {A = A} (Err d) f s e = let same : d ≡ s = cc in ap (λ (t : Stop). failed {A = A} t) same

-- ---- the change that a link's begin leads to

-- the low bits of a head's first byte
few_info : {P : Type 0} (room i : ℕ) (bytes : List ℕ) (x : ℕ × List ℕ) → argument_in room i bytes ≡ Ok x → (i < 28 → P) → P
unfolding argument_in
few_info room i bytes x e then =
    elim (chosen (eqb i 24) (short_in room bytes) (cond (eqb i 25) (wide_argument_in room w16 (2 ^ 8) bytes) (cond (eqb i 26) (wide_argument_in room w32 (2 ^ 16) bytes) (cond (eqb i 27) (wide_argument_in room w64 (2 ^ 32) bytes) (cond (ltb i 24) (Ok (i, bytes)) (Err faults.Type))))) (Ok x) e) [
      | inl a ↦ then (omega (arith, eqb-true i 24 a.0))
      | inr a ↦ elim (chosen (eqb i 25) (wide_argument_in room w16 (2 ^ 8) bytes) (cond (eqb i 26) (wide_argument_in room w32 (2 ^ 16) bytes) (cond (eqb i 27) (wide_argument_in room w64 (2 ^ 32) bytes) (cond (ltb i 24) (Ok (i, bytes)) (Err faults.Type)))) (Ok x) a.1) [
        | inl b ↦ then (omega (arith, eqb-true i 25 b.0))
        | inr b ↦ elim (chosen (eqb i 26) (wide_argument_in room w32 (2 ^ 16) bytes) (cond (eqb i 27) (wide_argument_in room w64 (2 ^ 32) bytes) (cond (ltb i 24) (Ok (i, bytes)) (Err faults.Type))) (Ok x) b.1) [
          | inl c ↦ then (omega (arith, eqb-true i 26 c.0))
          | inr c ↦ elim (chosen (eqb i 27) (wide_argument_in room w64 (2 ^ 32) bytes) (cond (ltb i 24) (Ok (i, bytes)) (Err faults.Type)) (Ok x) c.1) [
            | inl d ↦ then (omega (arith, eqb-true i 27 d.0))
            | inr d ↦ then (omega (arith, ltb-true i 24 (guard_ended (ltb i 24) faults.Type (i, bytes) x d.1).0))
          ]
        ]
      ]
    ]

-- the first byte of an array's head
head_kind : (room b : ℕ) (bytes : List ℕ) (x : ℕ × List ℕ) → head_in room 4 (b ∷ bytes) ≡ Ok x → kind_of b ≡ kinds.Array
unfolding head_in argument_in kind_of
head_kind room b bytes x e =
    let i : ℕ = b - 128 in
    let some = guard_past (ltb b 128) faults.Type (argument_in room i bytes) x e in
    let least : 128 ≤ b = ltb-false b 128 some.0 in
    let most : b < 160 = few_info room i bytes x some.1 (λ small. omega (arith, small, least)) in
    rw (le-ltb b 32 (omega (arith, least)), le-ltb b 64 (omega (arith, least)), le-ltb b 96 (omega (arith, least)), some.0, lt-ltb b 160 most) refl

array_kind : (room n : ℕ) (bytes rest : List ℕ) → array_of_at room n bytes ≡ Ok rest → kind_at room bytes ≡ Ok kinds.Array
unfolding array_of_at array_of_in head_in kind_at
array_kind room n [] rest e = absurd cc
array_kind room n (b ∷ bytes) rest e =
    let read = placed_ok (allowed room (b ∷ bytes)) (head_in room 4 (b ∷ bytes) >>= λ x. cond (eqb x.0 n) (Ok x.1) (Err faults.Type)) rest e in
    let head = bind_ok (head_in room 4 (b ∷ bytes)) _ rest read in
    rw (head_kind room b bytes head.0 head.1) refl

abbrev link_with : LinkPart → List Param → Link
link_with part params = record { uri = part.uri; params = params; implicit = part.implicit }

abbrev params_left : ℕ → LinkPart × List ℕ → Result (List Param × List ℕ) Stop
params_left room x = params_left_by room x.0 x.0.key x.1

-- values that are named one after another
named_thrice : {A B C D : Type 0} (r : Result (A × List ℕ) Stop) (f : A → B) (g : B → C) (h : C → D) → (((r >>= λ x. ok (f x.0) x.1) >>= λ x. ok (g x.0) x.1) >>= λ x. ok (h x.0) x.1) ≡ (r >>= λ x. ok (h (g (f x.0))) x.1)
named_thrice (Ok x) f g h = refl
named_thrice (Err s) f g h = refl

named_twice : {A B C : Type 0} (r : Result (A × List ℕ) Stop) (f : A → B) (g : B → C) → ((r >>= λ x. ok (f x.0) x.1) >>= λ x. ok (g x.0) x.1) ≡ (r >>= λ x. ok (g (f x.0)) x.1)
named_twice (Ok x) f g = refl
named_twice (Err s) f g = refl

-- the link is there from its params on
record IsBegun (room : ℕ) (before : Option Attributes) (bytes : List ℕ) (x : LinkPart × List ℕ) : Type 0 where
  link : optional_link_at room bytes ≡ (params_left room x >>= λ ps. ok (some_of (link_with x.0 ps.0)) ps.1)
  attributes : x.0.attributes ≡ before

link_by : (room : ℕ) (bytes start : List ℕ) (uri : List ℕ × List ℕ) (implicit : Bool × List ℕ) (count : ℕ × List ℕ) → array_of_at room 3 bytes ≡ Ok start → text_at room start ≡ Ok uri → boolean_at room uri.1 ≡ Ok implicit → list_at room implicit.1 ≡ Ok count → optional_link_at room bytes ≡ (params_at room [] count.0 count.1 >>= λ ps. ok (some_of (record { uri = uri.0; params = ps.0; implicit = implicit.0 })) ps.1)
unfolding optional_link_at link_at
link_by room bytes start uri implicit count s u i c =
    let kind : kind_at room bytes ≡ Ok kinds.Array = array_kind room 3 bytes start s in
    let link : List Param → Link = λ ps. record { uri = uri.0; params = ps; implicit = implicit.0 } in
    let linked : link_at room bytes ≡ (params_at room [] count.0 count.1 >>= λ ps. ok (link ps.0) ps.1) = rw (s, u, i, c) refl in
    rw kind (ap (λ (r : Result (Link × List ℕ) Stop). r >>= λ l. ok (some_of l.0) l.1) linked ∙ named_twice (params_at room [] count.0 count.1) link some_of)

is_begun : (room : ℕ) (a : Option Attributes) (bytes : List ℕ) (x : LinkPart × List ℕ) → link_part_at room a bytes ≡ Ok x → IsBegun room a bytes x
unfolding link_part_at
is_begun room a bytes x e =
    let start = bind_ok (array_of_at room 3 bytes) _ x e in
    let uri = bind_ok (text_at room start.0) _ x start.2 in
    let implicit = bind_ok (boolean_at room uri.0.1) _ x uri.2 in
    let count = bind_ok (list_at room implicit.0.1) _ x implicit.2 in
    let y : LinkPart × List ℕ = (record { attributes = a; uri = uri.0.0; implicit = implicit.0.0; params = []; key = None; left = count.0.0 }, count.0.1) in
    subst (λ (z : LinkPart × List ℕ). IsBegun room a bytes z) (ok_is {A = LinkPart × List ℕ} y x count.2) (record {
      link = link_by room bytes start.0 uri.0 implicit.0 count.0 start.1 uri.1 implicit.1 count.1;
      attributes = refl;
    })

-- a change of the link alone
alone_by : (room : ℕ) (bytes start rest : List ℕ) (x : LinkPart × List ℕ) → array_of_at room 2 bytes ≡ Ok start → which_at room 10 start ≡ Ok (9, rest) → IsBegun room None rest x → (attribute_change_at room bytes >>= λ v. ok (changed.Attribute v.0) v.1) ≡ link_rest_at room x.0 x.1
unfolding attribute_change_at
alone_by room bytes start rest x s k begun =
    let one : attribute_change_at room bytes ≡ (optional_link_at room rest >>= λ v. ok (attribute.Hyperlink v.0) v.1) = rw (s, k) refl in
    let all : (attribute_change_at room bytes >>= λ v. ok (changed.Attribute v.0) v.1) ≡ (params_left room x >>= λ ps. ok (link_change_by None (link_with x.0 ps.0)) ps.1) =
    ap (λ (r : Result (AttributeChangeValue × List ℕ) Stop). r >>= λ v. ok (changed.Attribute v.0) v.1) (one ∙ ap (λ (r : Result (Option Link × List ℕ) Stop). r >>= λ v. ok (attribute.Hyperlink v.0) v.1) begun.link)
    ∙ named_thrice (params_left room x) (λ ps. some_of (link_with x.0 ps)) attribute.Hyperlink changed.Attribute in
    subst (λ (a : Option Attributes). (attribute_change_at room bytes >>= λ v. ok (changed.Attribute v.0) v.1) ≡ (params_left room x >>= λ ps. ok (link_change_by a (link_with x.0 ps.0)) ps.1)) (sym begun.attributes) all

alone_is : (room : ℕ) (bytes : List ℕ) (b : Option Attributes × List ℕ) (x : LinkPart × List ℕ) → link_alone_at room bytes ≡ Ok b → IsBegun room b.0 b.1 x → (attribute_change_at room bytes >>= λ v. ok (changed.Attribute v.0) v.1) ≡ link_rest_at room x.0 x.1
unfolding link_alone_at
alone_is room bytes b x e begun =
    let start = bind_ok (array_of_at room 2 bytes) _ b e in
    let kind = bind_ok (which_at room 10 start.0) _ b start.2 in
    let g = guard_ended {A = Option Attributes × List ℕ} (eqb kind.0.0 9) (stopped faults.Type room kind.0.1) (None, kind.0.1) b kind.2 in
    let nine : which_at room 10 start.0 ≡ Ok (9, kind.0.1) = kind.1 ∙ ap (λ (k : ℕ). done_at k kind.0.1) (eqb-true kind.0.0 9 g.0) in
    alone_by room bytes start.0 kind.0.1 x start.1 nine (subst (λ (y : Option Attributes × List ℕ). IsBegun room y.0 y.1 x) (sym g.1) begun)

-- a change of all attributes, up to the link
abbrev attributed : ℕ → ColorAttribute → ColorAttribute → ColorAttribute → Attributes
attributed n f b u = record (styled n) { foreground = f; background = b; underline_color = u }

abbrev linked_to : Attributes → Option Link → Attributes
linked_to a link = record a { hyperlink = link }

before_by : (room : ℕ) (bytes start : List ℕ) (n : ℕ × List ℕ) (f b u : ColorAttribute × List ℕ) (x : LinkPart × List ℕ) → array_of_at room 5 bytes ≡ Ok start → style_item_at room start ≡ Ok n → color_item_at room n.1 ≡ Ok f → color_item_at room f.1 ≡ Ok b → color_item_at room b.1 ≡ Ok u → IsBegun room (some_of (attributed n.0 f.0 b.0 u.0)) u.1 x → (attributes_at room bytes >>= λ v. ok (changed.AllAttributes v.0) v.1) ≡ link_rest_at room x.0 x.1
unfolding attributes_at
before_by room bytes start n f b u x s i j k l begun =
    let made : Attributes = attributed n.0 f.0 b.0 u.0 in
    let one : attributes_at room bytes ≡ (optional_link_at room u.1 >>= λ v. ok (linked_to made v.0) v.1) = rw (s, i, j, k, l) refl in
    let all : (attributes_at room bytes >>= λ v. ok (changed.AllAttributes v.0) v.1) ≡ (params_left room x >>= λ ps. ok (link_change_by (some_of made) (link_with x.0 ps.0)) ps.1) =
    ap (λ (r : Result (Attributes × List ℕ) Stop). r >>= λ v. ok (changed.AllAttributes v.0) v.1) (one ∙ ap (λ (r : Result (Option Link × List ℕ) Stop). r >>= λ v. ok (linked_to made v.0) v.1) begun.link)
    ∙ named_thrice (params_left room x) (λ ps. some_of (link_with x.0 ps)) (linked_to made) changed.AllAttributes in
    subst (λ (a : Option Attributes). (attributes_at room bytes >>= λ v. ok (changed.AllAttributes v.0) v.1) ≡ (params_left room x >>= λ ps. ok (link_change_by a (link_with x.0 ps.0)) ps.1)) (sym begun.attributes) all

before_is : (room : ℕ) (bytes : List ℕ) (b : Option Attributes × List ℕ) (x : LinkPart × List ℕ) → before_link_at room bytes ≡ Ok b → IsBegun room b.0 b.1 x → (attributes_at room bytes >>= λ v. ok (changed.AllAttributes v.0) v.1) ≡ link_rest_at room x.0 x.1
unfolding before_link_at
before_is room bytes made x e begun =
    let start = bind_ok (array_of_at room 5 bytes) _ made e in
    let n = bind_ok (style_item_at room start.0) _ made start.2 in
    let f = bind_ok (color_item_at room n.0.1) _ made n.2 in
    let b = bind_ok (color_item_at room f.0.1) _ made f.2 in
    let u = bind_ok (color_item_at room b.0.1) _ made b.2 in
    let g = ok_is {A = Option Attributes × List ℕ} (some_of (attributed n.0.0 f.0.0 b.0.0 u.0.0), u.0.1) made u.2 in
    before_by room bytes start.0 n.0 f.0 b.0 u.0 x start.1 n.1 f.1 b.1 u.1 (subst (λ (y : Option Attributes × List ℕ). IsBegun room y.0 y.1 x) (sym g) begun)

by_kind : (measure : List ℕ → ℕ) (room : ℕ) (rows : Option ℕ) (count kind : ℕ) (bytes : List ℕ) (b : Option Attributes × List ℕ) (x : LinkPart × List ℕ) → before_link_by room kind bytes ≡ Ok b → IsBegun room b.0 b.1 x → change_by measure room rows count kind bytes ≡ link_rest_at room x.0 x.1
by_kind measure room rows count kind bytes b x e begun =
    picks kind 0 _ _ b e
    (λ is read. rw is (alone_is room bytes b x read begun))
    (λ more. picks kind 1 _ _ b more
    (λ is read. rw is (before_is room bytes b x read begun))
    (λ none. absurd cc))

pub change_by_parts : (measure : List ℕ → ℕ) (room : ℕ) (rows : Option ℕ) (bytes : List ℕ) (count kind : ℕ × List ℕ) → count_at room bytes ≡ Ok count → change_kind_at room count.0 count.1 ≡ Ok kind → change_at measure room rows bytes ≡ change_by measure room rows count.0 kind.0 kind.1
unfolding change_at
change_by_parts measure room rows bytes count kind c k = rw (c, k) refl

pub change_is : (measure : List ℕ → ℕ) (room : ℕ) (rows : Option ℕ) (bytes : List ℕ) (x : LinkPart × List ℕ) → link_begun_at room bytes ≡ Ok x → change_at measure room rows bytes ≡ link_rest_at room x.0 x.1
unfolding link_begun_at
change_is measure room rows bytes x e =
    let count = bind_ok (count_at room bytes) _ x e in
    let kind = bind_ok (change_kind_at room count.0.0 count.0.1) _ x count.2 in
    let b = bind_ok (before_link_by room kind.0.0 kind.0.1) _ x kind.2 in
    change_by_parts measure room rows bytes count.0 kind.0 count.1 kind.1 ∙ by_kind measure room rows count.0.0 kind.0.0 kind.0.1 b.0 x b.1 (is_begun room b.0.0 b.0.1 x b.2)

-- a screen bears it
link_borne : (head : Head) (spent : ℕ) (a : Option Attributes) (link : Link) → spent ≤ most_work head.width head.height → bears (Some head) spent (link_change_by a link) ≡ true
link_borne head spent None link few = le-leb _ _ (omega (arith, few))
link_borne head spent (Some a) link few = le-leb _ _ (omega (arith, few))

all_borne : (head : Head) (spent : ℕ) (room : ℕ) (bytes : List ℕ) (part : LinkPart) (r : Result (List Param × List ℕ) Stop) → spent ≤ most_work head.width head.height → ((r >>= λ ps. ok (link_change part ps.0) ps.1) >>= λ c. cond (bears (Some head) spent c.0) (Ok c) (refused faults.Limit room bytes)) ≡ (r >>= λ ps. ok (link_change part ps.0) ps.1)
all_borne head spent room bytes part (Ok ps) few = rw (link_borne head spent part.attributes (link_with part ps.0) few) refl
all_borne head spent room bytes part (Err s) few = refl

pub next_is : (measure : List ℕ → ℕ) (room : ℕ) (head : Head) (spent : ℕ) (bytes : List ℕ) (x : LinkPart × List ℕ) → spent ≤ most_work head.width head.height → link_begun_at room bytes ≡ Ok x → next_at measure room (Some head) spent bytes ≡ link_rest_at room x.0 x.1
unfolding next_at
next_is measure room head spent bytes x few e =
    ap (λ (r : Result (ChangeValue × List ℕ) Stop). r >>= λ c. cond (bears (Some head) spent c.0) (Ok c) (refused faults.Limit room bytes)) (change_is measure room (Some head.height) bytes x e)
    ∙ all_borne head spent room bytes x.0 (params_left room x) few

-- ---- one item after another

param_by_key : (room : ℕ) (made : List Param) (bytes : List ℕ) → param_item_at room made bytes ≡ (param_key_at room made bytes >>= λ key. text_at room key.1 >>= λ value. ok (key.0, value.0) value.1)
unfolding param_item_at param_key_at
param_by_key room made bytes = sym (then_then (array_of_at room 2 bytes) (λ start. key_at room made start) (λ key. text_at room key.1 >>= λ value. ok (key.0, value.0) value.1))

-- the params after these, from the key of the next one on
by_key : (room : ℕ) (made : List Param) (n : ℕ) (bytes : List ℕ) → params_at room made (suc n) bytes ≡ (param_key_at room made bytes >>= λ key. text_at room key.1 >>= λ value. params_at room (made ++ (key.0, value.0) ∷ []) n value.1)
by_key room made n bytes =
    params_some room made n bytes
    ∙ ap (λ (r : Result (Param × List ℕ) Stop). r >>= λ x. params_at room (made ++ x.0 ∷ []) n x.1) (param_by_key room made bytes)
    ∙ then_then (param_key_at room made bytes) _ _
    ∙ same_then (param_key_at room made bytes) _ _ (λ key. then_then (text_at room key.1) _ _)

less_one : (left : ℕ) → ltb 0 left ≡ true → left ≡ suc (left - 1)
less_one left e = omega (arith, ltb-true 0 left e)

abbrev named : LinkPart → List Param × List ℕ → Result (ChangeValue × List ℕ) Stop
named part ps = ok (link_change part ps.0) ps.1

item_by : (room : ℕ) (part : LinkPart) (key : Option (List ℕ)) (bytes : List ℕ) (x : LinkPart × List ℕ) → has_item_by key part.left ≡ true → link_item_by room part key bytes ≡ Ok x → (params_left_by room part key bytes >>= named part) ≡ link_rest_at room x.0 x.1
item_by room part None bytes x some e =
    let k = bind_ok (param_key_at room part.params bytes) _ x e in
    let y : LinkPart × List ℕ = (record part { key = Some k.0.0; left = part.left - 1 }, k.0.1) in
    let all : params_at room part.params part.left bytes ≡ params_left room y = ap (λ (n : ℕ). params_at room part.params n bytes) (less_one part.left some) ∙ by_key room part.params (part.left - 1) bytes ∙ ap (λ (r : Result (List ℕ × List ℕ) Stop). r >>= λ key. text_at room key.1 >>= λ value. params_at room (part.params ++ (key.0, value.0) ∷ []) (part.left - 1) value.1) k.1 in
    subst (λ (z : LinkPart × List ℕ). (params_left_by room part None bytes >>= named part) ≡ link_rest_at room z.0 z.1) (ok_is {A = LinkPart × List ℕ} y x k.2) (ap (λ (r : Result (List Param × List ℕ) Stop). r >>= named part) all)
item_by room part (Some key) bytes x some e =
    let v = bind_ok (text_at room bytes) _ x e in
    let y : LinkPart × List ℕ = (record part { params = part.params ++ (key, v.0.0) ∷ []; key = None }, v.0.1) in
    let all : params_left_by room part (Some key) bytes ≡ params_left room y = ap (λ (r : Result (List ℕ × List ℕ) Stop). r >>= λ value. params_at room (part.params ++ (key, value.0) ∷ []) part.left value.1) v.1 in
    subst (λ (z : LinkPart × List ℕ). (params_left_by room part (Some key) bytes >>= named part) ≡ link_rest_at room z.0 z.1) (ok_is {A = LinkPart × List ℕ} y x v.2) (ap (λ (r : Result (List Param × List ℕ) Stop). r >>= named part) all)

item_is : (room : ℕ) (part : LinkPart) (bytes : List ℕ) (x : LinkPart × List ℕ) → has_item part ≡ true → link_item_at room part bytes ≡ Ok x → link_rest_at room part bytes ≡ link_rest_at room x.0 x.1
item_is room part bytes x some e = item_by room part part.key bytes x some e

-- an item that has no value
stop_by : (room : ℕ) (part : LinkPart) (key : Option (List ℕ)) (bytes : List ℕ) (s : Stop) → has_item_by key part.left ≡ true → link_item_by room part key bytes ≡ Err s → params_left_by room part key bytes ≡ Err s
stop_by room part None bytes s some e =
    let stops : param_key_at room part.params bytes ≡ Err s = named_err (param_key_at room part.params bytes) _ s e in
    ap (λ (n : ℕ). params_at room part.params n bytes) (less_one part.left some) ∙ by_key room part.params (part.left - 1) bytes ∙ ap (λ (r : Result (List ℕ × List ℕ) Stop). r >>= λ key. text_at room key.1 >>= λ value. params_at room (part.params ++ (key.0, value.0) ∷ []) (part.left - 1) value.1) stops
stop_by room part (Some key) bytes s some e =
    ap (λ (r : Result (List ℕ × List ℕ) Stop). r >>= λ value. params_at room (part.params ++ (key, value.0) ∷ []) part.left value.1) (named_err (text_at room bytes) _ s e)

pub item_stop : (room : ℕ) (part : LinkPart) (bytes : List ℕ) (s : Stop) → has_item part ≡ true → link_item_at room part bytes ≡ Err s → link_rest_at room part bytes ≡ Err s
item_stop room part bytes s some e = ap (λ (r : Result (List Param × List ℕ) Stop). r >>= named part) (stop_by room part part.key bytes s some e)

-- no item is left
done_by : (room : ℕ) (part : LinkPart) (key : Option (List ℕ)) (bytes : List ℕ) → has_item_by key part.left ≡ false → params_left_by room part key bytes ≡ Ok (part.params, bytes)
done_by room part None bytes none =
    let zero_left : part.left ≡ 0 = omega (arith, ltb-false 0 part.left none) in
    ap (λ (n : ℕ). params_at room part.params n bytes) zero_left ∙ params_none room part.params bytes
done_by room part (Some key) bytes none = absurd cc

pub item_done : (room : ℕ) (part : LinkPart) (bytes : List ℕ) → has_item part ≡ false → link_rest_at room part bytes ≡ Ok (link_change part part.params, bytes)
item_done room part bytes none = ap (λ (r : Result (List Param × List ℕ) Stop). r >>= named part) (done_by room part part.key bytes none)

-- ---- reading on

module _ (room : ℕ) (part : LinkPart) (bytes : List ℕ) where
  abbrev Read : LinkPart → List ℕ → Type 0
  Read more rest = HasReadOn room part bytes more rest

  pub read_none : IsLinkPart part → Read part bytes
  read_none keys = record { front = []; parts = refl; keys = keys; same = λ near later all. refl }

  -- one item more
  pub read_more : (more : LinkPart) (rest : List ℕ) (x : LinkPart × List ℕ) → Read more rest → has_item more ≡ true → IsBytes rest → link_item_at room more rest ≡ Ok x → IsLinkPart x.0 → Read x.0 x.1
  read_more more rest x read some fits is keys =
      let l = item_end room more rest x fits is in
      record {
        front = read.front ++ l.front;
        parts = read.parts ∙ ap (λ (t : List ℕ). read.front ++ t) l.parts ∙ sym (append_assoc read.front l.front x.1);
        keys = keys;
        same = λ near later all. read.same near later all ∙ item_is later more (rest ++ near) (x.0, x.1 ++ near) some (still (link_item_reads more) room later rest near x all is);
      }

  -- what is decoded from here on is what is decoded
  pub read_here : (more : LinkPart) (rest : List ℕ) → Read more rest → link_rest_at room part bytes ≡ link_rest_at room more rest
  read_here more rest read = ap (link_rest_at room part) (sym (append-nil bytes)) ∙ read.same [] room (omega arith) ∙ ap (link_rest_at room more) (append-nil rest)

  -- the next item has no value
  pub read_stopped : (more : LinkPart) (rest : List ℕ) (at : ℕ) (e : ReadError) → Read more rest → has_item more ≡ true → Stops at e (link_item_at room more rest) → Stops at e (link_rest_at room part bytes)
  read_stopped more rest at e read some stops = if_some (fault_of e) _ _ (λ f is. read_here more rest read ∙ item_stop room more rest (record { fault = f; left = at }) some is) stops

-- how many keys and values are left
abbrev pub items_left_by : Option (List ℕ) → ℕ → ℕ
items_left_by None left = 2 * left
items_left_by (Some key) left = 2 * left + 1

abbrev pub items_left : LinkPart → ℕ
items_left part = items_left_by part.key part.left

fewer_by : (room : ℕ) (part : LinkPart) (key : Option (List ℕ)) (bytes : List ℕ) (x : LinkPart × List ℕ) → has_item_by key part.left ≡ true → link_item_by room part key bytes ≡ Ok x → items_left x.0 < items_left_by key part.left
fewer_by room part None bytes x some e =
    let k = bind_ok (param_key_at room part.params bytes) _ x e in
    let y : LinkPart × List ℕ = (record part { key = Some k.0.0; left = part.left - 1 }, k.0.1) in
    subst (λ (z : LinkPart × List ℕ). items_left z.0 < 2 * part.left) (ok_is {A = LinkPart × List ℕ} y x k.2) (omega (arith, ltb-true 0 part.left some))
fewer_by room part (Some key) bytes x some e =
    let v = bind_ok (text_at room bytes) _ x e in
    let y : LinkPart × List ℕ = (record part { params = part.params ++ (key, v.0.0) ∷ []; key = None }, v.0.1) in
    subst (λ (z : LinkPart × List ℕ). items_left z.0 < 2 * part.left + 1) (ok_is {A = LinkPart × List ℕ} y x v.2) (omega arith)

pub fewer_left : (room : ℕ) (part : LinkPart) (bytes : List ℕ) (x : LinkPart × List ℕ) → has_item part ≡ true → link_item_at room part bytes ≡ Ok x → items_left x.0 < items_left part
fewer_left room part bytes x some e = fewer_by room part part.key bytes x some e

-- the value of the param whose key is there goes to the end
pub value_put : (room : ℕ) (part : LinkPart) (key value : List ℕ) (params : List Param) (bytes rest : List ℕ) → part.key ≡ Some key → IsLinkPart part → text_at room bytes ≡ Ok (value, rest) → params ≡ with_pair part.params (key, value) → (link_item_at room part bytes ≡ Ok (record part { params = params; key = None }, rest)) × IsLinkPart (record part { params = params; key = None })
value_put room part key value params bytes rest is keys text put =
    let above : ascends part.params key ≡ true = subst (λ (k : Option (List ℕ)). IfSome k (λ key. ascends part.params key ≡ true)) is keys.above in
    let last : params ≡ part.params ++ (key, value) ∷ [] = put ∙ put-last part.params (key, value) keys.ordered above in
    let ordered : AreInOrder params = subst (λ (ps : List Param). AreInOrder ps) (sym last) (order-push part.params (key, value) keys.ordered above) in
    (ap (λ (k : Option (List ℕ)). link_item_by room part k bytes) is ∙ rw text (ap (λ (ps : List Param). done_at (record part { params = ps; key = None }) rest) (sym last)), record { ordered = ordered; above = tt })

-- no param is there yet
pub none_there : (part : LinkPart) → part.params ≡ [] → part.key ≡ None → IsLinkPart part
unfolding IsStrictlySortedBy
none_there part none no_key = record {
  ordered = subst (λ (ps : List Param). AreInOrder ps) (sym none) tt;
  above = subst (λ (k : Option (List ℕ)). IfSome k (λ key. ascends part.params key ≡ true)) (sym no_key) tt;
}

-- ---- what a call returns

-- a fault of an item
pub reads_failed : (room : ℕ) (part : LinkPart) (bytes : List ℕ) (e : ReadError) (more : LinkPart) (left : ℕ) (rest : List ℕ) → e ≢ read_errors.Truncated → Stops left e (link_rest_at room part bytes) → ReadsOn room part bytes (Err e) more left rest
reads_failed room part bytes read_errors.Truncated more left rest other stops = absurd (other refl)
reads_failed room part bytes read_errors.Version more left rest other stops = stops
reads_failed room part bytes read_errors.Type more left rest other stops = stops
reads_failed room part bytes read_errors.Utf8 more left rest other stops = stops
reads_failed room part bytes read_errors.Range more left rest other stops = stops
reads_failed room part bytes read_errors.Region more left rest other stops = stops
reads_failed room part bytes read_errors.Limit more left rest other stops = stops
reads_failed room part bytes read_errors.Measure more left rest other stops = stops
reads_failed room part bytes read_errors.Memory more left rest other stops = stops

-- it is the error of the rest
pub read_failed : (room : ℕ) (part : LinkPart) (bytes : List ℕ) (e : ReadError) (more : LinkPart) (left : ℕ) (rest : List ℕ) → e ≢ read_errors.Truncated → ReadsOn room part bytes (Err e) more left rest → Stops left e (link_rest_at room part bytes)
read_failed room part bytes read_errors.Truncated more left rest other reads = absurd (other refl)
read_failed room part bytes read_errors.Version more left rest other reads = reads
read_failed room part bytes read_errors.Type more left rest other reads = reads
read_failed room part bytes read_errors.Utf8 more left rest other reads = reads
read_failed room part bytes read_errors.Range more left rest other reads = reads
read_failed room part bytes read_errors.Region more left rest other reads = reads
read_failed room part bytes read_errors.Limit more left rest other reads = reads
read_failed room part bytes read_errors.Measure more left rest other reads = reads
read_failed room part bytes read_errors.Memory more left rest other reads = reads

-- what is cut has no value, and no fault but that
pub cut_value : {Y : Type 0} (r : Result Y Stop) (y : Y) → StopsTruncated r → r ≡ Ok y → ⊥
cut_value r y cut is = let bad : failed cut.stop ≡ Ok y = sym cut.is ∙ is in cc

pub cut_fault : {Y : Type 0} (r : Result Y Stop) (f : FaultKind) (left : ℕ) → StopsTruncated r → r ≡ Err (record { fault = f; left = left }) → f ≡ Truncated
cut_fault {Y = Y} r f left cut is =
    let both : failed {A = Y} cut.stop ≡ failed (record { fault = f; left = left }) = sym cut.is ∙ is in
    let same : cut.stop ≡ record { fault = f; left = left } = cc in
    ap (λ (s : Stop). s.fault) (sym same) ∙ cut.cut

pub other_fault : (f : FaultKind) → f ≡ Truncated → f ≢ Truncated → ⊥
other_fault f is other = other is

pub apart : {Y : Type 0} (f : FaultKind) (left : ℕ) (r : Result Y Stop) (y : Y) → r ≡ Err (record { fault = f; left = left }) → r ≡ Ok y → ⊥
apart {Y = Y} f left r y stops is = let bad : failed {A = Y} (record { fault = f; left = left }) ≡ Ok y = sym stops ∙ is in cc

-- the params of a link that is cut are read up to the item that is
pub cut_read : (room : ℕ) (part : LinkPart) (bytes : List ℕ) (r : Result Unit ReadError) (more : LinkPart) (left : ℕ) (rest : List ℕ) → ReadsOn room part bytes r more left rest → StopsTruncated (link_rest_at room part bytes) → r ≢ Err read_errors.Memory → HasReadOn room part bytes more rest × ReachesItem room more rest
cut_read room part bytes (Ok done) more left rest reads cut some = absurd (cut_value (link_rest_at room part bytes) (link_change more more.params, rest) cut (read_here room part bytes more rest reads.0 ∙ item_done room more rest reads.1))
cut_read room part bytes (Err read_errors.Truncated) more left rest reads cut some = reads
cut_read room part bytes (Err read_errors.Version) more left rest reads cut some = absurd (other_fault faults.Version (cut_fault (link_rest_at room part bytes) faults.Version left cut reads) (λ is. cc))
cut_read room part bytes (Err read_errors.Type) more left rest reads cut some = absurd (other_fault faults.Type (cut_fault (link_rest_at room part bytes) faults.Type left cut reads) (λ is. cc))
cut_read room part bytes (Err read_errors.Utf8) more left rest reads cut some = absurd (other_fault faults.Utf8 (cut_fault (link_rest_at room part bytes) faults.Utf8 left cut reads) (λ is. cc))
cut_read room part bytes (Err read_errors.Range) more left rest reads cut some = absurd (other_fault faults.Range (cut_fault (link_rest_at room part bytes) faults.Range left cut reads) (λ is. cc))
cut_read room part bytes (Err read_errors.Region) more left rest reads cut some = absurd (other_fault faults.Region (cut_fault (link_rest_at room part bytes) faults.Region left cut reads) (λ is. cc))
cut_read room part bytes (Err read_errors.Limit) more left rest reads cut some = absurd (other_fault faults.Limit (cut_fault (link_rest_at room part bytes) faults.Limit left cut reads) (λ is. cc))
cut_read room part bytes (Err read_errors.Measure) more left rest reads cut some = absurd (other_fault faults.Measure (cut_fault (link_rest_at room part bytes) faults.Measure left cut reads) (λ is. cc))
cut_read room part bytes (Err read_errors.Memory) more left rest reads cut some = absurd (some refl)

-- no link's params have begun
pub unbegun : {Y : Type 0} (e : ReadError) (left : ℕ) (r : Result Y Stop) → e ≢ read_errors.Memory → Stops left e r → (x : Y) → r ≢ Ok x
unbegun read_errors.Truncated left r other stops x is = apart Truncated left r x stops is
unbegun read_errors.Version left r other stops x is = apart faults.Version left r x stops is
unbegun read_errors.Type left r other stops x is = apart faults.Type left r x stops is
unbegun read_errors.Utf8 left r other stops x is = apart faults.Utf8 left r x stops is
unbegun read_errors.Range left r other stops x is = apart faults.Range left r x stops is
unbegun read_errors.Region left r other stops x is = apart faults.Region left r x stops is
unbegun read_errors.Limit left r other stops x is = apart faults.Limit left r x stops is
unbegun read_errors.Measure left r other stops x is = apart faults.Measure left r x stops is
unbegun read_errors.Memory left r other stops x is = absurd (other refl)

-- the change is cut where its link's params are
pub cut_params : (measure : List ℕ → ℕ) (room : ℕ) (rows : Option ℕ) (bytes : List ℕ) (x : LinkPart × List ℕ) → link_begun_at room bytes ≡ Ok x → StopsTruncated (change_at measure room rows bytes) → StopsTruncated (link_rest_at room x.0 x.1)
cut_params measure room rows bytes x begun cut = subst (λ (r : Result (ChangeValue × List ℕ) Stop). StopsTruncated r) (change_is measure room rows bytes x begun) cut

-- what passes no test is cut where it is cut itself
guard_cut : {Y : Type 0} (r : Result Y Stop) (rule : Y → Bool) (s : Stop) → s.fault ≢ Truncated → StopsTruncated (r >>= λ y. cond (rule y) (Ok y) (Err s)) → StopsTruncated r
guard_cut {Y = Y} (Ok y) rule s other cut = elim (chosen (rule y) (Ok y) (Err s) (Err cut.stop) cut.is) [
  | inl a ↦ absurd cc
  | inr a ↦ let bad : failed {A = Y} s ≡ failed cut.stop = a.1 in let same : s ≡ cut.stop = cc in absurd (other (ap (λ (t : Stop). t.fault) same ∙ cut.cut))
]
guard_cut {Y = Y} (Err e) rule s other cut = let both : failed {A = Y} e ≡ failed cut.stop = cut.is in record { stop = cut.stop; is = both; cut = cut.cut }

-- a change that is cut, before its work is counted
pub cut_change : (measure : List ℕ → ℕ) (room : ℕ) (head : Head) (spent : ℕ) (bytes : List ℕ) → StopsTruncated (next_at measure room (Some head) spent bytes) → StopsTruncated (change_at measure room (Some head.height) bytes)
unfolding next_at
cut_change measure room head spent bytes cut = guard_cut (change_at measure room (Some head.height) bytes) (λ c. bears (Some head) spent c.0) (stopped faults.Limit room bytes) (λ is. cc) cut
