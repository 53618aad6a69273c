use Rattle.std.proofs.Common.{◌≡◌, ℕ, ◌∙◌, List, Option, None, Some, false, drop, take, string_bytes, sym, ap, rules}
use Rattle.std.specs.Prelude.{option_map}
use Rattle.std.specs.List.{slice_get}
use Rattle.std.specs.Str.{IsUtf8}
use Rattle.termwiz_cell.specs.Attributes.{Attributes}
use Rattle.termwiz_storage.specs.declared.line.clusterline.runs.AttrsRun.{AttrsRun}
use Rattle.termwiz_storage.specs.CellRef.{ref_cell}
use Rattle.termwiz_storage.specs.CellRuns.{attrs_of, shapes_of}
use Rattle.termwiz_storage.specs.Clustered.{IsCellText}
use Rattle.termwiz_storage.proofs.ByteCells.{byte_place, byte_visible, none_visible}
use Rattle.termwiz_storage.proofs.line.clusterline.ClusteredLine.get_cell.Goals as goal

read : (i : ℕ) (rs qs : List AttrsRun) (a : Option Attributes) → qs ≡ rs → a ≡ slice_get (attrs_of qs) i → slice_get (attrs_of rs) i ≡ a
read i rs qs a e r = sym (r ∙ ap (λ (xs : List AttrsRun). slice_get (attrs_of xs) i) e)

pub returns-in_err-attrs-clause-cell : goal.returns-in_err-attrs-clause-cell
returns-in_err-attrs-clause-cell c =
    let s = c.self.inside in
    let i : ℕ = c.args.i in
    let none : slice_get (attrs_of s.attrs.items) i ≡ None = read i s.attrs.items c.deref.result.now None c.deref.ensures.value c.in_err-attrs.ensures in
    ap (option_map ref_cell) c.from_residual.ensures
    ∙ sym (none_visible c.args.self.now (string_bytes s.text) (shapes_of s.shapes.items) (attrs_of s.attrs.items) s.len c.self.view_is c.self.invariant i (c.has_byte_cells.ensures.0 c.if-not-has_byte_cells.false) none)

pub split_at-requires : goal.split_at-requires
split_at-requires c =
    let s = c.self.inside in
    let i : ℕ = c.args.i in
    let a : Attributes = c.in_ok-attrs.attrs.now in
    let t : List ℕ = string_bytes s.text in
    let some : slice_get (attrs_of s.attrs.items) i ≡ Some a = read i s.attrs.items c.deref.result.now (Some a) c.deref.ensures.value c.in_ok-attrs.ensures in
    let utf8 : IsUtf8 t = rw c.as_str.ensures.value at c.as_str.utf8 in
    rw c.as_str.ensures.value
    (byte_place c.args.self.now t (shapes_of s.shapes.items) (attrs_of s.attrs.items) s.len c.self.view_is c.self.invariant i a utf8 (c.has_byte_cells.ensures.0 c.if-not-has_byte_cells.false) some).0

pub split_at-requires-2 : goal.split_at-requires-2
split_at-requires-2 c =
    let s = c.self.inside in
    let i : ℕ = c.args.i in
    let a : Attributes = c.in_ok-attrs.attrs.now in
    let t : List ℕ = string_bytes s.text in
    let some : slice_get (attrs_of s.attrs.items) i ≡ Some a = read i s.attrs.items c.deref.result.now (Some a) c.deref.ensures.value c.in_ok-attrs.ensures in
    let utf8 : IsUtf8 t = rw c.as_str.ensures.value at c.as_str.utf8 in
    let text : IsCellText (drop i t) 1 = (byte_place c.args.self.now t (shapes_of s.shapes.items) (attrs_of s.attrs.items) s.len c.self.view_is c.self.invariant i a utf8 (c.has_byte_cells.ensures.0 c.if-not-has_byte_cells.false) some).1 in
    let rest : c.split_at.result.1.now ≡ drop i t = c.split_at.ensures.back ∙ ap (drop i) c.as_str.ensures.value in
    rw rest text.boundary

pub returns-clause-cell : goal.returns-clause-cell
returns-clause-cell c =
    let s = c.self.inside in
    let i : ℕ = c.args.i in
    let a : Attributes = c.in_ok-attrs.attrs.now in
    let t : List ℕ = string_bytes s.text in
    let some : slice_get (attrs_of s.attrs.items) i ≡ Some a = read i s.attrs.items c.deref.result.now (Some a) c.deref.ensures.value c.in_ok-attrs.ensures in
    let text : c.split_at-2.result.0.now ≡ take 1 (drop i t) = c.split_at-2.ensures.front ∙ ap (take 1) (c.split_at.ensures.back ∙ ap (drop i) c.as_str.ensures.value) in
    ap (λ (x : List ℕ). Some (record { text = x; wide = false; attrs = a })) text
    ∙ sym (byte_visible c.args.self.now t (shapes_of s.shapes.items) (attrs_of s.attrs.items) s.len c.self.view_is c.self.invariant i a (c.has_byte_cells.ensures.0 c.if-not-has_byte_cells.false) some)

pub returns-clause-of_cell : goal.returns-clause-of_cell
returns-clause-of_cell c =
    let s = c.self.inside in
    let i : ℕ = c.args.i in
    let a : Attributes = c.in_ok-attrs.attrs.now in
    let t : List ℕ = string_bytes s.text in
    let some : slice_get (attrs_of s.attrs.items) i ≡ Some a = read i s.attrs.items c.deref.result.now (Some a) c.deref.ensures.value c.in_ok-attrs.ensures in
    let utf8 : IsUtf8 t = rw c.as_str.ensures.value at c.as_str.utf8 in
    let cell : IsCellText (drop i t) 1 = (byte_place c.args.self.now t (shapes_of s.shapes.items) (attrs_of s.attrs.items) s.len c.self.view_is c.self.invariant i a utf8 (c.has_byte_cells.ensures.0 c.if-not-has_byte_cells.false) some).1 in
    let text : c.split_at-2.result.0.now ≡ take 1 (drop i t) = c.split_at-2.ensures.front ∙ ap (take 1) (c.split_at.ensures.back ∙ ap (drop i) c.as_str.ensures.value) in
    record { width = search rules; clean = rw text cell.clean }
