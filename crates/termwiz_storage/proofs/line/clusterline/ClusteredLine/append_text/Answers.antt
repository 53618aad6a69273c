use Rattle.std.proofs.Common.{◌++◌, ◌∙◌, ap₂, arith, string_bytes, List}
use Rattle.std.specs.Str.{IsUtf8}
use Rattle.termwiz_cell.specs.CellValue.{CellValue}
use Rattle.termwiz_storage.specs.CellRuns.{attrs_of, shapes_of}
use Rattle.termwiz_storage.proofs.Clustered.{IsSound-append, cells_from-append}
use Rattle.termwiz_storage.proofs.line.clusterline.ClusteredLine.append_text.Goals as goal

pub invariant_of-self-2 : goal.invariant_of-self-2
invariant_of-self-2 c =
    let s = c.self.inside in
    let m = c.more.inside in
    let utf8 : IsUtf8 (string_bytes m.text) = rw c.deref.ensures at c.deref.utf8 in
    rw (c.push_text.ensures, c.deref.ensures, c.append_shapes.ensures, c.deref-2.ensures.value, c.append_attrs.ensures, c.in_ok-reserve.ensures.bytes, c.in_ok-reserve-2.ensures.items, c.in_ok-reserve-3.ensures.items)
    (IsSound-append (string_bytes s.text) (string_bytes m.text) (shapes_of s.shapes.items) (shapes_of m.shapes.items) (attrs_of s.attrs.items) (attrs_of m.attrs.items) s.len m.len utf8 c.self.invariant c.more.invariant (omega arith))

pub returns-clause-ok : goal.returns-clause-ok
returns-clause-ok c =
    let s = c.self.inside in
    let m = c.more.inside in
    rw (c.push_text.ensures, c.deref.ensures, c.append_shapes.ensures, c.deref-2.ensures.value, c.append_attrs.ensures, c.in_ok-reserve.ensures.bytes, c.in_ok-reserve-2.ensures.items, c.in_ok-reserve-3.ensures.items)
    (cells_from-append (string_bytes s.text) (string_bytes m.text) (shapes_of s.shapes.items) (shapes_of m.shapes.items) (attrs_of s.attrs.items) (attrs_of m.attrs.items) c.self.invariant.cuts c.self.invariant.aligned
    ∙ ap₂ (λ (xs ys : List CellValue). xs ++ ys) c.self.view_is c.more.view_is)
