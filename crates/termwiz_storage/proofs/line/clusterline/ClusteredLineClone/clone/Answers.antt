use Rattle.std.proofs.Common.{◌≡◌}
use Rattle.std.proofs.lemmas.List.Elements.{same_from_all_zip}
use Rattle.termwiz_storage.specs.CellRuns.{attrs_of}
use Rattle.termwiz_storage.proofs.CellRuns.{attrs_of-copied}
use Rattle.termwiz_storage.proofs.line.clusterline.ClusteredLineClone.clone.Goals as goal

pub invariant_of-result : goal.invariant_of-result
invariant_of-result c =
    let s = c.self.inside in
    let shapes : c.in_ok-shapes.shapes.items ≡ s.shapes.items = same_from_all_zip _ _ _ c.in_ok-shapes.ensures.cases.0 (λ x y e. e) in
    let attrs : attrs_of c.in_ok-attrs.attrs.items ≡ attrs_of s.attrs.items = attrs_of-copied s.attrs.items c.in_ok-attrs.attrs.items c.in_ok-attrs.ensures.cases.0 in
    rw (c.in_ok-text.ensures.cases, shapes, attrs) c.self.invariant

pub returns : goal.returns
returns c =
    let s = c.self.inside in
    let shapes : c.in_ok-shapes.shapes.items ≡ s.shapes.items = same_from_all_zip _ _ _ c.in_ok-shapes.ensures.cases.0 (λ x y e. e) in
    let attrs : attrs_of c.in_ok-attrs.attrs.items ≡ attrs_of s.attrs.items = attrs_of-copied s.attrs.items c.in_ok-attrs.attrs.items c.in_ok-attrs.ensures.cases.0 in
    record { cases = rw (c.in_ok-text.ensures.cases, shapes, attrs) c.self.view_is }
