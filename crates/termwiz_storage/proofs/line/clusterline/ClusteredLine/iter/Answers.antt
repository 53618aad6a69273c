use Rattle.std.proofs.Common.{string_bytes}
use Rattle.termwiz_storage.specs.CellRuns.{attrs_of, shapes_of}
use Rattle.termwiz_storage.proofs.Clustered.{visible-cells_from, IsStepping-start}
use Rattle.termwiz_storage.proofs.line.clusterline.ClusteredLine.iter.Goals as goal

pub invariant_of-result : goal.invariant_of-result
invariant_of-result c =
    let s = c.self.inside in
    rw (c.as_str.ensures.value, c.new.ensures, c.deref.ensures.value, c.new-2.ensures, c.deref-2.ensures.value)
    (IsStepping-start (string_bytes s.text) (shapes_of s.shapes.items) (attrs_of s.attrs.items) s.len c.self.invariant)

pub returns : goal.returns
returns c =
    let s = c.self.inside in
    rw (c.as_str.ensures.value, c.new.ensures, c.deref.ensures.value, c.new-2.ensures, c.deref-2.ensures.value)
    (visible-cells_from c.args.self.now (string_bytes s.text) (shapes_of s.shapes.items) (attrs_of s.attrs.items) c.self.view_is)
