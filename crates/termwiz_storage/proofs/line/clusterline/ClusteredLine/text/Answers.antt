use Rattle.std.proofs.Common.{◌∙◌, sym, string_bytes}
use Rattle.termwiz_storage.specs.CellRuns.{attrs_of, shapes_of}
use Rattle.termwiz_storage.proofs.Clustered.{texts_of-visible}
use Rattle.termwiz_storage.proofs.line.clusterline.ClusteredLine.text.Goals as goal

pub returns : goal.returns
returns c =
    let s = c.self.inside in
    c.as_str.ensures.value ∙ sym (texts_of-visible c.args.self.now (string_bytes s.text) (shapes_of s.shapes.items) (attrs_of s.attrs.items) s.len c.self.view_is c.self.invariant)
