use Rattle.std.proofs.Common.{string_bytes}
use Rattle.termwiz_storage.specs.CellRuns.{attrs_of, shapes_of}
use Rattle.termwiz_storage.proofs.Clustered.{with_halves-visible}
use Rattle.termwiz_storage.proofs.Whole.{whole-from}
use Rattle.termwiz_storage.proofs.line.clusterline.ClusteredLine.len.Goals as goal

pub returns-clause-whole : goal.returns-clause-whole
returns-clause-whole c =
    let s = c.self.inside in
    whole-from c.args.self.now (with_halves-visible c.args.self.now (string_bytes s.text) (shapes_of s.shapes.items) (attrs_of s.attrs.items) c.self.view_is)
