use Rattle.std.proofs.Common.{◌∙◌, List, string_bytes, ap}
use Rattle.std.specs.List.{list_any}
use Rattle.std.specs.Option.{is_some}
use Rattle.termwiz_storage.specs.declared.line.clusterline.runs.AttrsRun.{AttrsRun}
use Rattle.termwiz_storage.specs.CellRuns.{attrs_of, shapes_of}
use Rattle.termwiz_storage.proofs.Linked.{linked-attrs}
use Rattle.termwiz_storage.proofs.line.clusterline.ClusteredLine.has_hyperlink.Goals as goal

pub returns : goal.returns
returns c =
    let s = c.self.inside in
    c.has_link.ensures
    ∙ ap (λ (rs : List AttrsRun). list_any (λ a. is_some a.hyperlink) (attrs_of rs)) c.deref.ensures.value
    ∙ linked-attrs c.args.self.now (string_bytes s.text) (shapes_of s.shapes.items) (attrs_of s.attrs.items) c.self.view_is c.self.invariant.aligned
