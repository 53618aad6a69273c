use Rattle.std.proofs.Common.{◌∙◌, ◌-◌, List, length, ap, string_bytes}
use Rattle.std.specs.Prelude.{option_map}
use Rattle.std.specs.List.{slice_get}
use Rattle.termwiz_storage.specs.declared.line.clusterline.runs.AttrsRun.{AttrsRun}
use Rattle.termwiz_storage.specs.CellRuns.{shapes_of}
use Rattle.termwiz_storage.proofs.LastCell.{last_attrs-runs}
use Rattle.termwiz_storage.proofs.line.clusterline.ClusteredLine.last_attrs.Goals as goal

pub returns : goal.returns
returns c =
    let s = c.self.inside in
    let rs : List AttrsRun = s.attrs.items in
    ap (option_map (λ (r : AttrsRun). r.attrs)) (c.in_ok-run.ensures.value ∙ ap (λ (qs : List AttrsRun). slice_get qs (length qs - 1)) c.deref.ensures.value)
    ∙ last_attrs-runs c.args.self.now (string_bytes s.text) (shapes_of s.shapes.items) rs c.self.view_is c.self.invariant.aligned
