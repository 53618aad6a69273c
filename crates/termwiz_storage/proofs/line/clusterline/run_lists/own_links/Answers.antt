use Rattle.std.proofs.Common.{◌∙◌, refl}
use Rattle.termwiz_storage.proofs.CellRuns.{attrs_of-set_same}
use Rattle.termwiz_storage.proofs.line.clusterline.run_lists.own_links.Goals as goal

pub returns-in_err-own_link : goal.returns-in_err-own_link
returns-in_err-own_link c =
    attrs_of-set_same c.loop-run.runs c.loop-run.run-index _ c.run-item.result (c.own_link.ensures.same, refl) ∙ c.loop-run.invariant

pub loop-run-preserved : goal.loop-run-preserved
loop-run-preserved c =
    attrs_of-set_same c.loop-run.runs c.loop-run.run-index _ c.run-item.result (c.own_link.ensures.same, refl) ∙ c.loop-run.invariant
