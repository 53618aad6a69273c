use Rattle.std.proofs.Common.{ℕ, ◌+◌, List, drop, sym, ◌∙◌, ap, arith}
use Rattle.std.specs.List.{slice_get}
use Rattle.termwiz_cell.specs.Attributes.{Attributes}
use Rattle.termwiz_storage.specs.declared.line.clusterline.runs.AttrsRun.{AttrsRun}
use Rattle.termwiz_storage.specs.CellRuns.{attrs_of}
use Rattle.termwiz_storage.proofs.CellRuns.{attrs_of-drop, get_behind_run, get_in_run}
use Rattle.termwiz_storage.proofs.line.clusterline.run_lists.attrs_at.Goals as goal

pub returns-then-left-cells : goal.returns-then-left-cells
returns-then-left-cells c =
    let runs : List AttrsRun = c.args.runs.now in
    let run : AttrsRun = c.run-item.result in
    let k : ℕ = c.loop-run.run-index in
    let left : ℕ = c.loop-run.left in
    sym (get_in_run run.cells left run.attrs (attrs_of (drop (k + 1) runs)) c.if-left-cells.true)
    ∙ ap (λ (z : List Attributes). slice_get z left) (sym (attrs_of-drop runs k run (omega arith) c.run-item.is))
    ∙ c.loop-run.invariant

pub loop-run-preserved : goal.loop-run-preserved
loop-run-preserved c =
    let runs : List AttrsRun = c.args.runs.now in
    let run : AttrsRun = c.run-item.result in
    let k : ℕ = c.loop-run.run-index in
    let left : ℕ = c.loop-run.left in
    sym (get_behind_run run.cells left run.attrs (attrs_of (drop (k + 1) runs)) c.if-left-cells.false)
    ∙ ap (λ (z : List Attributes). slice_get z left) (sym (attrs_of-drop runs k run (omega arith) c.run-item.is))
    ∙ c.loop-run.invariant
