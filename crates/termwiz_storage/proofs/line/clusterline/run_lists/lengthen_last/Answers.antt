use Rattle.std.proofs.Common.{◌≡◌, ℕ, ◌+◌, ◌-◌, arith, ap, sym, ◌∙◌}
use Rattle.std.proofs.lemmas.List.{get_or_default}
use Rattle.termwiz_storage.specs.declared.line.clusterline.runs.AttrsRun.{AttrsRun}
use Rattle.termwiz_storage.proofs.CellRuns.{longer_last}
use Rattle.termwiz_storage.proofs.line.clusterline.run_lists.lengthen_last.Goals as goal

pub returns-then-eq-clause-yes : goal.returns-then-eq-clause-yes
returns-then-eq-clause-yes c =
    let i : ℕ = c.len-count.result - 1 in
    let last : AttrsRun = c.index_mut.result.now in
    let read : AttrsRun = c.index-then-cells-index.result.now in
    let read_is : last ≡ read = c.index_mut.ensures.value ∙ get_or_default c.args.runs.now.items i last read (omega arith) ∙ sym c.index-then-cells-index.ensures in
    let same : last.attrs ≡ c.args.attrs.now = ap (λ (r : AttrsRun). r.attrs) read_is ∙ c.eq.ensures.same.0 c.if-eq.true in
    λ _. rw (← same)
    (longer_last (λ (r : AttrsRun). r.cells) (λ (r : AttrsRun). r.attrs) c.args.runs.now.items i c.args.cells _ last
    (omega arith)
    (ap (λ (r : AttrsRun). r.attrs) c.index_mut.ensures.value)
    (ap (λ (r : AttrsRun). r.cells + c.args.cells) c.index_mut.ensures.value))
