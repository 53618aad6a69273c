use Rattle.std.proofs.Common.{◌≡◌, ◌+◌, ◌-◌, arith, ap, sym, ◌∙◌, rules}
use Rattle.termwiz_storage.specs.declared.line.clusterline.runs.ShapeRun.{ShapeRun}
use Rattle.termwiz_storage.specs.CellRuns.{shape_in}
use Rattle.termwiz_storage.proofs.CellRuns.{longer_last}
use Rattle.termwiz_storage.proofs.line.clusterline.run_lists.push_shape.Goals as goal

pub returns-then-cells-last-clause-shapes : goal.returns-then-cells-last-clause-shapes
returns-then-cells-last-clause-shapes c =
    let last : ShapeRun = c.index-last.result.now in
    let wide : last.wide ≡ c.args.shape.wide = search rules in
    let one_char : last.one_char ≡ c.args.shape.one_char = search rules in
    let same : c.args.shape ≡ shape_in last = λ i. record { bytes = sym c.if-last-shape.true i; one_char = sym one_char i; wide = sym wide i } in
    rw c.run_of.ensures (longer_last (λ (r : ShapeRun). r.cells) shape_in c.args.runs.now.items (c.len-count.result - 1) c.args.cells (record { bytes = c.args.shape.bytes; one_char = c.args.shape.one_char; wide = c.args.shape.wide; cells = last.cells + c.args.cells }) last
    (omega arith)
    (same ∙ ap shape_in c.index-last.ensures)
    (ap (λ (r : ShapeRun). r.cells + c.args.cells) c.index-last.ensures))
