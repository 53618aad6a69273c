use Rattle.std.proofs.Common.{◌++◌, ◌∙◌, ap, sym, string_bytes, List}
use Rattle.std.proofs.lemmas.List.{append-nil}
use Rattle.termwiz_cell.specs.CellValue.{CellValue}
use Rattle.termwiz_storage.specs.CellRuns.{attrs_of, shapes_of}
use Rattle.termwiz_storage.specs.Edits.{with_halves}
use Rattle.termwiz_storage.proofs.Clustered.{with_halves-visible}
use Rattle.termwiz_storage.proofs.line.clusterline.ClusteredLine.to_cells.Goals as goal
use Rattle.termwiz_storage.specs.VisibleCell.{VisibleCell}

pub returns : goal.returns
returns c =
    let s = c.self.inside in
    let items : List CellValue = c.loop-cell.cells.items in
    let whole = with_halves-visible c.args.self.now (string_bytes s.text) (shapes_of s.shapes.items) (attrs_of s.attrs.items) c.self.view_is in
    sym (append-nil items)
    ∙ ap (λ (z : List VisibleCell). items ++ with_halves z) (sym c.in-None.ensures.steps.0)
    ∙ c.loop-cell.invariant.same
    ∙ ap with_halves (c.into_iter-cell-iterator.ensures.into_iter_gives ∙ c.iter-cell-items.ensures)
    ∙ whole
