use Rattle.std.proofs.Common.{◌++◌, ◌∷◌, [], List, ap, sym, ◌∙◌, append_assoc}
use Rattle.termwiz_storage.specs.CellRef.{indexed_cell}
use Rattle.termwiz_storage.specs.VisibleCell.{VisibleCell}
use Rattle.termwiz_line.proofs.entries.writer.RowWriter.stored_cells.Goals as goal

pub loop-cell-preserved : goal.loop-cell-preserved
loop-cell-preserved c =
    λ from before z.
    let u = c.loop-cell.invariant from before z in
    let p : VisibleCell = indexed_cell c.in-Some.cell in
    let left : List VisibleCell = c.next.new.self in
    c.in_ok-plain_cells.ensures.written from (before ++ c.args.cells) (record {
      done = u.done ++ p ∷ [];
      whole = append_assoc u.done (p ∷ []) left ∙ ap (λ l. u.done ++ l) (sym c.in-Some.ensures.steps.0) ∙ u.whole;
      written = c.in_ok-cell.ensures from u.done p (sym c.str.ensures) (sym c.attrs.ensures) u.written;
    })
