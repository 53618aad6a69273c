use Rattle.std.proofs.Common.{◌≡◌, ◌+◌, ◌≤◌, List, fold, map, arith, sym, ap, ◌∙◌}
use Rattle.termwiz_cell.specs.CellValue.{CellValue}
use Rattle.termwiz_storage.specs.CellLists.{cells_eq-Decides}
use Rattle.termwiz_line.specs.Row.{row_of}
use Rattle.termwiz_screen.specs.Diff.{in_row, print_out, row_need}
use Rattle.termwiz_screen.proofs.Diffs.NeededRows.{nothing_needed, own_row}
use Rattle.termwiz_screen.proofs.diff.rows.print_row.Goals as goal

pub returns-then-has_same_cells : goal.returns-then-has_same_cells
returns-then-has_same_cells c = λ v w h a b.
    let r = c.args.region in
    let cells = c.args.own.now.cells in
    let same : c.args.other.now.cells ≡ cells = sym ((cells_eq-Decides cells c.args.other.now.cells).0 (sym c.has_same_cells.ensures ∙ c.if-has_same_cells.true)) in
    let column : r.other_x ≡ r.x = omega (arith, c.if-region.true) in
    let inside : r.x + r.width ≤ w = omega (arith, b, column) in
    sym (ap (λ ps. fold print_out c.args.writer.now (map (in_row c.args.row) ps))
    ((λ i. row_need (row_of v cells) r.x (row_of w (same i)) (column i) r.width) ∙ nothing_needed cells v w r.x r.width a inside))

pub returns : goal.returns
returns c = λ v w h a b.
    let r = c.args.region in
    let other = row_of w c.args.other.now.cells in
    c.in_ok-print_cells.ensures w b
    ∙ ap (λ ps. fold print_out c.args.writer.now (map (in_row c.args.row) ps))
    (ap (λ (cs : List CellValue). row_need cs r.x other r.other_x r.width) c.vector_cells.ensures ∙ own_row c.args.own.now.cells v r.x other r.other_x r.width h a)
