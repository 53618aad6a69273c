use Rattle.std.proofs.Common.{subst, min, ◌≡◌, ◌+◌, ◌-◌, ◌≤◌, ℕ, List, fold, map, arith, sym, ap, ◌∙◌}
use Rattle.termwiz_cell.specs.CellValue.{CellValue, columns}
use Rattle.termwiz_storage.specs.CellRef.{ref_cell, indexed_cell}
use Rattle.termwiz_storage.specs.CellsLeft.{cells_left}
use Rattle.termwiz_storage.specs.Stored.{visible}
use Rattle.termwiz_screen.specs.Diff.{in_row, print_out, row_need}
use Rattle.termwiz_line.specs.Row.{row_of}
use Rattle.termwiz_storage.proofs.Widths.{columns_bounds}
use Rattle.termwiz_screen.proofs.RowChanges.Walked.{IsAt, IsNext, at_next, at_end, printed_next, skipped_next}
use Rattle.termwiz_screen.proofs.diff.rows.print_walk.Goals as goal
use Rattle.termwiz_screen.proofs.diff.rows.print_walk.Goals.{then-next-region+in_ok-print_unless_shown, else-next-region}

pub loop-cell-preserved : goal.loop-cell-preserved
loop-cell-preserved c = record {
  can = tt;
  finite = tt;
  at = λ cs e. subst (λ n. IsAt cs (c.loop-cell.next + n) (cells_left c.next.new.self)) (sym wide) (met cs e).at;
  reached = omega (arith, c.width-width.ensures, c.if-next-end.false, columns_bounds (ref_cell c.in-Some.cell), wide);
  printed = λ w cs e l. printed w cs e l ∙ ap (λ n. fold print_out c.args.writer.now (map (in_row c.args.row) (row_need c.args.own.now c.args.region.x (row_of w cs) c.args.region.other_x (min c.args.region.width (c.loop-cell.next + n - c.args.region.other_x))))) (sym wide);
}
  where
    wide : c.width-width.result ≡ columns (ref_cell c.in-Some.cell)
    wide = c.width-width.ensures ∙ c.in-Some.ensures.steps.1.width

    met : (cs : List CellValue) → cells_left c.into_iter-cell-iterator.result ≡ visible cs → IsNext cs c.loop-cell.next (indexed_cell c.in-Some.cell) (cells_left c.next.new.self)
    met cs e = at_next cs c.loop-cell.next (cells_left c.loop-cell.cell-iterator) (indexed_cell c.in-Some.cell) (cells_left c.next.new.self) (c.loop-cell.invariant.at cs e) c.in-Some.ensures.steps.0

    printed : (w : ℕ) (cs : List CellValue) → cells_left c.into_iter-cell-iterator.result ≡ visible cs → c.args.region.other_x + c.args.region.width ≤ w →
        c.if-next-region.writer ≡ fold print_out c.args.writer.now (map (in_row c.args.row) (row_need c.args.own.now c.args.region.x (row_of w cs) c.args.region.other_x (min c.args.region.width (c.loop-cell.next + columns (ref_cell c.in-Some.cell) - c.args.region.other_x))))
    printed w cs e l = elim c.if-next-region.branch [
      | then-next-region+in_ok-print_unless_shown b ↦
          b.writer-is ∙ printed_next c.args.own.now c.args.region.x cs c.args.region.other_x c.args.region.width w c.args.row c.args.writer.now c.loop-cell.writer b.print_unless_shown.new.writer c.loop-cell.next (ref_cell c.in-Some.cell)
          (met cs e).cell (c.loop-cell.invariant.at cs e).starts (omega (arith, b.if-next-region.true)) (omega (arith)) l (c.loop-cell.invariant.printed w cs e l)
          b.in_ok-print_unless_shown.ensures
      | else-next-region b ↦
          b.writer-is ∙ skipped_next c.args.own.now c.args.region.x cs c.args.region.other_x c.args.region.width w c.args.row c.args.writer.now c.loop-cell.writer c.loop-cell.next (ref_cell c.in-Some.cell)
          (met cs e).cell (c.loop-cell.invariant.at cs e).starts (omega (arith, b.if-next-region.false)) l (c.loop-cell.invariant.printed w cs e l)
    ]

pub returns-clause-rest : goal.returns-clause-rest
returns-clause-rest c = λ w cs e l. at_end w cs c.loop-cell.next (cells_left c.loop-cell.cell-iterator) (c.loop-cell.invariant.at cs (ap cells_left c.into_iter-cell-iterator.ensures.into_iter_gives ∙ e)) c.in-None.ensures.steps.0
