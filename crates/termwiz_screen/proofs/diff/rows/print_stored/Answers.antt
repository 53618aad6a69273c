use Rattle.std.proofs.Common.{◌≡◌, ◌+◌, ◌-◌, ◌<◌, Some, [], ◌∷◌, arith, cond, fold, map, min, length, refl, subst, sym, ap, ◌∙◌}
use Rattle.std.proofs.lemmas.List.{get_or_read}
use Rattle.termwiz_cell.specs.CellValue.{blank, columns}
use Rattle.termwiz_storage.specs.Stored.{stored}
use Rattle.termwiz_storage.specs.VisibleCell.{at_column}
use Rattle.termwiz_screen.specs.Diff.{PrintedOut, end_of, in_row, print_out}
use Rattle.termwiz_screen.specs.Walked.{IsPrintedTo}
use Rattle.termwiz_screen.proofs.RowChanges.Walked.{ends_blank, printed_to_next, printed_to_run, printed_to_start, shown_narrow}
use Rattle.termwiz_screen.proofs.diff.rows.print_stored.Goals as goal
use Rattle.termwiz_screen.proofs.diff.rows.print_stored.Goals.{then-shown, else-shown+in_ok-next}

pub loop-next-init : goal.loop-next-init
loop-next-init c =
    let first = c.first_visible-next.ensures in
    printed_to_start c.args.own.now c.args.region.x c.args.cells.now c.args.region.other_x c.args.region.width c.args.row c.args.writer.now c.first_visible-next.result first.from first.visible first.hidden

pub returns-clause-rest : goal.returns-clause-rest
returns-clause-rest c = λ w l. ends_blank w c.args.cells.now c.loop-next.next (omega (arith, l, c.loop-next-test.false, c.min-end.ensures)) c.loop-next.invariant.visible

pub loop-next-preserved-then-width-eq1 : goal.loop-next-preserved-then-width-eq1
loop-next-preserved-then-width-eq1 c =
    let r = c.args.region in
    let own = c.args.own.now in
    let cells = c.args.cells.now in
    let next = c.loop-next.next in
    let cell = c.index-cells-next.result in
    let printed = c.print_unless_stored.new.writer in
    let column = r.x + (next - r.other_x) in
    let inside : next < min (length cells) (r.other_x + r.width) = omega (arith, c.loop-next-test.true, c.min-end.ensures) in
    let same : cell ≡ stored cells next = get_or_read cells next cell (omega (arith, inside)) c.index-cells-next.is blank in
    let narrow : columns cell ≡ 1 = sym c.width-in-loop-next.ensures.value ∙ c.if-width-eq1.true in
    let behind : column + 1 ≡ r.x + (next + c.width.result - r.other_x) = omega (arith, c.loop-next.invariant.within, narrow, c.width.ensures.value) in
    let step : IsPrintedTo own r.x cells r.other_x r.width c.args.row c.args.writer.now printed (next + c.width.result) =
    subst (λ n. IsPrintedTo own r.x cells r.other_x r.width c.args.row c.args.writer.now printed (next + n)) (sym c.width.ensures.value)
    (printed_to_next own r.x cells r.other_x r.width c.args.row c.args.writer.now c.loop-next.writer printed next cell c.loop-next.invariant same (omega (arith, inside)) c.in_ok-shown.ensures.printed)
    in
    elim c.if-shown.branch [
      | then-shown t ↦
          let run = t.count_same.ensures in
          subst (λ e. IsPrintedTo own r.x cells r.other_x r.width c.args.row c.args.writer.now e (next + c.width.result + c.if-shown.next)) (sym t.writer-is)
          (subst (λ n. IsPrintedTo own r.x cells r.other_x r.width c.args.row c.args.writer.now printed (next + c.width.result + n)) (sym t.next-is)
          (printed_to_run own r.x cells r.other_x r.width c.args.row c.args.writer.now printed (next + c.width.result) t.count_same.result (column + 1) step behind
          (shown_narrow own column (column + 1) cell (sym c.in_ok-shown.ensures.shown ∙ t.if-shown.true) narrow refl)
          (omega (arith, run.end, c.min-end.ensures)) run.same run.narrow))
      | else-shown+in_ok-next t ↦
          let end : printed.end ≡ Some (end_of (in_row c.args.row (at_column column cell))) =
          ap (λ (d : PrintedOut). d.end)
          (c.in_ok-shown.ensures.printed
          ∙ ap (λ s. fold print_out c.loop-next.writer (map (in_row c.args.row) (cond s [] (at_column column cell ∷ [])))) (sym c.in_ok-shown.ensures.shown ∙ t.if-shown.false))
          in
          subst (λ e. IsPrintedTo own r.x cells r.other_x r.width c.args.row c.args.writer.now e (next + c.width.result + c.if-shown.next)) (sym t.writer-is)
          (subst (λ n. IsPrintedTo own r.x cells r.other_x r.width c.args.row c.args.writer.now t.print_run.new.self (next + c.width.result + n)) (sym t.next-is)
          (t.in_ok-next.ensures.printed (end_of (in_row c.args.row (at_column column cell))) r.x r.other_x r.width c.args.writer.now end (omega (arith, narrow)) behind (omega (arith, c.min-end.ensures)) step))
    ]

pub loop-next-preserved : goal.loop-next-preserved
loop-next-preserved c =
    let r = c.args.region in
    let own = c.args.own.now in
    let cells = c.args.cells.now in
    let next = c.loop-next.next in
    let cell = c.index-cells-next.result in
    let inside : next < min (length cells) (r.other_x + r.width) = omega (arith, c.loop-next-test.true, c.min-end.ensures) in
    subst (λ n. IsPrintedTo own r.x cells r.other_x r.width c.args.row c.args.writer.now c.print_unless_stored.new.writer (next + n)) (sym c.width.ensures.value)
    (printed_to_next own r.x cells r.other_x r.width c.args.row c.args.writer.now c.loop-next.writer c.print_unless_stored.new.writer next cell c.loop-next.invariant
    (get_or_read cells next cell (omega (arith, inside)) c.index-cells-next.is blank) (omega (arith, inside)) c.in_ok-shown.ensures.printed)
