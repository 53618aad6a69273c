use Rattle.std.proofs.Common.{◌≡◌, ◌+◌, arith, ap, ◌∙◌}
use Rattle.std.proofs.lemmas.List.{get_or_read}
use Rattle.termwiz_cell.specs.CellValue.{blank, columns}
use Rattle.termwiz_storage.specs.Stored.{stored, hides}
use Rattle.termwiz_screen.proofs.RowChanges.Walked.{starts_behind, hidden_behind}
use Rattle.termwiz_screen.proofs.diff.rows.first_visible.Goals as goal

pub loop-next-preserved : goal.loop-next-preserved
loop-next-preserved c =
    let cells = c.args.cells.now in
    let next = c.loop-next.next in
    let start = c.loop-next.invariant.visible in
    let wide : c.width-next.result ≡ columns (stored cells next) =
    c.width-next.ensures.value ∙ ap columns (get_or_read cells next c.index-cells-next.result (omega (arith, c.if-next-cells.true)) c.index-cells-next.is blank)
    in record {
      visible = ap (λ n. hides cells (next + n)) wide ∙ starts_behind cells next start;
      hidden = λ k a b. hidden_behind cells next k start (omega (arith, a, c.loop-next-test.true)) (omega (arith, b, wide));
    }
