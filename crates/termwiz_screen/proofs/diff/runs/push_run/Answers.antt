use Rattle.std.proofs.Common.{◌≡◌, ◌+◌, ◌-◌, ◌<◌, false, cond, not, [], ◌∷◌, fold, map, arith, ap, sym, ◌∙◌, subst}
use Rattle.std.proofs.lemmas.Bool.{and_right}
use Rattle.std.proofs.lemmas.List.{get_or_read}
use Rattle.termwiz_cell.specs.CellValue.{CellValue, blank, cell_eq, plain_cell}
use Rattle.termwiz_storage.specs.Stored.{stored}
use Rattle.termwiz_storage.specs.VisibleCell.{at_column}
use Rattle.termwiz_line.specs.GrowingText.{ends_printable}
use Rattle.termwiz_line.specs.LastChange.{last_is}
use Rattle.termwiz_line.specs.Row.{is_hidden}
use Rattle.termwiz_line.proofs.JoinedTexts.{ends_with_plain}
use Rattle.termwiz_screen.specs.Diff.{PrintedOut, in_row, print_out, shows}
use Rattle.termwiz_screen.specs.Ends.{ended_at}
use Rattle.termwiz_screen.specs.Walked.{IsPrintedTo}
use Rattle.termwiz_screen.proofs.Repaints.PlainRuns.{plain_behind}
use Rattle.termwiz_screen.proofs.RowChanges.Walked.{printed_to_next}
use Rattle.termwiz_screen.proofs.diff.runs.push_run.Goals as goal

pub loop-k-preserved : goal.loop-k-preserved
loop-k-preserved c =
    let own = c.args.own.now in
    let cells = c.args.cells.now in
    let from = c.args.from in
    let k = c.loop-k.k in
    let byte = c.in-Some.byte in
    let pen = c.args.pen.now in
    let column = c.args.column + k in
    let cell : CellValue = plain_cell byte pen in
    let entries = c.push_plain.new.self in
    let inside : from + k < c.args.end = omega (arith, c.loop-k-test.true, c.min-count.ensures) in
    let own_cell : c.index-own-column.result ≡ stored own column =
    get_or_read own column c.index-own-column.result (omega (arith, c.loop-k-test.true, c.min-count.ensures, c.saturating_sub.ensures)) c.index-own-column.is blank in
    let other_cell : c.index-cells-from.result ≡ stored cells (from + k) =
    get_or_read cells (from + k) c.index-cells-from.result (omega (arith, inside, c.requires.stored)) c.index-cells-from.is blank in
    let same : c.index-cells-from.result ≡ cell = c.in-Some.ensures.cell in
    let other : cell_eq (stored own column) cell ≡ false = (λ i. cell_eq (sym own_cell i) (sym same i)) ∙ c.in-Some.ensures.other in
    let hidden : shows own column cell ≡ false = and_right (not (is_hidden own column)) (cell_eq (stored own column) cell) other in
    record {
      text = ap (last_is ends_printable) c.in_ok-push_plain-in-Some.ensures ∙ ends_with_plain c.loop-k.entries byte c.in-Some.ensures.plain;
      printed = λ x q n row d place end z.
          let before : PrintedOut = ended_at c.loop-k.entries column row pen in
          let after : PrintedOut = ended_at entries (column + 1) row pen in
          let here : column ≡ x + (from + k - q) = omega (arith, place, z.within) in
          let printed : after ≡ print_out before (record { row = row; column = column; cell = cell }) =
          ap (λ es. ended_at es (column + 1) row pen) c.in_ok-push_plain-in-Some.ensures ∙ plain_behind c.loop-k.entries column row pen byte in
          let next : column + 1 ≡ c.args.column + (k + 1) = omega arith in
          let index : from + k + 1 ≡ from + (k + 1) = omega arith in
          subst (λ m. IsPrintedTo own x cells q n row d (ended_at entries m row pen) (from + (k + 1))) next
          (subst (IsPrintedTo own x cells q n row d after) index
          (printed_to_next own x cells q n row d before after (from + k) cell (c.loop-k.invariant.printed x q n row d place end z) (sym same ∙ other_cell) (omega (arith, inside, end))
          (printed
          ∙ ap (λ s. fold print_out before (map (in_row row) (cond s [] (at_column column cell ∷ [])))) (sym hidden)
          ∙ ap (λ m. fold print_out before (map (in_row row) (cond (shows own m cell) [] (at_column m cell ∷ [])))) here)));
    }

pub returns-clause-printed : goal.returns-clause-printed
returns-clause-printed c = λ x q n row d place end z.
    let all : c.loop-k.k ≡ c.min-count.result = omega (arith, c.loop-k-test.false, c.loop-k.auto.k-end) in
    subst (λ m. IsPrintedTo c.args.own.now x c.args.cells.now q n row d (ended_at c.loop-k.entries (c.args.column + m) row c.args.pen.now) (c.args.from + m)) all (c.loop-k.invariant.printed x q n row d place end z)
