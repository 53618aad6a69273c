use Rattle.std.proofs.Common.{◌≡◌, ◌≢◌, ◌-◌, List, ◌∷◌, take, sym, subst, ◌∙◌, arith}
use Rattle.std.proofs.lemmas.Result.{IfOk-weaker}
use Rattle.termwiz_storage.specs.CellRef.{indexed_cell}
use Rattle.termwiz_storage.specs.CellsLeft.{cells_left}
use Rattle.termwiz_storage.specs.Stored.{visible}
use Rattle.termwiz_storage.specs.VisibleCell.{VisibleCell}
use Rattle.termwiz_line.specs.Trim.{IsTrimmed}
use Rattle.termwiz_line.specs.Wraps.{IsSpace}
use Rattle.termwiz_line.proofs.Walk.{walk_grows}
use Rattle.termwiz_line.proofs.Takes.{take_one}
use Rattle.termwiz_line.proofs.WrappedLines.{IsWrapped-cut, fits_width}
use Rattle.termwiz_line.proofs.line.line.Line.wrap.Goals as goal

pub text_count-kept-requires : goal.text_count-kept-requires
text_count-kept-requires c = rw c.visible_cells.ensures (omega (arith, (walk_grows 0 0 c.args.self.cells).0, c.len-len.ensures))

pub returns-in-Some-clause-ok : goal.returns-in-Some-clause-ok
returns-in-Some-clause-ok c =
    let cells : List VisibleCell = visible c.args.self.cells in
    let e : cells ≡ indexed_cell c.in-Some.first ∷ cells_left c.next.new.self = sym c.visible_cells-rest.ensures ∙ c.in-Some.ensures.steps.0 in
    let t : IsTrimmed IsSpace cells (take c.text_count-kept.result cells) = subst (λ (x : List VisibleCell). IsTrimmed IsSpace x (take c.text_count-kept.result x)) c.visible_cells.ensures c.text_count-kept.ensures in
    let some : c.text_count-kept.result ≢ 0 = omega (arith, c.if-kept-gt0.true) in
    let k : take c.text_count-kept.result cells ≡ indexed_cell c.in-Some.first ∷ take (c.text_count-kept.result - 1) (cells_left c.next.new.self) = take_one c.text_count-kept.result cells (cells_left c.next.new.self) (indexed_cell c.in-Some.first) some e in
    IfOk-weaker c.lines_from.result _ _ (λ lines h. IsWrapped-cut c.args.width c.args.seqno c.args.self lines.items _ _ _ t k h) c.lines_from.ensures

pub returns-in-Some-clause-fits : goal.returns-in-Some-clause-fits
returns-in-Some-clause-fits c =
    λ l. IfOk-weaker c.lines_from.result _ _ (λ lines h. fits_width c.args.width c.args.seqno c.args.self lines.items l h) (returns-in-Some-clause-ok c)
