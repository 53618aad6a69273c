use Rattle.std.proofs.Common.{◌∙◌, List, ◌++◌, sym, ap, arith, append-nil}
use Rattle.termwiz_cell.specs.CellValue.{CellValue}
use Rattle.termwiz_storage.specs.Edits.{columns_between}
use Rattle.termwiz_storage.proofs.Edits.{left-more, left-none}
use Rattle.termwiz_storage.proofs.line.vecstorage.edits.push_columns.Goals as goal

pub loop-i-preserved : goal.loop-i-preserved
loop-i-preserved c =
    left-more c.args.from c.args.to c.loop-i.i c.loop-i.hidden c.hides_next-hidden.result c.is_shown.result c.index-cells-i.result c.args.cells.now c.loop-i.out.items _
    (c.args.out.now.items ++ columns_between c.args.from c.args.to c.args.cells.now) (omega arith) (omega arith) c.index-cells-i.is c.is_shown.ensures c.hides_next-hidden.ensures c.in_ok-push_where.ensures c.loop-i.invariant

pub returns : goal.returns
returns c =
    sym (append-nil c.loop-i.out.items)
    ∙ ap (λ (xs : List CellValue). c.loop-i.out.items ++ xs) (sym (left-none c.args.from c.args.to c.loop-i.i c.loop-i.hidden c.args.cells.now (omega arith)))
    ∙ c.loop-i.invariant
