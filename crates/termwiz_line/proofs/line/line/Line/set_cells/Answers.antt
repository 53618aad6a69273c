use Rattle.std.proofs.Common.{arith}
use Rattle.std.proofs.lemmas.Bool.{iff_false}
use Rattle.termwiz_line.proofs.Fills.{on_err, partly_filled, Fills-none, Fills-more, Fills-unchanged, Fills-all, HasForm-none, HasForm-more, HasForm-appended, HasForm-elsewhere}
use Rattle.termwiz_line.proofs.line.line.Line.set_cells.Goals as goal

pub returns-in_err-copy-clause-err : goal.returns-in_err-copy-clause-err
returns-in_err-copy-clause-err c = on_err _ (partly_filled {a = c.args.from} {b = c.args.to} c.loop-i.invariant.within c.loop-i.invariant.fills)

pub returns-in_err-set_cell-clause-err : goal.returns-in_err-set_cell-clause-err
returns-in_err-set_cell-clause-err c = on_err _ (partly_filled {a = c.args.from} {b = c.args.to} c.loop-i.invariant.within (Fills-unchanged c.loop-i.invariant.fills c.in_err-set_cell.ensures.err))

pub loop-i-init : goal.loop-i-init
loop-i-init c = record { fills = Fills-all (omega arith) (Fills-none c.args.from c.args.seqno c.args.cell.now c.args.self.now); within = omega arith; form = HasForm-none c.args.cell.now c.args.self.now (omega arith) }

pub loop-i-preserved : goal.loop-i-preserved
loop-i-preserved c = record {
  fills = Fills-more (omega arith) (omega arith) c.in_ok-copy.ensures.cases c.loop-i.invariant.fills c.in_ok-set_cell.ensures.ok;
  within = omega arith;
  form = HasForm-more (omega arith) (omega arith) c.in_ok-copy.ensures.cases c.loop-i.invariant.fills c.loop-i.invariant.form c.in_ok-set_cell.ensures.ok c.in_ok-set_cell.ensures.appended c.in_ok-set_cell.ensures.made;
}

pub returns-clause-ok : goal.returns-clause-ok
returns-clause-ok c = Fills-all (omega arith) c.loop-i.invariant.fills

pub returns-in_err-set_blanks-clause-err : goal.returns-in_err-set_blanks-clause-err
returns-in_err-set_blanks-clause-err c = on_err _ (partly_filled {n = 0} {a = c.args.from} {b = c.args.to} (omega arith) (Fills-unchanged (Fills-none c.args.from c.args.seqno c.args.cell.now c.args.self.now) c.in_err-set_blanks.ensures.err))

pub returns-clause-appended : goal.returns-clause-appended
returns-clause-appended c = HasForm-appended {b = c.args.to} (omega arith) c.loop-i.invariant.form

pub returns-clause-made : goal.returns-clause-made
returns-clause-made c = HasForm-elsewhere (omega arith) (iff_false c.is_blank.ensures c.if-is_blank.false) c.loop-i.invariant.form

pub returns-in_err-set_copies-clause-err : goal.returns-in_err-set_copies-clause-err
returns-in_err-set_copies-clause-err c = on_err _ (partly_filled {n = 0} {a = c.args.from} {b = c.args.to} (omega arith) (Fills-unchanged (Fills-none c.args.from c.args.seqno c.args.cell.now c.args.self.now) c.in_err-set_copies.ensures.err))
