use Rattle.termwiz_screen.proofs.RowChanges.Walked.{blank_next}
use Rattle.termwiz_screen.proofs.diff.rows.print_blanks.Goals as goal

pub loop-k-preserved : goal.loop-k-preserved
loop-k-preserved c = blank_next c.args.own.now c.args.from c.loop-k.k c.args.row c.args.padding.now c.args.writer.now c.loop-k.writer c.print_unless_shown.new.writer c.requires.blank c.loop-k.invariant c.in_ok-print_unless_shown.ensures
