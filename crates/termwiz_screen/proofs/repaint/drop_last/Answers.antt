use Rattle.std.proofs.Common.{vec_len, arith}
use Rattle.termwiz_cell.specs.ChangeValue.{change_value}
use Rattle.termwiz_screen.proofs.Repaints.LastChanges.{front_popped}
use Rattle.termwiz_screen.proofs.repaint.drop_last.Goals as goal

pub returns : goal.returns
returns c =
    let old = c.args.entries.now in
    front_popped change_value old.items c.pop.new.self.items c.pop.result (vec_len old) (vec_len c.pop.new.self) c.pop.ensures.items (omega (arith, old.ok.0)) c.pop.ensures.cases
