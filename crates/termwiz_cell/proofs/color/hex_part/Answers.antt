use Rattle.std.proofs.Common.{arith}
use Rattle.termwiz_cell.proofs.ColorRead.{Reads-part_two, Reads-part_four, Reads-part_other}
use Rattle.termwiz_cell.proofs.color.hex_part.Goals as goal

pub returns-in-len2 : goal.returns-in-len2
returns-in-len2 c = Reads-part_two _ _ (omega arith) c.hex_byte.ensures

pub returns-in-len4 : goal.returns-in-len4
returns-in-len4 c =
    rw c.and.ensures (Reads-part_four _ _ _ (omega arith) c.hex_byte-in-len4.ensures c.hex_byte-in-len4-2.ensures)

pub returns-in_default : goal.returns-in_default
returns-in_default c = Reads-part_other _ (grind arith) (grind arith)
