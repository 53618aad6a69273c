use Rattle.std.proofs.Common.{arith}
use Rattle.termwiz_cell.proofs.ColorRead.{Reads-hex_three, Reads-hex_six, Reads-hex_other}
use Rattle.termwiz_cell.proofs.color.hex_color.Goals as goal

pub returns-in-len3 : goal.returns-in-len3
returns-in-len3 c =
    rw c.color_of.ensures
    (Reads-hex_three _ _ _ _ (omega arith) c.hex_byte.ensures c.hex_byte-in-len3.ensures c.hex_byte-in-len3-2.ensures)

pub returns-in-len6 : goal.returns-in-len6
returns-in-len6 c =
    rw c.color_of-in-len6.ensures
    (Reads-hex_six _ _ _ _ (omega arith) c.hex_byte-in-len6.ensures c.hex_byte-in-len6-2.ensures c.hex_byte-in-len6-3.ensures)

pub returns-in_default : goal.returns-in_default
returns-in_default c = Reads-hex_other _ (grind arith) (grind arith)
