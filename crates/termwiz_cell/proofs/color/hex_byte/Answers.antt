use Rattle.termwiz_cell.proofs.ColorRead.{Reads-byte, Reads-byte_no_high, Reads-byte_no_low}
use Rattle.termwiz_cell.proofs.color.hex_byte.Goals as goal

pub returns-in_err-hex_digit : goal.returns-in_err-hex_digit
returns-in_err-hex_digit c = rw c.from_residual.ensures (Reads-byte_no_high _ _ c.in_err-hex_digit.ensures.reads)

pub returns-in_err-hex_digit-2 : goal.returns-in_err-hex_digit-2
returns-in_err-hex_digit-2 c = rw c.from_residual-in_err-hex_digit-2.ensures (Reads-byte_no_low _ _ c.in_err-hex_digit-2.ensures.reads)

pub returns : goal.returns
returns c = Reads-byte _ _ _ _ c.in_ok-hex_digit.ensures.reads c.in_ok-hex_digit-2.ensures.reads
