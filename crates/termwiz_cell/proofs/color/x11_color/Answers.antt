use Rattle.termwiz_cell.proofs.ColorRead.{Reads-x11, Reads-x11_no_slash, Reads-x11_one_slash}
use Rattle.termwiz_cell.proofs.color.x11_color.Goals as goal

pub returns-in_err-red : goal.returns-in_err-red
returns-in_err-red c = rw c.from_residual.ensures (Reads-x11_no_slash _ c.in_err-red.ensures.cases)

pub returns-in_err-green : goal.returns-in_err-green
returns-in_err-green c =
    rw c.from_residual-in_err-green.ensures
    (Reads-x11_one_slash _ c.in_ok-red.red c.in_ok-red.rest c.in_ok-red.ensures.cases c.in_err-green.ensures.cases)

pub returns : goal.returns
returns c =
    rw c.color_of.ensures
    (Reads-x11 _ c.in_ok-red.red c.in_ok-red.rest c.in_ok-green.green c.in_ok-green.blue _ _ _ c.in_ok-red.ensures.cases c.in_ok-green.ensures.cases
    (rw c.as_bytes.ensures.value at c.hex_part.ensures) (rw c.as_bytes-2.ensures.value at c.hex_part-2.ensures) (rw c.as_bytes-3.ensures.value at c.hex_part-3.ensures))
