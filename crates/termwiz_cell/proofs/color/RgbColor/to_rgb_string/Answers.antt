use Rattle.std.proofs.Common.{◌<◌, sym, subst, arith}
use Rattle.std.proofs.lemmas.Result.{IfOk-weaker}
use Rattle.termwiz_cell.specs.ColorText.{IsColorText}
use Rattle.termwiz_cell.proofs.ColorPrinted.{byte_text-printed, rgb_text-IsColorText}
use Rattle.termwiz_cell.proofs.color.RgbColor.to_rgb_string.Goals as goal

pub returns : goal.returns
returns c =
    let parts = c.to_tuple_rgb8-red.result in
    let red : parts.0 < 256 = omega arith in
    let green : parts.1 < 256 = omega arith in
    let blue : parts.2 < 256 = omega arith in
    let written = rw (c.in_radix.ensures, c.in_radix-2.ensures, c.in_radix-3.ensures, c.laid_out.ensures, c.laid_out-2.ensures, c.laid_out-3.ensures) at c.format.ensures.ok in
    let spelled = rw (byte_text-printed parts.0, byte_text-printed parts.1, byte_text-printed parts.2, c.to_tuple_rgb8-red.ensures) at written in
    let color = rgb_text-IsColorText c.args.self (rw c.to_tuple_rgb8-red.ensures at red) (rw c.to_tuple_rgb8-red.ensures at green) (rw c.to_tuple_rgb8-red.ensures at blue) in
    record {
      text = spelled;
      read_back = IfOk-weaker c.format.result _ _ (λ text e. subst (λ t. IsColorText t c.args.self) (sym e) color) spelled;
    }
