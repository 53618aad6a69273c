use Rattle.std.proofs.Common.{◌++◌, sym, ap, ◌∙◌, codes, arith}
use Rattle.std.proofs.lemmas.Str.Pattern.{strip_prefix_char}
use Rattle.termwiz_cell.proofs.ColorRead.{Reads-hex_text, Reads-x11_text, Reads-no_text}
use Rattle.termwiz_cell.proofs.Readers.{IsNone-reads}
use Rattle.termwiz_cell.proofs.color.RgbColor.from_rgb_str.Goals as goal

pub returns-in_err-strip_prefix-in-None : goal.returns-in_err-strip_prefix-in-None
returns-in_err-strip_prefix-in-None c =
    let no_hex = rw c.in-None.is at (strip_prefix_char 35 _ c.strip_prefix.result c.strip_prefix.ensures.cases (omega arith)) in
    let reads = Reads-no_text _ no_hex c.in_err-strip_prefix-in-None.ensures.cases in
    rw c.from_residual.ensures (record { found = reads.found; only = reads.only; none = IsNone-reads _ reads })

pub returns-in-Some : goal.returns-in-Some
returns-in-Some c =
    let spelled = rw c.in-Some.is at (strip_prefix_char 35 _ c.strip_prefix.result c.strip_prefix.ensures.cases (omega arith)) in
    let reads = Reads-hex_text _ _ _ spelled (rw c.as_bytes.ensures.value at c.hex_color.ensures) in
    record { found = reads.found; only = reads.only; none = IsNone-reads _ reads }

pub returns-in_ok-strip_prefix-in-None : goal.returns-in_ok-strip_prefix-in-None
returns-in_ok-strip_prefix-in-None c =
    let found = c.in_ok-strip_prefix-in-None.ensures.cases in
    let spelled = found.1.1 ∙ ap (λ rest. codes "rgb:" ++ rest) (sym found.2) in
    let reads = Reads-x11_text _ _ _ spelled c.x11_color.ensures in
    record { found = reads.found; only = reads.only; none = IsNone-reads _ reads }
