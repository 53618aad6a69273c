use Rattle.std.proofs.Common.{sym, subst, ◌∙◌, arith}
use Rattle.std.specs.Prelude.{IsUtf8}
use Rattle.termwiz_cell.proofs.TextForms.{one_ascii}
use Rattle.termwiz_cell.proofs.cell.short_text.only_byte.Goals as goal

pub returns-in-len1 : goal.returns-in-len1
returns-in-len1 c =
    let one = one_ascii c.as_bytes.result.now (omega (arith, c.in-len1.len_at_least, c.in-len1.len_below)) (subst IsUtf8 (sym c.as_bytes.ensures.value) c.as_str.utf8) in
    (one.0, sym c.as_str.ensures.value ∙ (sym c.as_bytes.ensures.value ∙ one.1))
