use Rattle.std.proofs.Common.{◌∙◌, arith}
use Rattle.termwiz_text.proofs.LetterBytes.{letter_by_bytes, none_by_bytes}
use Rattle.termwiz_text.proofs.bytes_begin_letter.Goals as goal

pub returns-in-224-to-239 : goal.returns-in-224-to-239
returns-in-224-to-239 c =
    rw (c.from.ensures, c.from-in-224-to-239.ensures, c.from-in-224-to-239-2.ensures) at c.is_letter_number.ensures
    ∙ letter_by_bytes c.args.bytes.now c.requires c.in-224-to-239.len_at_least (omega arith) (omega arith)

pub returns-in_default : goal.returns-in_default
returns-in_default c = none_by_bytes c.args.bytes.now c.requires (λ h. absurd (omega (arith, h.long, c.in_default.len_below)))

pub returns-in_default-2 : goal.returns-in_default-2
returns-in_default-2 c = none_by_bytes c.args.bytes.now c.requires (λ h. absurd (omega (arith, h.low, h.high)))

pub returns-in_default-3 : goal.returns-in_default-3
returns-in_default-3 c = none_by_bytes c.args.bytes.now c.requires (λ h. absurd (omega (arith, h.low, h.high)))
