use Rattle.std.proofs.Common.{◌==◌, List, ℕ, length, sym, ap, ◌∙◌}
use Rattle.std.specs.Str.Iter.{chars_rest}
use Rattle.termwiz_text.proofs.Letters.{is_only, is_not_only}
use Rattle.termwiz_text.proofs.only_char.Goals as goal

pub returns-then-not-is_empty : goal.returns-then-not-is_empty
returns-then-not-is_empty c =
    is_not_only c.args.text.now (chars_rest c.next.new.self) c.in_ok-only.only c.utf8.text (sym c.chars-chars.ensures.rest ∙ c.in_ok-only.ensures.steps.0) (ap (λ (t : List ℕ). length t == 0) (sym c.as_str.ensures) ∙ sym c.is_empty.ensures ∙ c.if-not-is_empty.true)

pub returns : goal.returns
returns c =
    is_only c.args.text.now (chars_rest c.next.new.self) c.in_ok-only.only c.utf8.text (sym c.chars-chars.ensures.rest ∙ c.in_ok-only.ensures.steps.0) (ap (λ (t : List ℕ). length t == 0) (sym c.as_str.ensures) ∙ sym c.is_empty.ensures ∙ c.if-not-is_empty.false)
