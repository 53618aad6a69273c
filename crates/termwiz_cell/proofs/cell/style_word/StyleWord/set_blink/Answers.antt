use Rattle.std.proofs.Common.{ℕ, ◌+◌, ◌-◌, ◌*◌, ◌/◌, ◌%◌, ◌^◌, ap, ◌∙◌}
use Rattle.termwiz_cell.specs.Style.{Style}
use Rattle.termwiz_cell.specs.StyleWord.{style_at}
use Rattle.termwiz_cell.proofs.StyleSetters.{blink-spelt}
use Rattle.termwiz_cell.proofs.cell.style_word.StyleWord.set_blink.Goals as goal

pub returns : goal.returns
returns c =
    let w : ℕ = c.self.inside.word in
    ap style_at (c.with_digit-word.ensures ∙ ap (λ (digit : ℕ). w - w / 2 ^ 11 % 3 * 2 ^ 11 + digit * 2 ^ 11) c.number.ensures.value)
    ∙ blink-spelt w c.args.value c.self.invariant
    ∙ ap (λ (s : Style). record s { blink = c.args.value }) c.self.view_is
