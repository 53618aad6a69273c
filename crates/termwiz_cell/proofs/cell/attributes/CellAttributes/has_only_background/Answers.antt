use Rattle.std.proofs.Common.{◌≡◌, sym, ap, ◌∙◌, true, bytes_eq}
use Rattle.std.specs.Prelude.{is_none}
use Rattle.termwiz_cell.specs.Attributes.{bits_of, default_attributes, is_default}
use Rattle.termwiz_cell.proofs.PlainAttributes.{plain_link, is_none_map}
use Rattle.termwiz_cell.proofs.cell.attributes.CellAttributes.has_only_background.Goals as goal

pub returns-then-is_default_color-2 : goal.returns-then-is_default_color-2
returns-then-is_default_color-2 c =
    let a = c.args.self.now in
    let bits : bytes_eq (bits_of a) (bits_of default_attributes) ≡ true = sym c.has_default_bits.ensures ∙ c.if-has_default_bits.true in
    let foreground : is_default a.foreground ≡ true =
    ap is_default (sym c.foreground.ensures) ∙ sym c.is_default_color.ensures ∙ c.if-is_default_color.true in
    let underline : is_default a.underline_color ≡ true =
    ap is_default (sym c.underline_color.ensures) ∙ sym c.is_default_color-then-is_default_color.ensures ∙ c.if-is_default_color-2.true in
    let link : is_none a.hyperlink ≡ c.is_none.result = ap is_none (sym c.hyperlink.ensures) ∙ is_none_map _ c.hyperlink.result c.is_none.result c.is_none.ensures in
    sym link ∙ plain_link a bits foreground underline
