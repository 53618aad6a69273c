use Rattle.std.proofs.Common.{◌≡◌, sym, ap, ◌∙◌, bytes_eq}
use Rattle.std.proofs.lemmas.Bool.Decides.{same_from_decides}
use Rattle.std.specs.Cmp.Lexicographic.{bytes_decides}
use Rattle.termwiz_cell.specs.Attributes.{bits_of, default_attributes, without_colors, same-bits}
use Rattle.termwiz_cell.proofs.cell.attributes.CellAttributes.has_default_bits.Goals as goal

pub returns : goal.returns
returns c =
    let a = c.args.self.now in
    let same = same-bits a default_attributes in
    let bits = bytes_decides (bits_of a) (bits_of default_attributes) in
    same_from_decides {P = without_colors a ≡ without_colors default_attributes} c.attribute_bits_equal-2.result (bytes_eq (bits_of a) (bits_of default_attributes))
    (λ h. c.attribute_bits_equal-2.ensures.0 h ∙ ap without_colors c.blank.ensures, λ e. c.attribute_bits_equal-2.ensures.1 (e ∙ ap without_colors (sym c.blank.ensures)))
    (λ h. same.0 (bits.0 h), λ e. bits.1 (same.1 e))
