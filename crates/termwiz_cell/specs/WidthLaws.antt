-- The law of `Widths` at the Unicode tables.
use Rattle.std.proofs.Common.{◌≡◌, ℕ, ◌≤◌, List, [], ◌∷◌, refl, ap, ◌∙◌, arith, min, false}
use Rattle.std.specs.Str.{chars}
use Rattle.unicode_width.specs.Width.{str_width}
use Rattle.unicode_width.proofs.Rules.{str_width-printable}
use Rattle.termwiz_cell.specs.Width.{unicode_columns}

chars-space : chars (32 ∷ []) ≡ 32 ∷ []
unfolding chars
chars-space = refl

pub unicode_columns-space : unicode_columns (32 ∷ []) ≡ 1
unfolding unicode_columns
unicode_columns-space =
    ap (λ cs. min (str_width false cs) 2) chars-space ∙
    ap (λ n. min n 2) (str_width-printable false (32 ∷ []) refl)

pub unicode_columns-le : (text : List ℕ) → unicode_columns text ≤ 2
unfolding unicode_columns
unicode_columns-le text = omega arith
