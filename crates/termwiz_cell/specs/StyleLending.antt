-- What a form of attributes lends.
use Rattle.std.specs.Borrow.{Lends, MutBor, Fml}
use Rattle.termwiz_cell.specs.declared.cell.form.Form.{Form}
use Rattle.termwiz_cell.specs.Style.{Style}
use Rattle.termwiz_cell.specs.AttributesLayout.{with_style}
use Rattle.termwiz_cell.specs.contracts.cell.form.Form as form
use Rattle.termwiz_cell.specs.contracts.cell.style_word.StyleWord as word

-- the form ends with the style that r last points to
abbrev pub LendsStyle : MutBor Form → MutBor Style → Fml
LendsStyle f r = Lends form.the_row word.the_row f r (λ s. with_style f.now s)
