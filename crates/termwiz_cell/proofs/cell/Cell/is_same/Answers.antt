use Rattle.std.proofs.Common.{◌≡◌, Bool, true, false, refl, sym, ◌∙◌}
use Rattle.std.specs.Prelude.{◌&&◌}
use Rattle.termwiz_cell.specs.CellValue.{cell_eq}
use Rattle.termwiz_cell.proofs.cell.Cell.is_same.Goals as goal

last : (a b d : Bool) → (a && b) ≡ true → d ≡ (a && (b && d))
last true true d h = refl
last true false d h = cc
last false b d h = cc

pub returns-then-is_same : goal.returns-then-is_same
returns-then-is_same c = c.eq.ensures.value ∙ last _ _ _ (sym c.is_same.ensures ∙ c.if-is_same.true) ∙ (λ i. cell_eq (c.self.view_is i) (c.other.view_is i))
