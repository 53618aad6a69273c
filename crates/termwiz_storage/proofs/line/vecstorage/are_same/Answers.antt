use Rattle.std.proofs.Common.{◌≡◌, ◌⊎◌, ◌<◌, ℕ, inl, inr, true, false, List, length, get_or, arith, refl, sym, ap, ◌∙◌, subst}
use Rattle.std.specs.Prelude.{not}
use Rattle.std.proofs.lemmas.Bool.{cases_eq, cases_Bool, true≢false}
use Rattle.std.proofs.lemmas.List.{ext_get_or, get_or_default}
use Rattle.termwiz_cell.specs.CellValue.{CellValue, blank, cell_eq, cell_eq-Decides}
use Rattle.termwiz_storage.specs.Stored.{stored}
use Rattle.termwiz_storage.proofs.line.vecstorage.are_same.Goals as goal

at : (cs : List CellValue) (i : ℕ) (x : CellValue) → x ≡ get_or cs i x → i < length cs → x ≡ stored cs i
at cs i x e l = e ∙ get_or_default cs i x blank l

pub loop-i-init : goal.loop-i-init
loop-i-init c = λ k l. absurd (omega arith)

pub loop-i-preserved : goal.loop-i-preserved
loop-i-preserved c = λ k l. elim (cases_eq k c.loop-i.i) [
  | inl e ↦ subst (λ (n : ℕ). stored c.args.cells.now n ≡ stored c.args.others.now n) (sym e) (sym own ∙ same (cases_Bool _) ∙ other)
  | inr n ↦ c.loop-i.invariant k (omega arith)
]
  where
    own : c.index-cells-i.result ≡ stored c.args.cells.now c.loop-i.i
    own = at c.args.cells.now c.loop-i.i _ c.index-cells-i.is c.loop-i-test.true

    other : c.index-others-i.result ≡ stored c.args.others.now c.loop-i.i
    other = at c.args.others.now c.loop-i.i _ c.index-others-i.is (omega (arith, c.loop-i-test.true, c.requires))

    same : (cell_eq c.index-cells-i.result c.index-others-i.result ≡ true) ⊎ (cell_eq c.index-cells-i.result c.index-others-i.result ≡ false) → c.index-cells-i.result ≡ c.index-others-i.result
    same (inl t) = (cell_eq-Decides c.index-cells-i.result c.index-others-i.result).0 t
    same (inr f) = absurd (true≢false (sym (c.ne.ensures ∙ ap not f) ∙ c.if-ne.false))

pub returns-then-ne : goal.returns-then-ne
returns-then-ne c = ((λ t. absurd (true≢false (sym t))), λ e. absurd (true≢false (sym c.if-ne.true ∙ c.ne.ensures ∙ ap not (equal e))))
  where
    equal : c.args.cells.now ≡ c.args.others.now → cell_eq c.index-cells-i.result c.index-others-i.result ≡ true
    equal e = (cell_eq-Decides c.index-cells-i.result c.index-others-i.result).1
        (at c.args.cells.now c.loop-i.i _ c.index-cells-i.is c.loop-i-test.true ∙ ap (λ cs. stored cs c.loop-i.i) e ∙ sym (at c.args.others.now c.loop-i.i _ c.index-others-i.is (omega (arith, c.loop-i-test.true, c.requires))))

pub returns : goal.returns
returns c = ((λ t. ext_get_or blank c.args.cells.now c.args.others.now c.requires (λ k l. c.loop-i.invariant k (omega (arith, c.loop-i-test.false)))), λ e. refl)
