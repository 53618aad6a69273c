-- Lines that are as wide as they are measured.
use Rattle.std.proofs.Common.{◌≡◌, ℕ, List, [], ◌∷◌, true, inl, inr, All, append-nil, drop, length, suc, refl, subst, ap, sym, ◌∙◌, arith}
use Rattle.std.specs.Prelude.{Some, ◌==◌}
use Rattle.std.specs.List.{concat}
use Rattle.std.specs.Str.{IsUtf8}
use Rattle.std.proofs.lemmas.Bool.{cases_Bool, eqb-true}
use Rattle.std.proofs.lemmas.List.Elements.{All-head, All-tail}
use Rattle.std.proofs.lemmas.Option.{same_Some}
use Rattle.unicode_segmentation.specs.Grapheme.{graphemes}
use Rattle.unicode_segmentation.proofs.SegmentsLemmas.{concat-segments}
use Rattle.termwiz_text.specs.First.{IsFirst}
use Rattle.termwiz_cell.specs.CellValue.{CellValue}
use Rattle.termwiz_cell.proofs.Graphemes.{graphemes-nothing, no_grapheme}
use Rattle.termwiz_storage.specs.Stored.{cell_at, stored, visible}
use Rattle.termwiz_storage.specs.VisibleCell.{VisibleCell}
use Rattle.termwiz_storage.proofs.VisibleAt.{cell_at-shown}
use Rattle.termwiz_screen.specs.Measured.{IsMeasured}
use Rattle.termwiz_screen.specs.Printable.{ArePrintable}
use Rattle.termwiz_surface.specs.Measuring.{AreMeasured}

module _ (P : CellValue → Type 0) where
  -- the cell at a column is one of the cells
  cell_at-one : (ps : List VisibleCell) (x : ℕ) (e : CellValue) → All (λ (p : VisibleCell). P p.cell) ps → cell_at ps x ≡ Some e → P e
  cell_at-one [] x e all h = cc
  cell_at-one (p ∷ ps) x e all h = elim (cases_Bool (p.column == x)) [
    | inl is ↦ subst P (same_Some p.cell e (rw is at h)) (All-head (λ (p : VisibleCell). P p.cell) p ps all)
    | inr other ↦ cell_at-one ps x e (All-tail (λ (p : VisibleCell). P p.cell) p ps all) (rw other at h)
  ]

pub measured_printable : (f : List ℕ → ℕ) (cells : List CellValue) → AreMeasured f cells → ArePrintable f cells
measured_printable f cells all = record {
  measured = λ k inside shown. cell_at-one (IsMeasured f) (visible cells) k (stored cells k) all (cell_at-shown cells k inside shown);
}

-- ---- one grapheme

pub empty_text : (text : List ℕ) → (length text == 0) ≡ true → text ≡ []
empty_text [] e = refl
empty_text (b ∷ text) e = let none : suc (length text) ≡ 0 = eqb-true _ _ e in absurd (omega arith)

-- nothing follows it
pub one_grapheme : (text first rest : List ℕ) → IsUtf8 text → IsFirst text first rest → rest ≡ [] → graphemes true text ≡ text ∷ []
one_grapheme text first rest is_text begins none =
    let one : graphemes true text ≡ first ∷ [] = begins.graphemes_are ∙ ap (λ (gs : List (List ℕ)). first ∷ gs) (ap (graphemes true) none ∙ graphemes-nothing) in
    let same : first ≡ text = sym (append-nil first) ∙ sym (ap concat one) ∙ concat-segments _ text is_text in
    one ∙ ap (λ (t : List ℕ). t ∷ []) same

-- where it is the text, nothing does
pub nothing_follows : (text first rest : List ℕ) → IsUtf8 rest → IsFirst text first rest → graphemes true text ≡ text ∷ [] → rest ≡ []
nothing_follows text first rest is_text begins one = no_grapheme rest is_text (ap (drop 1) (sym begins.graphemes_are ∙ one))
