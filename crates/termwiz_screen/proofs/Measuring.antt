-- The cell of a grapheme is measured.
use Rattle.std.proofs.Common.{◌≡◌, ℕ, ◌⊎◌, inl, inr, true, List, [], ◌∷◌, refl, ap}
use Rattle.std.specs.Str.{IsUtf8, bytes_eq}
use Rattle.std.proofs.lemmas.Bool.{cases_Bool}
use Rattle.unicode_segmentation.specs.Grapheme.{graphemes}
use Rattle.unicode_segmentation.proofs.Computing.{unicode_segmentation}
use Rattle.termwiz_cell.specs.Graphemes.{is_single, replacement, single}
use Rattle.termwiz_cell.proofs.Graphemes.{graphemes-single}
use Rattle.termwiz_cell.specs.CellValue.{is_control, clean, measured}
use Rattle.termwiz_cell.specs.Attributes.{Attributes}
use Rattle.termwiz_screen.specs.Measured.{IsMeasured}
use Rattle.termwiz_screen.proofs.Stored.{graphemes-space}

graphemes-replacement : graphemes true replacement ≡ replacement ∷ []
unfolding unicode_segmentation
graphemes-replacement = refl

single_alone : (g : List ℕ) → IsUtf8 g → graphemes true (single g) ≡ single g ∷ []
single_alone g u = elim (cases_Bool (is_single g)) [ inl t ↦ rw t (graphemes-single g u t) | inr t ↦ rw t graphemes-replacement ]

clean_cases : (t : List ℕ) → (clean t ≡ t) ⊎ (clean t ≡ 32 ∷ [])
clean_cases [] = inr refl
clean_cases (b ∷ []) = elim (cases_Bool (is_control b)) [ inl t ↦ inr (rw t refl) | inr t ↦ inl (rw t refl) ]
clean_cases (b ∷ (c ∷ t)) = elim (cases_Bool (bytes_eq (b ∷ (c ∷ t)) (13 ∷ 10 ∷ []))) [ inl h ↦ inr (rw h refl) | inr h ↦ inl (rw h refl) ]

pub IsMeasured-measured : (f : List ℕ → ℕ) (g : List ℕ) (pen : Attributes) → IsUtf8 g → IsMeasured f (measured f (single g) pen)
IsMeasured-measured f g pen u = elim (clean_cases (single g)) [
  | inl e ↦ record { alone = rw e (single_alone g u); is_clean = ap clean e; wide_is = refl }
  | inr e ↦ record { alone = rw e graphemes-space; is_clean = rw e refl; wide_is = refl }
]
