-- Facts on graphemes.
use Rattle.std.proofs.Common.{◌≡◌, ℕ, ◌<◌, true, List, [], ◌∷◌, length, refl, sym, ap, ◌∙◌, arith, append-nil, if◌then◌else◌}
use Rattle.std.specs.Prelude.{◌==◌}
use Rattle.std.specs.List.{concat}
use Rattle.std.specs.Str.{IsUtf8}
use Rattle.std.proofs.lemmas.Bool.{eqb-true}
use Rattle.unicode_segmentation.specs.Grapheme.{graphemes}
use Rattle.unicode_segmentation.proofs.Computing.{unicode_segmentation}
use Rattle.unicode_segmentation.proofs.SegmentsLemmas.{concat-segments}
use Rattle.termwiz_cell.specs.Graphemes.{is_single, single, replacement}

one_of : (ps : List (List ℕ)) (t : List ℕ) → concat ps ≡ t → (length ps == 1) ≡ true → ps ≡ t ∷ []
one_of [] t e h = cc
one_of (p ∷ []) t e h = ap (λ x. x ∷ []) (sym (append-nil p) ∙ e)
one_of (p ∷ q ∷ ps) t e h = let n : length (p ∷ q ∷ ps) ≡ 1 = eqb-true _ _ h in absurd (omega arith)

-- the test finds the texts that are one grapheme
pub graphemes-single : (t : List ℕ) → IsUtf8 t → is_single t ≡ true → graphemes true t ≡ t ∷ []
graphemes-single t u h = one_of (graphemes true t) t (concat-segments _ t u) h

-- a grapheme by itself is stored as it is
pub single_same : (g : List ℕ) → graphemes true g ≡ g ∷ [] → single g ≡ g
single_same g h = ap (λ ps. if length ps == 1 then g else replacement) h

-- a text of nothing has no grapheme
pub graphemes-nothing : graphemes true [] ≡ []
unfolding unicode_segmentation
graphemes-nothing = refl

-- and no other one
pub no_grapheme : (t : List ℕ) → IsUtf8 t → graphemes true t ≡ [] → t ≡ []
no_grapheme t u h = sym (concat-segments _ t u) ∙ ap concat h

-- a grapheme by itself is no empty text
pub alone_some : (g : List ℕ) → graphemes true g ≡ g ∷ [] → 0 < length g
alone_some [] h = let no : ◌≡◌ {A = List (List ℕ)} [] ([] ∷ []) = sym graphemes-nothing ∙ h in cc
alone_some (b ∷ g) h = omega arith
