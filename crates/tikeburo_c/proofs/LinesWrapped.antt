-- Lines that are wrapped one after another.
use Rattle.std.proofs.Common.{ℕ, ◌≤◌, List, [], ◌∷◌, ◌++◌, append-nil, append_assoc, refl, sym, ap, ◌∙◌}
use Rattle.termwiz_line.specs.LineValue.{LineValue}
use Rattle.termwiz_line.specs.Wraps.{FitsWidth, IsWrapped}
use Rattle.tikeburo_c.specs.LineLists.{AreWrapped}

-- one more line, whose lines come after the others
pub wrapped_more : (width : ℕ) (lines : List LineValue) (line : LineValue) (new first : List LineValue) → AreWrapped width lines new → IsWrapped width 0 line first → (2 ≤ width → FitsWidth width line first) →
    AreWrapped width (lines ++ line ∷ []) (new ++ first)
wrapped_more width [] line new first are wrapped fits = (first, [], wrapped, fits, refl, ap (λ (l : List LineValue). l ++ first) are ∙ sym (append-nil first))
wrapped_more width (own ∷ lines) line new first (one, others, own_wrapped, own_fits, are, is) wrapped fits =
    (one, others ++ first, own_wrapped, own_fits, wrapped_more width lines line others first are wrapped fits, ap (λ (l : List LineValue). l ++ first) is ∙ append_assoc one others first)
