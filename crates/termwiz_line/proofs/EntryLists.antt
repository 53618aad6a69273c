-- Lists of visible cells and of entries, one more at the end at a time.
use Rattle.std.proofs.Common.{◌≡◌, true, false, cond, ◌&&◌, List, [], ◌∷◌, ◌++◌, refl, ap, ap₂, ◌∙◌}
use Rattle.termwiz_storage.specs.VisibleCell.{VisibleCell}
use Rattle.std.proofs.lemmas.Bool.{and_from, and_left, and_right, cond-true, cond-false}
use Rattle.termwiz_cell.specs.Attributes.{Attributes}
use Rattle.termwiz_line.specs.Entries.{is_space_of, all_spaces, trimmed, pen_behind, ends_plain, cells_out, with_tail, row_entries}

-- one cell more at the end
pub all_spaces_push : (a : Attributes) (ps : List VisibleCell) (p : VisibleCell) → is_space_of a p ≡ true → all_spaces a (ps ++ p ∷ []) ≡ all_spaces a ps
all_spaces_push a [] p h = and_from (is_space_of a p) true h refl
all_spaces_push a (q ∷ ps) p h = ap (λ b. is_space_of a q && b) (all_spaces_push a ps p h)

pub no_spaces_push : (a : Attributes) (ps : List VisibleCell) (p : VisibleCell) → is_space_of a p ≡ false → all_spaces a (ps ++ p ∷ []) ≡ false
no_spaces_push a [] p h = and_left (is_space_of a p) true h
no_spaces_push a (q ∷ ps) p h = and_right (is_space_of a q) _ (no_spaces_push a ps p h)

pub trimmed_push : (a : Attributes) (ps : List VisibleCell) (p : VisibleCell) → is_space_of a p ≡ true → trimmed a (ps ++ p ∷ []) ≡ trimmed a ps
trimmed_push a [] p h = cond-true (all_spaces a (p ∷ [])) [] (p ∷ []) (all_spaces_push a [] p h)
trimmed_push a (q ∷ ps) p h = ap₂ (λ b l. cond (is_space_of a q && b) [] (q ∷ l)) (all_spaces_push a ps p h) (trimmed_push a ps p h)

pub untrimmed_push : (a : Attributes) (ps : List VisibleCell) (p : VisibleCell) → is_space_of a p ≡ false → trimmed a (ps ++ p ∷ []) ≡ ps ++ p ∷ []
untrimmed_push a [] p h = cond-false (all_spaces a (p ∷ [])) [] (p ∷ []) (no_spaces_push a [] p h)
untrimmed_push a (q ∷ ps) p h =
    cond-false (all_spaces a (q ∷ (ps ++ p ∷ []))) [] (q ∷ trimmed a (ps ++ p ∷ [])) (no_spaces_push a (q ∷ ps) p h)
    ∙ ap (λ l. q ∷ l) (untrimmed_push a ps p h)

-- where the last cell is a plain space, the spaces at the end are left out
pub row_entries_plain : (pen : Attributes) (cells : List VisibleCell) (a : Attributes) → ends_plain cells ≡ true → pen_behind pen cells ≡ a →
    row_entries pen cells ≡ with_tail (cells_out pen (trimmed a cells)) (trimmed a cells) a
row_entries_plain pen cells a h e =
    let tailed = λ (b : Attributes). with_tail (cells_out pen (trimmed b cells)) (trimmed b cells) b in
    cond-true (ends_plain cells) (tailed (pen_behind pen cells)) (cells_out pen cells) h ∙ ap tailed e
