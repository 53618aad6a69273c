-- The row of stored cells is a row, and shows what a walk of the cells meets.
use Rattle.std.proofs.Common.{◌≡◌, ℕ, zero, suc, ◌-◌, ◌<◌, ◌≤◌, Bool, true, false, cond, not, ◌&&◌, List, [], ◌∷◌, ◌++◌, length, drop, length-take, arith, inl, inr, append-nil, append_assoc, add-one, drop-cons, le_refl, refl, sym, ap, ap₂, ◌∙◌}
use Rattle.std.proofs.lemmas.List.{ext_get_or, get_or-take}
use Rattle.std.proofs.lemmas.List.FromFn.{get_or-map-range_with_len, length-map-range_with_len}
use Rattle.std.proofs.lemmas.Bool.{cases_Bool, and_parts, and_from, and_left, and_right, not_from_true, not_from_false, not-true, false≢true}
use Rattle.std.proofs.Math.Seq.{drop-length}
use Rattle.termwiz_cell.specs.CellValue.{CellValue, blank, half, is_wide}
use Rattle.termwiz_storage.specs.Stored.{stored, padded, visible, visible_from, hides}
use Rattle.termwiz_storage.proofs.Halves.{length-padded}
use Rattle.termwiz_storage.proofs.SetCell.{stored-padded}
use Rattle.termwiz_storage.specs.VisibleCell.{VisibleCell, at_column}
use Rattle.termwiz_line.specs.RowLaws.{first_cells}
use Rattle.termwiz_line.proofs.RowVisible.{visible_fixes}
use Rattle.termwiz_line.specs.Row.{IsRow, is_hidden, visible_upto, settled_at, row_of}

pub length-row_of : (w : ℕ) (cs : List CellValue) → length (row_of w cs) ≡ w
unfolding row_of
length-row_of w cs = length-map-range_with_len (settled_at cs) 0 w

pub row_of_at : (w : ℕ) (cs : List CellValue) (k : ℕ) → k < w → stored (row_of w cs) k ≡ settled_at cs k
unfolding row_of
row_of_at w cs k l = get_or-map-range_with_len (settled_at cs) 0 w k k blank l (omega arith)

pub settled_hidden : (cs : List CellValue) (k : ℕ) → hides cs k ≡ true → is_wide (settled_at cs k) ≡ false
settled_hidden cs zero h = absurd (false≢true h)
settled_hidden cs (suc k) h = rw h

pub settled_visible : (cs : List CellValue) (k : ℕ) → hides cs k ≡ false → settled_at cs k ≡ stored cs k
settled_visible cs zero h = refl
settled_visible cs (suc k) h = rw h

-- the row hides what the cells hide
pub hidden_row : (w : ℕ) (cs : List CellValue) (k : ℕ) → k ≤ w → is_hidden (row_of w cs) k ≡ hides cs k
hidden_row w cs zero l = refl
hidden_row w cs (suc k) l = ap is_wide (row_of_at w cs k l) ∙ elim (cases_Bool (hides cs k)) [
  | inl t ↦ settled_hidden cs k t ∙ sym (and_right _ _ (not_from_true _ t))
  | inr f ↦ ap is_wide (settled_visible cs k f) ∙ visible_one f
]
  where
    visible_one : hides cs k ≡ false → is_wide (stored cs k) ≡ (is_wide (stored cs k) && not (hides cs k))
    visible_one f = elim (cases_Bool (is_wide (stored cs k))) [ inl t ↦ t ∙ sym (and_from _ _ t (not_from_false _ f)) | inr g ↦ g ∙ sym (and_left _ _ g) ]

pub row_of_row : (w : ℕ) (cs : List CellValue) → IsRow w (row_of w cs)
row_of_row w cs = record { width = length-row_of w cs; settled = λ k l h. second k l h }
  where
    second : (k : ℕ) → suc k < w → is_wide (stored (row_of w cs) k) ≡ true → stored (row_of w cs) (suc k) ≡ half (stored (row_of w cs) k)
    second k l h =
        let hk : hides cs (suc k) ≡ true = sym (hidden_row w cs (suc k) (omega arith)) ∙ h in
        let vk : hides cs k ≡ false = not-true (hides cs k) (and_parts (is_wide (stored cs k)) (not (hides cs k)) hk).1 in
        let p : settled_at cs (suc k) ≡ half (stored cs k) = rw hk in
        row_of_at w cs (suc k) l ∙ p ∙ sym (ap half (row_of_at w cs k (omega arith) ∙ settled_visible cs k vk))

-- a visible column of the row shows the stored cell
pub row_shows : (w : ℕ) (cs : List CellValue) (k : ℕ) → k < w → is_hidden (row_of w cs) k ≡ false → stored (row_of w cs) k ≡ stored cs k
row_shows w cs k l v = row_of_at w cs k l ∙ settled_visible cs k (sym (hidden_row w cs k (omega arith)) ∙ v)

-- what a walk that stands at index k has still to meet
abbrev pub walk_from : List CellValue → ℕ → List VisibleCell
walk_from cs k = visible_from k (cond (hides cs k) 1 0) (drop k cs)

-- the cell at a column, where it is not hidden
abbrev met : Bool → ℕ → CellValue → List VisibleCell
met h k c = cond h [] (at_column k c ∷ [])

walk_step : (k : ℕ) (h : Bool) (c : CellValue) (rest : List CellValue) → visible_from k (cond h 1 0) (c ∷ rest) ≡ met h k c ++ visible_from (suc k) (cond (is_wide c && not h) 1 0) rest
walk_step k true c rest = ap₂ (λ i skip. visible_from i skip rest) (add-one k) (nothing (is_wide c))
  where
    nothing : (b : Bool) → zero ≡ cond {A = ℕ} (b && false) 1 0
    nothing true = refl
    nothing false = refl
walk_step k false c rest = ap₂ (λ i skip. at_column k c ∷ visible_from i skip rest) (add-one k) (behind (is_wide c))
  where
    behind : (b : Bool) → cond {A = ℕ} b 2 1 - 1 ≡ cond {A = ℕ} (b && true) 1 0
    behind true = refl
    behind false = refl

-- what the row shows at column k is what the walk meets there
walk_next : (cs : List CellValue) (k : ℕ) → k < length cs → met (is_hidden (row_of (length cs) cs) k) k (stored (row_of (length cs) cs) k) ++ walk_from cs (suc k) ≡ walk_from cs k
walk_next cs k l =
    ap (λ ps. ps ++ walk_from cs (suc k)) (shown (is_hidden (row_of (length cs) cs) k) refl)
    ∙ sym (ap (visible_from k (cond (hides cs k) 1 0)) (drop-cons cs k blank l) ∙ walk_step k (hides cs k) (stored cs k) (drop (suc k) cs))
  where
    shown : (b : Bool) → is_hidden (row_of (length cs) cs) k ≡ b → met (is_hidden (row_of (length cs) cs) k) k (stored (row_of (length cs) cs) k) ≡ met (hides cs k) k (stored cs k)
    shown true t = ap (λ h. met h k (stored (row_of (length cs) cs) k)) t ∙ ap (λ h. met h k (stored cs k)) (sym t ∙ hidden_row (length cs) cs k (omega arith))
    shown false v =
        ap (met (is_hidden (row_of (length cs) cs) k) k) (row_shows (length cs) cs k l v)
        ∙ ap (λ h. met h k (stored cs k)) (hidden_row (length cs) cs k (omega arith))

-- the visible cells of the row are those of the cells
pub visible_row : (cs : List CellValue) → visible cs ≡ visible_upto (row_of (length cs) cs) (length cs)
visible_row cs =
    sym (upto (length cs) (le_refl (length cs)))
    ∙ ap (λ l. visible_upto (row_of (length cs) cs) (length cs) ++ visible_from (length cs) (cond (hides cs (length cs)) 1 0) l) (drop-length cs)
    ∙ append-nil (visible_upto (row_of (length cs) cs) (length cs))
  where
    upto : (k : ℕ) → k ≤ length cs → visible_upto (row_of (length cs) cs) k ++ walk_from cs k ≡ visible cs
    upto zero l = refl
    upto (suc k) l =
        append_assoc (visible_upto (row_of (length cs) cs) k) _ (walk_from cs (suc k))
        ∙ ap (λ ps. visible_upto (row_of (length cs) cs) k ++ ps) (walk_next cs k l) ∙ upto k (omega arith)

-- the row looks at the first w cells alone
hides_same : (cs ds : List CellValue) (k : ℕ) → ((j : ℕ) → j < k → stored cs j ≡ stored ds j) → hides cs k ≡ hides ds k
hides_same cs ds zero e = refl
hides_same cs ds (suc k) e = ap₂ (λ (c : CellValue) (h : Bool). is_wide c && not h) (e k (omega arith)) (hides_same cs ds k (λ j l. e j (omega arith)))

settled_same : (cs ds : List CellValue) (k : ℕ) → ((j : ℕ) → j ≤ k → stored cs j ≡ stored ds j) → settled_at cs k ≡ settled_at ds k
settled_same cs ds zero e = e 0 (omega arith)
settled_same cs ds (suc k) e = rw (hides_same cs ds (suc k) (λ j l. e j (omega arith)), e k (omega arith), e (suc k) (le_refl (suc k))) refl

row_of_same : (w : ℕ) (cs ds : List CellValue) → ((j : ℕ) → j < w → stored cs j ≡ stored ds j) → row_of w cs ≡ row_of w ds
row_of_same w cs ds e = ext_get_or blank (row_of w cs) (row_of w ds) (length-row_of w cs ∙ sym (length-row_of w ds)) (λ k l.
    let m : k < w = omega (arith, length-row_of w cs) in
    row_of_at w cs k m ∙ settled_same cs ds k (λ j n. e j (omega arith)) ∙ sym (row_of_at w ds k m))

-- the row shows what the walk of its cells meets
pub row-visible : (w : ℕ) (cs : List CellValue) → visible_upto (row_of w cs) w ≡ visible (first_cells w cs)
row-visible w cs =
    let len : length (first_cells w cs) ≡ w = simp length-take (omega (arith, (length-padded w cs).0)) in
    let same : row_of w cs ≡ row_of w (first_cells w cs) = row_of_same w cs (first_cells w cs) (λ j l. sym (get_or-take w (padded w cs) j blank l ∙ stored-padded w cs j)) in
    sym (visible_row (first_cells w cs) ∙ ap (λ n. visible_upto (row_of n (first_cells w cs)) n) len ∙ ap (λ r. visible_upto r w) (sym same))

pub row_of-fixed : (w : ℕ) (cs ds : List CellValue) → visible (first_cells w cs) ≡ visible (first_cells w ds) → row_of w cs ≡ row_of w ds
row_of-fixed w cs ds e = visible_fixes w (row_of w cs) (row_of w ds) (row_of_row w cs) (row_of_row w ds) (row-visible w cs ∙ e ∙ sym (row-visible w ds))
