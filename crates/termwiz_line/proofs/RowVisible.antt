-- Painting what a row shows, column by column from the left, gives the row; so what a row shows fixes it, and a painted row is a row.
use Rattle.std.proofs.Common.{◌≡◌, ℕ, zero, suc, ◌<◌, ◌≤◌, true, false, cond, List, [], ◌∷◌, ◌++◌, length, fold, arith, inl, inr, ◌⊎◌, append-nil, le_refl, refl, sym, ap, ◌∙◌, subst}
use Rattle.std.proofs.lemmas.List.{get_or_past, ext_get_or}
use Rattle.std.proofs.lemmas.List.Sums.{fold_push}
use Rattle.std.proofs.lemmas.Bool.{cases_lt, cases_order, cases_Bool, false≢true}
use Rattle.termwiz_cell.specs.CellValue.{CellValue, blank, half, is_wide}
use Rattle.termwiz_storage.specs.Stored.{stored}
use Rattle.termwiz_storage.specs.VisibleCell.{VisibleCell, at_column}
use Rattle.termwiz_line.specs.Row.{IsRow, is_hidden, visible_upto, paint}
use Rattle.termwiz_line.proofs.RowPainting.{length-paint, paint_here, paint_second, paint_other}

-- paints in order, each a column and a cell
abbrev pub paint_all : List CellValue → List VisibleCell → List CellValue
paint_all r ps = fold (λ s p. paint s p.column p.cell) r ps

pub visible_hidden : (r : List CellValue) (k : ℕ) → is_hidden r k ≡ true → visible_upto r (suc k) ≡ visible_upto r k
visible_hidden r k h = rw (h, append-nil)

pub visible_shown : (r : List CellValue) (k : ℕ) → is_hidden r k ≡ false → visible_upto r (suc k) ≡ visible_upto r k ++ at_column k (stored r k) ∷ []
visible_shown r k h = rw h

-- how far a walk over b has settled once it stands at column k: one column more where that column is hidden
abbrev pub reach : List CellValue → ℕ → ℕ
reach b k = cond (is_hidden b k) (suc k) k

pub reach_hidden : (b : List CellValue) (k : ℕ) → is_hidden b k ≡ true → reach b k ≡ suc k
reach_hidden b k h = rw h

pub reach_visible : (b : List CellValue) (k : ℕ) → is_hidden b k ≡ false → reach b k ≡ k
reach_visible b k h = rw h

pub reach_ge : (b : List CellValue) (k : ℕ) → k ≤ reach b k
reach_ge b k = elim (cases_Bool (is_hidden b k)) [ inl t ↦ rw t (omega arith) | inr f ↦ rw f (omega arith) ]

-- left of its reach the row is b's, and from there on a's
pub record Between (w : ℕ) (a b : List CellValue) (k : ℕ) (s : List CellValue) : Type 0 where
  pub width : length s ≡ w
  pub left : (j : ℕ) → j < reach b k → stored s j ≡ stored b j
  pub right : (j : ℕ) → reach b k ≤ j → stored s j ≡ stored a j

-- a hidden cell is narrow
pub hidden_narrow : (w : ℕ) (b : List CellValue) (k : ℕ) → IsRow w b → k < w → is_hidden b k ≡ true → is_wide (stored b k) ≡ false
hidden_narrow w b zero rb l h = absurd (false≢true h)
hidden_narrow w b (suc j) rb l h = ap is_wide (rb.settled j l h)

-- past the width two rows agree
pub past_same : (w : ℕ) (s t : List CellValue) (k : ℕ) → length s ≡ w → length t ≡ w → w ≤ k → stored s k ≡ stored t k
past_same w s t k p q l = get_or_past s k blank (omega arith) ∙ sym (get_or_past t k blank (omega arith))

-- one column on: the cell is hidden, or is painted
pub between_hidden : (w : ℕ) (a b : List CellValue) (k : ℕ) (s : List CellValue) → IsRow w b → k < w → is_hidden b k ≡ true → Between w a b k s → Between w a b (suc k) s
between_hidden w a b k s rb l h i =
    let p : reach b k ≡ suc k = reach_hidden b k h in
    let q : reach b (suc k) ≡ suc k = reach_visible b (suc k) (hidden_narrow w b k rb l h) in
    record { width = i.width; left = λ j m. i.left j (omega arith); right = λ j m. i.right j (omega arith) }

pub between_painted : (w : ℕ) (a b : List CellValue) (k : ℕ) (s : List CellValue) → IsRow w b → k < w → is_hidden b k ≡ false → Between w a b k s → Between w a b (suc k) (paint s k (stored b k))
between_painted w a b k s rb l h i =
    record { width = length-paint s k x ∙ i.width; left = λ j m. left_of j m (cases_order j k); right = λ j m. right_of j m }
  where
    x : CellValue
    x = stored b k

    p : reach b k ≡ k
    p = reach_visible b k h

    wide_of : (j : ℕ) → suc j ≡ k → is_wide (stored s j) ≡ false
    wide_of j o = ap is_wide (i.left j (omega (arith, p))) ∙ subst (λ n. is_hidden b n ≡ false) (sym o) h

    right_of : (j : ℕ) → reach b (suc k) ≤ j → stored (paint s k (stored b k)) j ≡ stored a j
    right_of j m = elim (cases_Bool (is_wide (stored b k))) [
      | inl t ↦ (let q : reach b (suc k) ≡ suc (suc k) = reach_hidden b (suc k) t in
          paint_other s k (stored b k) j (omega (arith, p)) (λ o. absurd (omega (arith, p))) (λ o. absurd (omega (arith, p))) ∙ i.right j (omega (arith, p)))
      | inr f ↦ (let q : reach b (suc k) ≡ suc k = reach_visible b (suc k) f in
          paint_other s k (stored b k) j (omega (arith, p)) (λ o. f) (λ o. absurd (omega (arith, p))) ∙ i.right j (omega (arith, p)))
    ]

    second : (j : ℕ) → j < reach b (suc k) → k < j → stored (paint s k (stored b k)) j ≡ stored b j
    second j m g = elim (cases_Bool (is_wide (stored b k))) [
      | inl t ↦ (let q : reach b (suc k) ≡ suc (suc k) = reach_hidden b (suc k) t in
          let o : j ≡ suc k = omega (arith, p) in
          elim (cases_lt j w) [
            | inl lt ↦ paint_second s k (stored b k) j o (omega (arith, p, i.width)) t ∙ sym (subst (λ n. stored b n ≡ half (stored b k)) (sym o) (rb.settled k (omega (arith, p)) t))
            | inr ge ↦ past_same w (paint s k (stored b k)) b j (length-paint s k (stored b k) ∙ i.width) rb.width ge
          ])
      | inr f ↦ (let q : reach b (suc k) ≡ suc k = reach_visible b (suc k) f in absurd (omega (arith, p)))
    ]

    left_of : (j : ℕ) → j < reach b (suc k) → (j ≡ k) ⊎ ((j < k) ⊎ (k < j)) → stored (paint s k (stored b k)) j ≡ stored b j
    left_of j m (inl o) = paint_here s k (stored b k) j o (omega (arith, p, i.width)) ∙ ap (stored b) (sym o)
    left_of j m (inr (inl o)) =
        paint_other s k (stored b k) j (omega (arith, p)) (λ n. absurd (omega (arith, p))) (wide_of j) ∙ i.left j (omega (arith, p))
    left_of j m (inr (inr o)) = second j m o

-- painting every visible cell before column k
pub paint_visible : (w : ℕ) (a b : List CellValue) → IsRow w a → IsRow w b → (k : ℕ) → k ≤ w → Between w a b k (paint_all a (visible_upto b k))
paint_visible w a b ra rb zero l = record { width = ra.width; left = λ j h. absurd (omega arith); right = λ j h. refl }
paint_visible w a b ra rb (suc k) l = step (paint_visible w a b ra rb k (omega arith))
  where
    step : Between w a b k (paint_all a (visible_upto b k)) → Between w a b (suc k) (paint_all a (visible_upto b (suc k)))
    step i = elim (cases_Bool (is_hidden b k)) [
      | inl t ↦ subst (λ v. Between w a b (suc k) (paint_all a v)) (sym (visible_hidden b k t)) (between_hidden w a b k (paint_all a (visible_upto b k)) rb l t i)
      | inr f ↦ subst (λ v. Between w a b (suc k) (paint_all a v)) (sym (visible_shown b k f))
          (subst (Between w a b (suc k)) (sym (fold_push (λ s p. paint s p.column p.cell) a (visible_upto b k) (at_column k (stored b k))))
          (between_painted w a b k (paint_all a (visible_upto b k)) rb l f i))
    ]

-- every visible cell painted gives the row, whatever stood there
pub painted_whole : (w : ℕ) (a b : List CellValue) → IsRow w a → IsRow w b → paint_all a (visible_upto b w) ≡ b
painted_whole w a b ra rb = whole (paint_visible w a b ra rb w (le_refl w))
  where
    whole : Between w a b w (paint_all a (visible_upto b w)) → paint_all a (visible_upto b w) ≡ b
    whole i = ext_get_or blank (paint_all a (visible_upto b w)) b (i.width ∙ sym rb.width) (λ j h. i.left j (omega (arith, i.width, reach_ge b w)))

-- what a row shows fixes it
pub visible_fixes : (w : ℕ) (a b : List CellValue) → IsRow w a → IsRow w b → visible_upto a w ≡ visible_upto b w → a ≡ b
visible_fixes w a b ra rb e = sym (painted_whole w a a ra ra) ∙ ap (paint_all a) e ∙ painted_whole w a b ra rb
