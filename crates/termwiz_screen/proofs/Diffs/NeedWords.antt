-- What is needed of a row, in words.
use Rattle.std.proofs.Common.{◌≡◌, ℕ, zero, suc, ◌+◌, ◌-◌, ◌≤◌, ◌⊎◌, true, false, not, cond, ◌||◌, nat_le, List, [], ◌∷◌, ◌++◌, map, filter, arith, inl, inr, le-leb, refl, sym, ap, ap₂, ◌∙◌}
use Rattle.std.proofs.lemmas.List.{map-append}
use Rattle.std.proofs.lemmas.List.Elements.{filter-append}
use Rattle.std.proofs.lemmas.Bool.{cases_Bool, lt-leb}
use Rattle.termwiz_cell.specs.CellValue.{CellValue}
use Rattle.termwiz_storage.specs.Stored.{stored}
use Rattle.termwiz_storage.specs.VisibleCell.{VisibleCell, at_column}
use Rattle.termwiz_line.specs.Row.{is_hidden, visible_upto}
use Rattle.termwiz_screen.specs.Diff.{shows, row_need}

module _ (a : List CellValue) (p : ℕ) (b : List CellValue) (q : ℕ) where
  worded : List VisibleCell → List VisibleCell
  worded cs = filter (λ c. not (shows a c.column c.cell)) (map (λ c. at_column (p + (c.column - q)) c.cell) (filter (λ c. nat_le q c.column) cs))

  worded-append : (cs ds : List VisibleCell) → worded (cs ++ ds) ≡ worded cs ++ worded ds
  unfolding worded
  worded-append cs ds =
      ap (λ l. filter (λ c. not (shows a c.column c.cell)) (map (λ c. at_column (p + (c.column - q)) c.cell) l)) (filter-append (λ c. nat_le q c.column) cs ds)
      ∙ ap (filter (λ c. not (shows a c.column c.cell))) (map-append (λ c. at_column (p + (c.column - q)) c.cell) (filter (λ c. nat_le q c.column) cs) (filter (λ c. nat_le q c.column) ds))
      ∙ filter-append (λ c. not (shows a c.column c.cell)) (map (λ c. at_column (p + (c.column - q)) c.cell) (filter (λ c. nat_le q c.column) cs)) (map (λ c. at_column (p + (c.column - q)) c.cell) (filter (λ c. nat_le q c.column) ds))

  left : (k : ℕ) → k ≤ q → worded (visible_upto b k) ≡ []
  unfolding worded
  left zero l = refl
  left (suc k) l = worded-append (visible_upto b k) (cond (is_hidden b k) [] (at_column k (stored b k) ∷ [])) ∙ ap₂ (λ x y. x ++ y) (left k (omega arith)) (last (cases_Bool (is_hidden b k)))
    where
      out : nat_le q k ≡ false
      out = lt-leb q k l

      last : (is_hidden b k ≡ true) ⊎ (is_hidden b k ≡ false) → worded (cond (is_hidden b k) [] (at_column k (stored b k) ∷ [])) ≡ []
      last (inl t) = rw t refl
      last (inr t) = rw (t, out) refl

  pub need_is : (n : ℕ) → row_need a p b q n ≡ filter (λ c. not (shows a c.column c.cell)) (map (λ c. at_column (p + (c.column - q)) c.cell) (filter (λ c. nat_le q c.column) (visible_upto b (q + n))))
  unfolding worded
  need_is zero = sym (left (q + 0) (omega arith))
  need_is (suc n) =
      ap₂ (λ x y. x ++ y) (need_is n) (sym (last (cases_Bool (is_hidden b (q + n)))))
      ∙ sym (worded-append (visible_upto b (q + n)) (cond (is_hidden b (q + n)) [] (at_column (q + n) (stored b (q + n)) ∷ [])))
      ∙ ap (λ m. worded (visible_upto b m)) next
    where
      next : suc (q + n) ≡ q + suc n
      next = omega arith

      inside : nat_le q (q + n) ≡ true
      inside = le-leb q (q + n) (omega arith)

      place : p + (q + n - q) ≡ p + n
      place = omega arith

      last : (is_hidden b (q + n) ≡ true) ⊎ (is_hidden b (q + n) ≡ false) →
          worded (cond (is_hidden b (q + n)) [] (at_column (q + n) (stored b (q + n)) ∷ [])) ≡ cond (is_hidden b (q + n) || shows a (p + n) (stored b (q + n))) [] (at_column (p + n) (stored b (q + n)) ∷ [])
      last (inl t) = rw t refl
      last (inr t) = rw (t, inside, place) (elim (cases_Bool (shows a (p + n) (stored b (q + n)))) [ inl s ↦ rw s refl | inr s ↦ rw s refl ])
