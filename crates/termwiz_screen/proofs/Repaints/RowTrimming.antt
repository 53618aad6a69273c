-- The cells that the entries of a row leave out at its end: as a list, and as columns of the row.
use Rattle.std.proofs.Common.{◌≡◌, ℕ, zero, suc, ◌<◌, ◌≤◌, Bool, true, false, cond, List, [], ◌∷◌, length, arith, inl, inr, ◌⊎◌, bytes_eq, nat_lt, refl, sym, ap, ◌∙◌, subst}
use Rattle.std.proofs.lemmas.Bool.{cases_eq, cases_lt, cases_Bool, and_parts, cond-true, false≢true}
use Rattle.std.proofs.lemmas.Slice.Eq.{bytes_eq-Decides}
use Rattle.termwiz_cell.specs.Attributes.{Attributes, has_only_background, attributes_eq, attributes_eq-Decides}
use Rattle.termwiz_cell.specs.CellValue.{CellValue, space, blank_of, is_wide}
use Rattle.termwiz_storage.specs.Stored.{stored}
use Rattle.termwiz_storage.specs.VisibleCell.{VisibleCell, at_column}
use Rattle.termwiz_line.specs.Row.{is_hidden, visible_upto}
use Rattle.termwiz_line.specs.Entries.{is_space_of, all_spaces, trimmed, pen_behind, ends_plain}
use Rattle.termwiz_line.proofs.EntryLists.{all_spaces_push, trimmed_push, untrimmed_push}
use Rattle.termwiz_screen.specs.Measured.{IsMeasured}
use Rattle.termwiz_screen.specs.Printable.{IsPrintableRow}
use Rattle.termwiz_line.proofs.RowVisible.{visible_hidden, visible_shown, hidden_narrow}
use Rattle.termwiz_screen.proofs.RowChanges.Tails.{TailIs}

-- where the last cell is a plain space, something is left out
pub trimmed_shorter : (a : Attributes) (ps : List VisibleCell) → ends_plain ps ≡ true → length (trimmed (pen_behind a ps) ps) < length ps
trimmed_shorter a [] h = absurd (false≢true h)
trimmed_shorter a (p ∷ []) h =
    let s : all_spaces p.cell.attrs (p ∷ []) ≡ true = all_spaces_push p.cell.attrs [] p (and_parts (is_space_of p.cell.attrs p) (has_only_background p.cell.attrs) h).0 in
    omega (arith, ap length (cond-true (all_spaces p.cell.attrs (p ∷ [])) [] (p ∷ []) s))
trimmed_shorter a (p ∷ (q ∷ ps)) h = shorter (all_spaces (pen_behind p.cell.attrs (q ∷ ps)) (p ∷ (q ∷ ps))) _ (trimmed_shorter p.cell.attrs (q ∷ ps) h)
  where
    shorter : (b : Bool) (l : List VisibleCell) → length l < suc (length ps) → length (cond b [] (p ∷ l)) < suc (suc (length ps))
    shorter true l h = omega arith
    shorter false l h = omega arith

pub last_is_plain : (a : Attributes) (ps : List VisibleCell) → ends_plain ps ≡ true → has_only_background (pen_behind a ps) ≡ true
last_is_plain a [] h = absurd (false≢true h)
last_is_plain a (p ∷ []) h = (and_parts (is_space_of p.cell.attrs p) (has_only_background p.cell.attrs) h).1
last_is_plain a (p ∷ (q ∷ ps)) h = last_is_plain p.cell.attrs (q ∷ ps) h

-- the cells that are left are those before a column, and from it on the row is blank
pub record IsTrimmed (r : List CellValue) (a : Attributes) (n : ℕ) : Type 0 where
  pub kept : ℕ
  pub within : kept ≤ n
  pub cells_are : trimmed a (visible_upto r n) ≡ visible_upto r kept
  pub same : (j : ℕ) → kept ≤ j → j < n → (stored r j ≡ blank_of a) × (is_hidden r j ≡ false)

module _ (f : List ℕ → ℕ) (one : f space ≡ 1) where
  -- a measured space has one column
  pub space_is : (a : Attributes) (k : ℕ) (c : CellValue) → IsMeasured f c → is_space_of a (at_column k c) ≡ true → c ≡ blank_of a
  space_is a k c m h =
      let q = and_parts (bytes_eq c.text space) (attributes_eq c.attrs a) h in
      let text : c.text ≡ space = (bytes_eq-Decides c.text space).0 q.0 in
      let attrs : c.attrs ≡ a = (attributes_eq-Decides c.attrs a).0 q.1 in
      let wide : c.wide ≡ false = m.wide_is ∙ ap (λ t. nat_lt 1 (f t)) text ∙ ap (nat_lt 1) one in
      λ i. record { text = text i; wide = wide i; attrs = attrs i }

  wide_is_no_space : (a : Attributes) (k : ℕ) (c : CellValue) → IsMeasured f c → is_wide c ≡ true → is_space_of a (at_column k c) ≡ false
  wide_is_no_space a k c m h = elim (cases_Bool (is_space_of a (at_column k c))) [
    | inl t ↦ absurd (false≢true (sym (ap is_wide (space_is a k c m t)) ∙ h))
    | inr n ↦ n
  ]

  -- a hidden column stands after a wide cell, which is no space
  behind_wide : (w n : ℕ) (r : List CellValue) (a : Attributes) → IsPrintableRow f w r → n < w → is_hidden r n ≡ true → trimmed a (visible_upto r n) ≡ visible_upto r n
  behind_wide w zero r a z l h = absurd (false≢true h)
  behind_wide w (suc m) r a z l h =
      let v : is_hidden r m ≡ false = shown (cases_Bool (is_hidden r m)) in
      subst (λ ps. trimmed a ps ≡ ps) (sym (visible_shown r m v))
      (untrimmed_push a (visible_upto r m) (at_column m (stored r m)) (wide_is_no_space a m (stored r m) (z.measured m (omega arith) v) h))
    where
      shown : (is_hidden r m ≡ true) ⊎ (is_hidden r m ≡ false) → is_hidden r m ≡ false
      shown (inl t) = absurd (false≢true (sym (hidden_narrow w r m z.row (omega arith) t) ∙ h))
      shown (inr v) = v

  pub trimmed_columns : (w : ℕ) (r : List CellValue) (a : Attributes) → IsPrintableRow f w r → (n : ℕ) → n ≤ w → IsTrimmed r a n
  trimmed_columns w r a z zero l = record { kept = 0; within = omega arith; cells_are = refl; same = λ j k m. absurd (omega arith) }
  trimmed_columns w r a z (suc n) l = next (trimmed_columns w r a z n (omega arith)) (cases_Bool (is_hidden r n)) (cases_Bool (is_space_of a (at_column n (stored r n))))
    where
      next : IsTrimmed r a n → (is_hidden r n ≡ true) ⊎ (is_hidden r n ≡ false) → (is_space_of a (at_column n (stored r n)) ≡ true) ⊎ (is_space_of a (at_column n (stored r n)) ≡ false) → IsTrimmed r a (suc n)
      next t (inl h) s = record {
        kept = suc n;
        within = omega arith;
        cells_are = ap (trimmed a) (visible_hidden r n h) ∙ behind_wide w n r a z l h ∙ sym (visible_hidden r n h);
        same = λ j k m. absurd (omega arith);
      }
      next t (inr v) (inr s) = record {
        kept = suc n;
        within = omega arith;
        cells_are = ap (trimmed a) (visible_shown r n v) ∙ untrimmed_push a (visible_upto r n) (at_column n (stored r n)) s ∙ sym (visible_shown r n v);
        same = λ j k m. absurd (omega arith);
      }
      next t (inr v) (inl s) = record {
        kept = t.kept;
        within = omega (arith, t.within);
        cells_are = ap (trimmed a) (visible_shown r n v) ∙ trimmed_push a (visible_upto r n) (at_column n (stored r n)) s ∙ t.cells_are;
        same = λ j k m. elim (cases_eq j n) [
          | inl o ↦ subst (λ i. (stored r i ≡ blank_of a) × (is_hidden r i ≡ false)) (sym o) (space_is a n (stored r n) (z.measured n l v) s, v)
          | inr o ↦ t.same j k (omega arith)
        ];
      }

-- where the last cell is a plain space, the row after the cells that are left is blank in its
-- colour
pub trimmed_tail : (w : ℕ) (r : List CellValue) (p : Attributes) → ends_plain (visible_upto r w) ≡ true → (t : IsTrimmed r (pen_behind p (visible_upto r w)) w) → TailIs w r t.kept (blank_of (pen_behind p (visible_upto r w)))
trimmed_tail w r p h t = record { inside = inside; visible = (t.same t.kept (omega arith) inside).1; same = λ j m n. (t.same j m n).0 }
  where
    inside : t.kept < w
    inside = elim (cases_lt t.kept w) [
      | inl l ↦ l
      | inr g ↦ (let e : t.kept ≡ w = omega (arith, t.within) in
          absurd (omega (arith, trimmed_shorter p (visible_upto r w) h, ap length t.cells_are, ap (λ k. length (visible_upto r k)) e)))
    ]
