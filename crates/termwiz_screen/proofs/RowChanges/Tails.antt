-- Rows whose tail is one blank: painting what they show before it, and clearing the rest, gives the row.
use Rattle.std.proofs.Common.{◌≡◌, ℕ, ◌<◌, ◌≤◌, false, List, length, replicate, arith, inl, inr, sym, ap, ◌∙◌, subst}
use Rattle.std.proofs.lemmas.List.{ext_get_or, get_or-replicate, length-replicate}
use Rattle.std.proofs.lemmas.Bool.{cases_lt, false≢true}
use Rattle.termwiz_cell.specs.Attributes.{Attributes, default_attributes}
use Rattle.termwiz_cell.specs.CellValue.{CellValue, blank, blank_of, is_wide}
use Rattle.termwiz_storage.specs.Stored.{stored}
use Rattle.termwiz_line.specs.Row.{IsRow, is_hidden, visible_upto, clear}
use Rattle.termwiz_line.proofs.RowPainting.{length-clear, clear_from, clear_left}
use Rattle.termwiz_line.proofs.RowVisible.{paint_all, Between, reach, reach_visible, paint_visible}

-- from column k on, which is not hidden, the row has this cell alone
pub record TailIs (w : ℕ) (r : List CellValue) (k : ℕ) (x : CellValue) : Type 0 where
  pub inside : k < w
  pub visible : is_hidden r k ≡ false
  pub same : (j : ℕ) → k ≤ j → j < w → stored r j ≡ x

-- the cells before column k painted and the rest cleared give the row, where its tail is what is cleared to
pub painted_cleared : (w k : ℕ) (a b : List CellValue) (x : CellValue) → IsRow w a → IsRow w b → TailIs w b k x → clear (paint_all a (visible_upto b k)) k x ≡ b
painted_cleared w k a b x ra rb t = whole (paint_visible w a b ra rb k (omega (arith, t.inside)))
  where
    whole : Between w a b k (paint_all a (visible_upto b k)) → clear (paint_all a (visible_upto b k)) k x ≡ b
    whole i = ext_get_or blank (clear s k x) b (length-clear s k x ∙ i.width ∙ sym rb.width) each
      where
        s : List CellValue
        s = paint_all a (visible_upto b k)

        p : reach b k ≡ k
        p = reach_visible b k t.visible

        each : (j : ℕ) → j < length (clear s k x) → stored (clear s k x) j ≡ stored b j
        each j h = elim (cases_lt j k) [
          | inl l ↦ clear_left s k x j (omega (arith, i.width, t.inside)) l
              (λ e. ap is_wide (i.left j (omega (arith, p))) ∙ subst (λ n. is_hidden b n ≡ false) (sym e) t.visible) ∙ i.left j (omega (arith, p))
          | inr m ↦ clear_from s k x j (omega (arith, length-clear s k x)) m ∙ sym (t.same j m (omega (arith, i.width, length-clear s k x)))
        ]

pub blank_row : (w : ℕ) (a : Attributes) → IsRow w (replicate w (blank_of a))
blank_row w a = record { width = length-replicate w (blank_of a); settled = λ k l h. absurd (false≢true (sym (ap is_wide (get_or-replicate w k (blank_of a) blank (omega arith))) ∙ h)) }

-- where the tail is the blank that stands there already, nothing is cleared
pub painted_trimmed : (w k : ℕ) (b : List CellValue) → IsRow w b → TailIs w b k blank → paint_all (replicate w blank) (visible_upto b k) ≡ b
painted_trimmed w k b rb t = whole (paint_visible w (replicate w blank) b (blank_row w default_attributes) rb k (omega (arith, t.inside)))
  where
    p : reach b k ≡ k
    p = reach_visible b k t.visible

    whole : Between w (replicate w blank) b k (paint_all (replicate w blank) (visible_upto b k)) → paint_all (replicate w blank) (visible_upto b k) ≡ b
    whole i = ext_get_or blank (paint_all (replicate w blank) (visible_upto b k)) b (i.width ∙ sym rb.width)
        (λ j h. elim (cases_lt j k) [
          | inl l ↦ i.left j (omega (arith, p))
          | inr m ↦ i.right j (omega (arith, p)) ∙ get_or-replicate w j blank blank (omega (arith, i.width)) ∙ sym (t.same j m (omega (arith, i.width)))
        ])
