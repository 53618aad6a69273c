-- The row of stored cells is printable, and their entries leave it.
use Rattle.std.proofs.Common.{◌≡◌, ℕ, ◌<◌, ◌≤◌, ◌⊎◌, inl, inr, false, List, length, arith, refl, sym, ap, ◌∙◌, subst}
use Rattle.std.proofs.lemmas.List.{get_or_past}
use Rattle.std.proofs.lemmas.Bool.{cases_lt}
use Rattle.termwiz_cell.specs.Attributes.{default_attributes}
use Rattle.termwiz_cell.specs.CellValue.{CellValue, blank, space}
use Rattle.termwiz_storage.specs.Stored.{stored, hides, visible}
use Rattle.termwiz_line.specs.Row.{row_of, visible_upto}
use Rattle.termwiz_line.specs.Entries.{row_entries}
use Rattle.termwiz_screen.specs.Screen.{Screen}
use Rattle.termwiz_screen.specs.Step.{replay}
use Rattle.termwiz_screen.specs.Measured.{IsMeasured}
use Rattle.termwiz_screen.specs.Printable.{ArePrintable, IsPrintableRow, IsAtBlankRow, LeavesRow}
use Rattle.termwiz_line.proofs.RowOf.{row_of_row, row_shows, hidden_row, visible_row}
use Rattle.termwiz_screen.proofs.Stored.{IsMeasured-blank}
use Rattle.termwiz_screen.proofs.Repaints.RowEntries.{row_done}

-- the row of printable cells is printable, be it cut or filled
pub line_printable : (f : List ℕ → ℕ) → f space ≡ 1 → (w : ℕ) (cells : List CellValue) → ArePrintable f cells → IsPrintableRow f w (row_of w cells)
line_printable f one w cells z = record {
  row = row_of_row w cells;
  measured = λ k l v. subst (IsMeasured f) (sym (row_shows w cells k l v)) (at k (sym (hidden_row w cells k (omega arith)) ∙ v) (cases_lt k (length cells)));
}
  where
    at : (k : ℕ) → hides cells k ≡ false → (k < length cells) ⊎ (length cells ≤ k) → IsMeasured f (stored cells k)
    at k v (inl l) = z.measured k l v
    at k v (inr l) = subst (IsMeasured f) (sym (get_or_past cells k blank l)) (IsMeasured-blank f default_attributes (record { space = one }))

pub line_done : (f : List ℕ → ℕ) → f space ≡ 1 → (s : Screen) (cells : List CellValue) → length cells ≡ s.width → ArePrintable f cells → IsAtBlankRow s →
    LeavesRow s (row_of s.width cells) (row_entries s.pen (visible cells)).pen (replay f s (row_entries s.pen (visible cells)).entries)
line_done f one s cells e m b =
    subst (λ ps. LeavesRow s (row_of s.width cells) (row_entries s.pen ps).pen (replay f s (row_entries s.pen ps).entries))
    (sym (visible_row cells ∙ ap (λ n. visible_upto (row_of n cells) n) e))
    (row_done f one s (row_of s.width cells) (line_printable f one s.width cells m) b.row b.blank_so s.pen b.column refl)
